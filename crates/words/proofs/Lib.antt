pub mod Chunks
pub mod Encoded
