pub mod Layout
pub mod Header
pub mod Records
pub mod Reader
pub mod Encoding
