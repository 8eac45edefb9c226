pub mod Wanted
pub mod Meanings
