pub mod Entries
pub mod Opened
pub mod Promise
pub mod Ranges
pub mod Statement
