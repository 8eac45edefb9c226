pub mod Book
pub mod Conditions
pub mod Found
