pub mod Dependencies
pub mod Link
pub mod Laws
