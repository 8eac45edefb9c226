pub mod Pair
pub mod Scoped
pub mod Waiver
pub mod Waive
pub mod Confinement
pub mod Laws
