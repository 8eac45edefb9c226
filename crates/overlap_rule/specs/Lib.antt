pub mod Instances
pub mod Overlaps
pub mod Search
pub mod Laws
