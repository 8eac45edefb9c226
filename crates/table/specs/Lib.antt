pub mod Rows
pub mod Row
pub mod Shape
pub mod Alike
pub mod Stored
pub mod Table
pub mod Put
pub mod Placed
