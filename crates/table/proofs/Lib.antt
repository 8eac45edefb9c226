pub mod Shapes
mod Slots
pub mod Known
pub mod Spread
