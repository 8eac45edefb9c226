pub mod Named
pub mod Theory
pub mod OfEachTask
