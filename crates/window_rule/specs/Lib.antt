pub mod Windows
pub mod Tests
