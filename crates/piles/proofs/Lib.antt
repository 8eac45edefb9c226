pub mod Alike
pub mod Inside
pub mod Paired
