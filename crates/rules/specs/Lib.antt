pub mod Meaning
pub mod Judged
pub mod Lawful
pub mod Search
pub mod EachTask
pub mod Laws
