pub mod Coded
pub mod Headers
pub mod Places
pub mod Shows
pub mod Standing
