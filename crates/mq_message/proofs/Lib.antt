pub mod Lowest
pub mod Places
