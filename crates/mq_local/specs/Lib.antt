pub mod Holds
pub mod Kept
pub mod Many
pub mod Outcome
