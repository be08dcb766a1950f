pub mod Answers
pub mod Bytes
pub mod Commands
pub mod Flags
pub mod Layout
pub mod Logs
pub mod Refusals
pub mod Turns
