pub mod Bytes
pub mod Ends
pub mod Events
pub mod Lists
pub mod Parts
pub mod Places
pub mod Sheets
