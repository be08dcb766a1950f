pub mod Laws
pub mod Selection
pub mod Shown
pub mod Waiting
pub mod Worked
