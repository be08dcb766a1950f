pub mod Blocks
pub mod LentSet
pub mod Fit
pub mod Nodes
pub mod Laws
pub mod Trees
