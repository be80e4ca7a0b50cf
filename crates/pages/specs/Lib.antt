pub mod Kinds
pub mod Trees
pub mod Shape
pub mod Refusals
pub mod Pending
