pub mod Fronts
pub mod Stack
pub mod Moves
pub mod Bounds
pub mod Running
pub mod Found
