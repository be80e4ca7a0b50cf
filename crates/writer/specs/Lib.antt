pub mod Puts
pub mod Walk
pub mod Writing
