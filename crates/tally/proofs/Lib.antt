pub mod Together
pub mod Joining
pub mod Tallying
