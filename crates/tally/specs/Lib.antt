pub mod Sums
pub mod Calls
pub mod Steps
pub mod Counts
