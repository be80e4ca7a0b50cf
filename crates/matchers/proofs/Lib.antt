pub mod Listing
pub mod Meaning
pub mod Stepping
pub mod Suffixes
pub mod Turning
