pub mod Listed
pub mod Outcomes
pub mod Putting
pub mod Spelling
pub mod Walking
