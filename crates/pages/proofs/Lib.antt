pub mod Comparing
pub mod Filling
pub mod Judging
pub mod Verdicts
pub mod OneTree
pub mod Walking
pub mod Fineness
