pub mod Counting
pub mod Faults
pub mod Gathering
pub mod Filling
pub mod Walking
pub mod Gatherers
