pub mod Shapes
pub mod Cutting
pub mod Zeros
pub mod Exponents
pub mod Texts
pub mod Figures
pub mod Sorting
pub mod Readings
pub mod Runs
pub mod Verdicts
mod Examples
