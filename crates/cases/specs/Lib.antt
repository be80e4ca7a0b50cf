pub mod Cases
pub mod Expander
