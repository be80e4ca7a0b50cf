pub mod Places
pub mod Inserting
pub mod Mapping
pub mod Shifting
pub mod Standing
