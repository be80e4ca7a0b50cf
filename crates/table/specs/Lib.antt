pub mod Rows
pub mod Maps
pub mod Calls
pub mod Search
