pub mod View
pub mod Room
pub mod Reads
pub mod Changes
