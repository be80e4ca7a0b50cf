pub mod Patterns
pub mod Walks
pub mod Words
