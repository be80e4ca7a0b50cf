pub mod Words
pub mod Grammar
pub mod Written
pub mod Reading
pub mod Scan
