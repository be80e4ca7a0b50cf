pub mod Deciding
pub mod Numeral
