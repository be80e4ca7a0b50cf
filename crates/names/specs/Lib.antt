pub mod Identifiers
pub mod Names
pub mod Order
pub mod Texts
pub mod Laws
