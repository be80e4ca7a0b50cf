pub mod Walks
pub mod Roles
