pub mod Filling
pub mod Foreign
pub mod Identifying
pub mod Table
