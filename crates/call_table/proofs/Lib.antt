pub mod Ordered
pub mod TwoRows
