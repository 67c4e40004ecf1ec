pub mod Adding
pub mod Ranging
