pub mod Known
pub mod Table
pub mod Places
pub mod Names
pub mod Counts
pub mod Told
