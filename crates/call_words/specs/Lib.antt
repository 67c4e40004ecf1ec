pub mod Texts
pub mod Seconds
pub mod Ranges
pub mod More
pub mod Words
pub mod Functions
pub mod Names
