pub mod Texts
pub mod Names
pub mod Sizes
pub mod Making
pub mod Words
pub mod Seats
pub mod Summary
pub mod Found
