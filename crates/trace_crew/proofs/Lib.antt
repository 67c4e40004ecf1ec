mod Keeping
pub mod Reading
pub mod Sorting
pub mod Crewing
pub mod Scheduling
