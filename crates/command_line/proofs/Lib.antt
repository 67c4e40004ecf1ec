pub mod Ends
pub mod Ranks
pub mod Rows
pub mod Threads
