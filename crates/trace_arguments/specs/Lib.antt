pub mod Calls
pub mod Values
pub mod Differing
pub mod Groups
pub mod Arguments
pub mod Truncated
