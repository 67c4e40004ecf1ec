pub mod Answer
pub mod Certainty
pub mod Stopped
pub mod Node
pub mod Codes
pub mod Following
pub mod Schedule
pub mod ByRank
