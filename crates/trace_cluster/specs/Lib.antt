pub mod Stream
pub mod Exchange
pub mod Meeting
pub mod Pieces
pub mod Clustered
pub mod Stopped
pub mod Crews
