pub mod Doubles
pub mod Places
pub mod Runs
pub mod Apart
pub mod Sizes
pub mod Spans
pub mod Alike
