pub mod Words
pub mod Waits
pub mod Report
pub mod Json
pub mod Forms
pub mod Page
pub mod BrokenOff
