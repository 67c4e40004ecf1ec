pub mod Partners
pub mod Slots
pub mod Rows
pub mod Spans
pub mod Completed
