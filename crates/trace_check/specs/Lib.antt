pub mod Right
pub mod Lines
pub mod Printed
pub mod Checker
pub mod Codes
