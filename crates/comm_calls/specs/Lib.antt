pub mod Functions
pub mod Parameters
pub mod Numbers
pub mod Lists
pub mod Actions
pub mod Uses
pub mod Calls
