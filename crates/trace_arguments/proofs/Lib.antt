pub mod Lists
pub mod Members
pub mod Keys
pub mod Added
