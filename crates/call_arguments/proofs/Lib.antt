pub mod Found
pub mod Nothing
