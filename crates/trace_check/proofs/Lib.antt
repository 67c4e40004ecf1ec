pub mod SameTables
pub mod Lists
pub mod Judged
pub mod Elsewhere
pub mod Told
