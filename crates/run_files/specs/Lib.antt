pub mod Fields
pub mod Layouts
pub mod Manifests
pub mod Numbers
pub mod Schedules
pub mod Stores
pub mod Values
