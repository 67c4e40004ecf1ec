pub mod Printing
pub mod Counted
pub mod Pages
pub mod Finished
pub mod Shapes
pub mod Each
pub mod Conditions
pub mod Arrays
