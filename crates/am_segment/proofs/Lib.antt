pub mod Spelled
pub mod Steps
pub mod Grown
pub mod Sizes
pub mod Lawfully
