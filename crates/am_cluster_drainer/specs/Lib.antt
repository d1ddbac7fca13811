pub mod Reads
pub mod Stops
pub mod Firsts
pub mod Falling
pub mod Choices
