pub mod Emitting
pub mod Parts
