mod Joining
pub mod Knowing
pub mod Heard
mod Lines
mod Told
