pub mod Endings
pub mod Again
pub mod Lines
pub mod Titled
pub mod Quiet
pub mod Read
pub mod Faulted
pub mod Spelled
mod Each
mod Explained
