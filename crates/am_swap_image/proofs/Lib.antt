pub mod Fields
pub mod Messages
pub mod Parts
pub mod Sizes
pub mod Bodies
mod Examples
