pub mod Devices
pub mod Paged
pub mod Stores
pub mod Found
pub mod Frames
pub mod Enabled
mod Nothing
mod Views
pub mod Chosen
