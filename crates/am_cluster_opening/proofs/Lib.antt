mod Scripted
mod Seated
mod Opened
mod Linked
pub mod Kept
pub mod Lists
pub mod Fresh
pub mod Booked
pub mod NodesOpened
