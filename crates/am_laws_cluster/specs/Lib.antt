pub mod Channels
pub mod Homes
pub mod Packets
pub mod Disk
pub mod Choices
