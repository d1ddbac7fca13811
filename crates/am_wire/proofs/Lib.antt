pub mod Packets
pub mod Lists
pub mod Planned
pub mod Spread
pub mod Weaving
