pub mod Joined
pub mod Heads
pub mod Slots
