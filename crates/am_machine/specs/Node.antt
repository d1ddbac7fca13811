pub mod Shells
pub mod Parts
pub mod Dealt
pub mod Taken
pub mod Gathered
pub mod Packets
