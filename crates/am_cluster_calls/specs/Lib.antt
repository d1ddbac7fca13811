pub mod Threads
pub mod Lows
