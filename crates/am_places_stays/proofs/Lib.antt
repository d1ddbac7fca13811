pub mod Staying
pub mod Tenures
pub mod ManySeats
pub mod TwoSeats
pub mod Taking
pub mod Merges
mod MomentsKept
mod Marks
mod Kept
