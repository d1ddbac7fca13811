pub mod Moments
pub mod Seats
pub mod Own
