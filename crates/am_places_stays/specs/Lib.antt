pub mod Stays
pub mod Moments
