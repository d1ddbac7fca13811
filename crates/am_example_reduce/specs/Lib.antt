pub mod Rounds
pub mod Sums
