pub mod Ended
pub mod Teams
