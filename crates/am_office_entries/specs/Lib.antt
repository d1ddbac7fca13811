pub mod Entries
pub mod Fates
pub mod Logged
