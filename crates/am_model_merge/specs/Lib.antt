pub mod Logs
pub mod Merged
pub mod Right
