pub mod Texts
pub mod Codes
pub mod Spelled
pub mod Lists
pub mod Counts
