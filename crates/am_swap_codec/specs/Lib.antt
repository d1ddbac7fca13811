pub mod Counts
pub mod Lists
pub mod Tests
pub mod Decodes
pub mod Parts
