pub mod Index
pub mod Merge
