pub mod Sorted
pub mod Unique
pub mod Inserting
pub mod Grown
pub mod Before
pub mod Sent
pub mod History
pub mod Rightness
