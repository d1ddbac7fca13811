pub mod Bools
pub mod Bytes
pub mod Texts
pub mod Formed
pub mod Found
pub mod Led
pub mod Elements
