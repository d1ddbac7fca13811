pub mod Causes
pub mod Inside
pub mod Memory
pub mod Standard
pub mod Whole
