pub mod Answer
pub mod Checks
pub mod Meaning
