pub mod Releasing
pub mod Saying
