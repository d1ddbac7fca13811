pub mod Saying
pub mod Statuses
pub mod Steps
