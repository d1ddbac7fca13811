pub mod Words
pub mod Calls
pub mod Plan
pub mod Scenarios
