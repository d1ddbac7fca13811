pub mod Scenarios
pub mod Replays
