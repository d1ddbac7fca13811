pub mod SeedRuns
pub mod Trials
pub mod Schedules
pub mod Told
pub mod Distinct
pub mod Beginnings
pub mod Finds
pub mod Outcomes
