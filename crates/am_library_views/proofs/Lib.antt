pub mod Weights
pub mod Called
pub mod Distinct
pub mod Ended
pub mod Summed
pub mod Accounting
pub mod Ran
pub mod Endwise
