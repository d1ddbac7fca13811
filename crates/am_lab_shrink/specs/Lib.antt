pub mod Lines
pub mod Kept
pub mod Reports
pub mod Shrinks
pub mod Steps
