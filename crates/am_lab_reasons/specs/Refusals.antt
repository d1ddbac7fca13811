pub mod Lines
pub mod Faults
pub mod Places
pub mod Stands
pub mod Refusals
