pub mod Said
pub mod Drafts
pub mod Planned
pub mod Faults
