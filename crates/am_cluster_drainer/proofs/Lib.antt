pub mod Acting
pub mod Ranges
pub mod Finding
pub mod Firsts
pub mod Planned
pub mod PageIns
