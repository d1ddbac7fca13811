pub mod Short
pub mod Drained
pub mod Returns
pub mod Stopped
pub mod Left
pub mod Drains
pub mod Turns
pub mod Ends
