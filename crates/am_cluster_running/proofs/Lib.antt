mod Adding
mod Gathered
mod Left
mod CrewLinks
mod CrewParts
pub mod Ran
mod Rows
mod Taking
pub mod Disk
pub mod Parts
pub mod Unite
pub mod Seated
pub mod Threads
pub mod Teams
pub mod Counted
pub mod Crews
