pub mod Away
pub mod Frames
pub mod Enabled
pub mod Readied
pub mod Work
pub mod Endings
pub mod Runs
