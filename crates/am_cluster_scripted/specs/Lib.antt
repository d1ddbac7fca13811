pub mod Links
pub mod Scripted
pub mod Plans
pub mod Tries
pub mod Touched
pub mod EndMarks
pub mod PairMarks
