pub mod Cuts
pub mod Explains
pub mod Answers
pub mod Laws
