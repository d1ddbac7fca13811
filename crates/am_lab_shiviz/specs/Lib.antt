pub mod Clocks
pub mod Happenings
pub mod Texts
pub mod Laws
pub mod Answers
