pub mod Texts
pub mod Found
pub mod Choices
pub mod Due
