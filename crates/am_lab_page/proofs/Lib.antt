pub mod Answering
pub mod Telling
pub mod Cutting
pub mod Plain
pub mod Lines
pub mod Paging
pub mod Scripts
