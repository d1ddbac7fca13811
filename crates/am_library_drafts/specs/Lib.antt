pub mod Drafts
pub mod Welcome
