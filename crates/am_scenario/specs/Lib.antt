pub mod Order
pub mod Grammar
pub mod Answers
pub mod Laws
pub mod Drafts
pub mod Lines
pub mod LineLaws
