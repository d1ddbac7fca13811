pub mod Answering
pub mod Drawable
pub mod Keeping
pub mod Following
pub mod Passing
pub mod Showing
pub mod Told
pub mod Receipts
pub mod Touched
mod Picturing
