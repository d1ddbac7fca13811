pub mod Cut
pub mod Exact
pub mod Follows
pub mod Lines
pub mod Verdict
pub mod Steps
pub mod Declares
pub mod Laws
