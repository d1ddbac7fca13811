pub mod Links
pub mod Scripts
pub mod Standings
pub mod Follows
pub mod Layout
pub mod Steps
