pub mod Lists
pub mod Moves
pub mod Shown
pub mod Views
pub mod Chosen
