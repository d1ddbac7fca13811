pub mod Fating
pub mod Finding
pub mod Spread
pub mod Laning
pub mod Shown
pub mod Placing
mod Counts
mod Downwards
mod Numbered
