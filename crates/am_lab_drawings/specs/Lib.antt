pub mod Charts
pub mod Messages
pub mod View
pub mod Fronts
