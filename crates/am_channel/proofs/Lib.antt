pub mod Pushes
pub mod Apart
pub mod Folds
