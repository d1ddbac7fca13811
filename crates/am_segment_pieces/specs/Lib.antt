pub mod Lists
pub mod Pieces
pub mod Blocks
pub mod Segments
pub mod Runs
pub mod Laws
