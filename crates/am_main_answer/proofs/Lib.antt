mod Due
pub mod Ends
