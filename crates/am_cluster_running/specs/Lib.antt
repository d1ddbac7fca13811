pub mod Running
pub mod Ending
pub mod Closing
pub mod Parting
pub mod Made
pub mod Uniting
pub mod Ends
