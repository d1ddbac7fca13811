pub mod Sending
pub mod Receiving
pub mod Ends
pub mod Calls
pub mod Counted
pub mod Folded
pub mod Lost
