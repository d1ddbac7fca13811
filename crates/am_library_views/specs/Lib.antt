pub mod Views
pub mod Ends
pub mod Accounts
pub mod RoundSums
