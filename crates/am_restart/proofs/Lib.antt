pub mod Enabled
mod Bounded
mod Keys
mod Lists
mod Points
mod MoveKinds
mod Orders
mod LawParts
mod SendingLaws
mod Dying
mod ReceivingLaws
mod Placing
mod Causes
mod Steps
pub mod Sessions
