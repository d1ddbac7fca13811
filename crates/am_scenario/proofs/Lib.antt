pub mod Declared
pub mod Steps
pub mod Below
pub mod Lawfully
pub mod Comments
pub mod Members
mod Keywords
mod Ends
mod Requests
mod Actors
pub mod Meets
pub mod Words
pub mod Declaring
pub mod Calling
pub mod Growing
