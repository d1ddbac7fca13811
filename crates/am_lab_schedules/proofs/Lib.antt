pub mod Seeds
pub mod Texts
pub mod Printed
pub mod FromTheFront
pub mod Finding
pub mod Trying
pub mod Ordered
