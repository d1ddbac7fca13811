pub mod Made
pub mod Rules
pub mod Ready
pub mod Drain
pub mod Follows
pub mod Cut
pub mod Laws
