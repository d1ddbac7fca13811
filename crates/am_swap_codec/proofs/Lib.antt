mod Shares
mod Validity
mod Decoding
pub mod InParts
