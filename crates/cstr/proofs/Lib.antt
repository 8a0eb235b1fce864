pub mod Determined
pub mod Plain
pub mod Prefix
