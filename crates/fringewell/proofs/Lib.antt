mod Limits
pub mod Determined
