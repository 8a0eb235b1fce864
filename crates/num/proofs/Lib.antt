pub mod Signed
pub mod Determined
