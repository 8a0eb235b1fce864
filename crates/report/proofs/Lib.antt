pub mod Lines
pub mod Along
pub mod Fits
pub mod Determined
