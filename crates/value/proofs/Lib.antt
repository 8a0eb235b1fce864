pub mod Determined
pub mod Sizes
