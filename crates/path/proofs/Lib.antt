pub mod Keys
pub mod Levels
pub mod Determined
