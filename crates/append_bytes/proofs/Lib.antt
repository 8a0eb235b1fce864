pub mod Runs
pub mod Determined
