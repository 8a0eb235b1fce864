pub mod Exits
pub mod Cascade
pub mod Element
pub mod Filled
pub mod Runs
pub mod Valued
pub mod Determined
