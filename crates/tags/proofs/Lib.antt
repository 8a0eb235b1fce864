pub mod Table
pub mod Determined
