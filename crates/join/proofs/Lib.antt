pub mod Bodies
pub mod Determined
