pub mod Tests
pub mod Determined
