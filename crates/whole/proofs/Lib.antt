mod FramedLaws
pub mod Walk
pub mod Determined
