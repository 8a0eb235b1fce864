pub mod ShownLaws
pub mod Determined
