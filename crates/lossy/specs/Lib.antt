pub mod Said
pub mod Marks
