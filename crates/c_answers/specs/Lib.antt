pub mod Numbers
pub mod Behind
