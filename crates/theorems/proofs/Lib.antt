pub mod Check
pub mod Grammar
pub mod Writer
