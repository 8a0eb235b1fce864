pub mod Ascii
pub mod Chunks
pub mod Moves
pub mod Window
