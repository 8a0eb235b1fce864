mod OneTurn
pub mod Trace
pub mod NoWeaker
pub mod CTrace
pub mod OneFrame
pub mod OneValue
