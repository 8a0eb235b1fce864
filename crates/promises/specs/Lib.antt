pub mod Turn
pub mod CTurn
pub mod OneValue
