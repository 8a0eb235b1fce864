pub mod DeskHolds
pub mod OpenBytes
pub mod CallHolds
pub mod CallTaken
pub mod ReadBack
pub mod Builds
pub mod SessionPoints
