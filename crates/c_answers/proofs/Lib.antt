pub mod Wide
pub mod Determined
pub mod Tells
pub mod Behind
pub mod ValueTells
