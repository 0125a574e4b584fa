pub mod Parts
pub mod OneShape
pub mod SomeShape
