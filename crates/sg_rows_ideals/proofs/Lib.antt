pub mod Serving
pub mod Served
pub mod Canonically
pub mod Regenerating
pub mod Reaching
pub mod OneIdeal
pub mod SomeIdeal
