pub mod Held
pub mod Comments
pub mod Window
pub mod Searched
pub mod Finds
pub mod Cutting
