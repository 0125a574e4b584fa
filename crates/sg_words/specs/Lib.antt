pub mod Arguments
pub mod Asked
pub mod Reading
pub mod Settings
pub mod Words
