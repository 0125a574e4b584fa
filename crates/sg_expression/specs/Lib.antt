pub mod Binding
pub mod Grammar
pub mod Literals
pub mod Reading
