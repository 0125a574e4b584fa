pub mod Joining
pub mod Concatenations
pub mod Dividing
pub mod Numbers
pub mod OneList
pub mod SomeList
