pub mod Grammar
pub mod Bodies
pub mod Depth
pub mod Faults
pub mod Outcome
