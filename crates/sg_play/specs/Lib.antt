pub mod FaultLines
pub mod Record
pub mod Play
pub mod Left
pub mod Laws
