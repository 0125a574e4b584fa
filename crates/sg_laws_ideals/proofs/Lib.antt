pub mod OneIdeal
pub mod IdealDecisions
pub mod IdealsExist
pub mod IdealSets
pub mod OwnSets
pub mod InstancesExist
pub mod SizeDecisions
pub mod OwnGenerators
