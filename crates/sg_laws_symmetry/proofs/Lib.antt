pub mod SymmetryDecisions
pub mod DecompositionExists
pub mod SaturationExists
pub mod DecompositionIrredundant
