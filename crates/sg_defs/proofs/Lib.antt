pub mod VectorLemmas
pub mod MembershipLemmas
pub mod MinimalLemmas
pub mod ListLemmas
pub mod OneLemmas
pub mod DecidedLemmas
pub mod SymmetryLemmas
