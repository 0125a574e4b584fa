-- The numbers that limit a table, passed on from the crate below.
pub use Rattle.sg_classes.specs.declared.limits.TheConstants.{APERY_ENTRY_LIMIT, APERY_MODULUS_LIMIT, FUNDAMENTAL_GAP_LIMIT, GENERATOR_LIMIT, MODULUS_LIMIT, MULTIPLICITY_LIMIT, NARROW_GENERATORS, NARROW_PRODUCT, SPAN_LIMIT}
