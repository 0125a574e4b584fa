-- The limit of the generators of an ideal.
use Rattle.std.specs.Prelude.{◌⊎◌, ℤ, neg_ℤ, ◌<ℤ◌, ◌≤ℤ◌, List, Contains}
use Rattle.sg_lawful.specs.declared.limits.TheConstants.{IDEAL_GENERATOR_LIMIT}

-- the absolute value is below the limit
abbrev pub IsSmall : ℤ → Type 0
IsSmall x = (neg_ℤ IDEAL_GENERATOR_LIMIT <ℤ x) × (x <ℤ IDEAL_GENERATOR_LIMIT)

-- the absolute value is not below the limit
abbrev pub IsLarge : ℤ → Type 0
IsLarge x = (x ≤ℤ neg_ℤ IDEAL_GENERATOR_LIMIT) ⊎ (IDEAL_GENERATOR_LIMIT ≤ℤ x)

-- each entry's absolute value is below the limit
abbrev pub AreSmall : List ℤ → Type 0
AreSmall I = (x : ℤ) → Contains I x → IsSmall x

-- some entry's is not
abbrev pub HasLarge : List ℤ → Type 0
HasLarge I = (x : ℤ) × Contains I x × IsLarge x
