-- Differences of neighbouring lengths.
use Rattle.std.specs.Prelude.{ℕ, ◌+◌, ◌<◌, ◌≤◌, List, Option, IfNone, IfSome}
use Rattle.sg_nonunique.specs.Factorizations.{IsLengthIn}

-- d is the difference of two neighbouring lengths of V
pub record IsDelta (V : List ℕ → Type 0) (d : ℕ) : Type 0 where
  pub positive : 0 < d
  pub lower : ℕ
  pub is_lower : IsLengthIn V lower
  pub is_upper : IsLengthIn V (lower + d)
  pub none_between : (k : ℕ) → lower < k → k < lower + d → IsLengthIn V k → ⊥

-- d is a delta of some element
abbrev pub IsSomeDelta : {I : Type 0} → (I → List ℕ → Type 0) → ℕ → Type 0
IsSomeDelta {I} F d = (n : I) × IsDelta (F n) d

-- the least delta of all elements, and none exactly where no element has one
pub record IsMinDelta {I : Type 0} (F : I → List ℕ → Type 0) (r : Option ℕ) : Type 0 where
  pub none : IfNone r ((d : ℕ) → IsSomeDelta F d → ⊥)
  pub some : IfSome r (IsSomeDelta F)
  pub least : IfSome r (λ d. (d' : ℕ) → IsSomeDelta F d' → d ≤ d')

-- the greatest delta of all elements, and none exactly where no element has one
pub record IsMaxDelta {I : Type 0} (F : I → List ℕ → Type 0) (r : Option ℕ) : Type 0 where
  pub none : IfNone r ((d : ℕ) → IsSomeDelta F d → ⊥)
  pub some : IfSome r (IsSomeDelta F)
  pub greatest : IfSome r (λ d. (d' : ℕ) → IsSomeDelta F d' → d' ≤ d)
