-- What the catenary degree and the deltas of all elements come to: lengths and deltas at elements with two classes, and
-- differences of generators.
use Rattle.std.specs.Prelude.{◌≡◌, ℕ, ◌-◌, ◌<◌, ◌≤◌, ◌⊎◌, List, length, slice_index, sum, Option, IfNone, IfSome}
use Rattle.std.specs.Int.{◌∣◌}
use Rattle.sg_nonunique.specs.Classes.{IsSameClass, HasTwoClasses}
use Rattle.sg_nonunique.specs.Deltas.{IsDelta, IsSomeDelta}

-- the greatest, over elements with two classes and over their classes, of the least length in the class, and 0 where
-- there is no such element
pub record IsGreatestLeastLength {I : Type 0} (F : I → List ℕ → Type 0) (N : ℕ) : Type 0 where
  pub bound : (n : I) (x y : List ℕ) → F n x → F n y → (IsSameClass (F n) x y → ⊥) →
      (a : List ℕ) × IsSameClass (F n) x a × (sum a ≤ N)
  pub reached : (N ≡ 0) ⊎ ((n : I) × (x y : List ℕ) × F n x × F n y × (IsSameClass (F n) x y → ⊥) ×
      ((a : List ℕ) → IsSameClass (F n) x a → N ≤ sum a))

-- the greatest delta of elements with two classes, and none exactly where no such element has one
pub record IsGreatestBettiDelta {I : Type 0} (F : I → List ℕ → Type 0) (r : Option ℕ) : Type 0 where
  pub none : IfNone r ((n : I) (d : ℕ) → HasTwoClasses (F n) → IsDelta (F n) d → ⊥)
  pub some : IfSome r (IsSomeDelta F)
  pub greatest : IfSome r (λ d. (n : I) (d' : ℕ) → HasTwoClasses (F n) → IsDelta (F n) d' → d' ≤ d)

-- g is the greatest common divisor of the differences of the generators and the first one, and 0 where there is one generator
pub record IsDifferenceGcd (G : List ℕ) (g : ℕ) : Type 0 where
  pub divides : (i : ℕ) → i < length G → g ∣ (slice_index G i - slice_index G 0)
  pub greatest : (d : ℕ) → ((i : ℕ) → i < length G → d ∣ (slice_index G i - slice_index G 0)) → d ∣ g
