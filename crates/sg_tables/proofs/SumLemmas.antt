-- Bounds for the sums of two members, by residue classes.
use Rattle.std.proofs.Common.{◌≡◌, ℕ, ◌+◌, ◌-◌, ◌%◌, ◌<◌, ◌≤◌, List, length, get_or, refl, sym, subst, inl, inr, arith}
use Rattle.std.specs.Prelude.{Contains, ◌⊎◌}
use Rattle.std.proofs.lemmas.Nat.{mod_below}
use Rattle.sg_defs.specs.Membership.{IsMember}
use Rattle.sg_defs.proofs.MembershipLemmas.{member-induction}
use Rattle.sg_classes.specs.Classes.{IsAboveEntry, IsLoweredBy}
use Rattle.sg_classes.proofs.GeneratorLemmas.{contains-place, member-listed}
use Rattle.sg_classes.proofs.ResidueLemmas.{residue-sum}
use Rattle.sg_tables.specs.Minimal.{IsSpare, IsPartOf}
use Rattle.sg_tables.specs.Sums.{AreBelowEntries, AreBelowSums, IsLowered, AreSumBounds}

-- numbers that are lowered stay below the entries
pub below-lowered : (D old now : List ℕ) → 0 < length old → IsLowered old now → AreBelowEntries D old → AreBelowEntries D now
below-lowered D old now positive h below k l =
    let g = get_or D k 0 in
    let low : get_or now (g % length old) 0 ≤ g = omega (arith, below k l, h.down (g % length old) (mod_below g (length old) positive)) in
    subst (λ n. get_or now (g % n) 0 ≤ g) (sym h.long) low

pub below-from_lowered : (D old now : List ℕ) → IsLoweredBy D old now (length D) → AreBelowEntries D now
below-from_lowered D old now h k l = let g = get_or D k 0 in subst (λ n. get_or now (g % n) 0 ≤ g) (sym h.long) (h.listed k l)

-- the sum of two numbers that are at least those of their classes
pub sum-above : (l bounds : List ℕ) → 0 < length l → AreBelowSums l bounds → (a b : ℕ) → IsAboveEntry l a → IsAboveEntry l b → IsAboveEntry bounds (a + b)
sum-above l bounds positive h a b p q =
    let n = length l in
    let low = h.below ((a + b) % n) (mod_below (a + b) n positive) (a % n) (b % n) (mod_below a n positive) (mod_below b n positive) (residue-sum a b n) in
    subst (λ m. get_or bounds ((a + b) % m) 0 ≤ a + b) (sym h.long) (omega (arith, low, p, q))

-- each member above 0 is at least the number of its class
pub member-above_least : (D l : List ℕ) → 0 < length l → AreBelowEntries D l → AreBelowSums l l → (x : ℕ) → 0 < x → IsMember D x → IsAboveEntry l x
member-above_least D l positive entries closed x more h = elim (member-induction (λ x. (x ≡ 0) ⊎ IsAboveEntry l x) D (inl refl) step x h) [
  | inl e ↦ absurd (omega arith)
  | inr above ↦ above
]
  where
    step : (i x : ℕ) → i < length D → (x ≡ 0) ⊎ IsAboveEntry l x → (x + get_or D i 0 ≡ 0) ⊎ IsAboveEntry l (x + get_or D i 0)
    step i x m (inl e) = inr (subst (IsAboveEntry l) (let f : get_or D i 0 ≡ x + get_or D i 0 = omega arith in f) (entries i m))
    step i x m (inr above) = inr (sum-above l l positive closed x (get_or D i 0) above (entries i m))

pub bounds-from_least : (D l bounds : List ℕ) → 0 < length l → AreBelowEntries D l → AreBelowSums l l → AreBelowSums l bounds → AreSumBounds D bounds
bounds-from_least D l bounds positive entries closed h = record {
  not_empty = omega (arith, h.long);
  sums = λ a b p q m n. sum-above l bounds positive h a b (member-above_least D l positive entries closed a p m) (member-above_least D l positive entries closed b q n);
}

-- a number that is spare is the sum of two members above 0
pub spare-bounded : (t D M bounds : List ℕ) (n w : ℕ) → ((k : ℕ) → k < length D → 0 < get_or D k 0) → ((x : ℕ) → IsAboveEntry t x → IsMember D x) → IsPartOf t D M n →
    AreSumBounds D bounds → IsSpare t M w → IsAboveEntry bounds w
spare-bounded t D M bounds n w positive made part h spare =
    let place = contains-place M spare.0 spare.1 in
    let listed : Contains D spare.0 = subst (Contains D) place.2 (part.kept place.0 place.1).0 in
    let p = contains-place D spare.0 listed in
    let more : 0 < spare.0 = subst (λ x. 0 < x) p.2 (positive p.0 p.1) in
    let whole : spare.0 + (w - spare.0) ≡ w = omega (arith, spare.2) in
    let rest : 0 < w - spare.0 = omega (arith, spare.2, more) in
    subst (IsAboveEntry bounds) whole (h.sums spare.0 (w - spare.0) more rest (member-listed D spare.0 listed) (made (w - spare.0) spare.3))
