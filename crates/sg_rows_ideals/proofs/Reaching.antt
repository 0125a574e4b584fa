-- Membership generator by generator.
use Rattle.std.proofs.Common.{◌≡◌, ℕ, ◌<◌, ◌%◌, ◌↔◌, List, length, get_or, sym, subst, arith}
use Rattle.std.specs.Prelude.{ℤ, pos, ◌-ℤ◌, ◌≤ℤ◌, IsTrue, nat_le, nat_abs, false}
use Rattle.std.proofs.Common.{to_z, of_z, w64}
use Rattle.std.specs.Int.Signed.{lt_z}
use mir.Val.{SFits}
use Rattle.std.proofs.lemmas.Int.{ints}
use Rattle.std.proofs.lemmas.Bool.{leb-true, le-leb}
use Rattle.std.proofs.lemmas.List.Elements.{Contains-get_or}
use Rattle.sg_defs.specs.Apery.{IsApery}
use Rattle.sg_defs.specs.Ideals.{IsIdealMember}
use Rattle.sg_defs.specs.Membership.{IsIntegerMember, IsNumericalSemigroup}
use Rattle.sg_apery.proofs.DerivedLemmas.{table-member}

-- the comparison of a distance with the entry of its class
pub above_entry : (G t : List ℕ) (n : ℕ) (z : ℤ) → IsNumericalSemigroup G → length t ≡ get_or G 0 0 → IsApery G (get_or G 0 0) t → z ≡ pos n → IsTrue (nat_le (get_or t (n % length t) 0) n) ↔ IsIntegerMember G z
above_entry G t n z s long apery is =
    let both = table-member G t s long apery n in (
      (λ l. subst (IsIntegerMember G) (sym is) (both.1 (leb-true (get_or t (n % length t) 0) n l))),
      (λ m. le-leb (get_or t (n % length t) 0) n (both.0 (subst (IsIntegerMember G) is m))),
    )

-- the first k generators do not reach x
abbrev pub IsMissedBy : List ℕ → List ℤ → ℤ → ℕ → Type 0
IsMissedBy G I x k = (i : ℕ) → i < k → IsIntegerMember G (x -ℤ get_or I i (pos 0)) → ⊥

pub reached : (G : List ℕ) (I : List ℤ) (x : ℤ) (k : ℕ) → k < length I → IsIntegerMember G (x -ℤ get_or I k (pos 0)) → IsIdealMember G I x
reached G I x k l m = (get_or I k (pos 0), Contains-get_or I k (pos 0) l, m)

-- the distance without a sign, where it has none
pub distance : (x g : ℤ) (d : ℕ) → SFits w64 x → SFits w64 g → lt_z (to_z w64 (of_z w64 x)) (to_z w64 (of_z w64 g)) ≡ false → d ≡ nat_abs (to_z w64 (of_z w64 x) -ℤ to_z w64 (of_z w64 g)) → x -ℤ g ≡ pos d
distance x g d fits_x fits_g test is =
    let l : to_z w64 (of_z w64 g) ≤ℤ to_z w64 (of_z w64 x) = grind (arith, ints) in
    omega (arith, ints, l, is, fits_x, fits_g)
