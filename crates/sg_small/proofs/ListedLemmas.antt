-- The list of the numbers with a property up to one from which on each has it.
use Rattle.std.proofs.Common.{ℕ, ◌+◌, ◌<◌, ◌≤◌, ◌↔◌, List, get_or, inl, inr, arith}
use Rattle.std.proofs.lemmas.Bool.{cases_lt}
use Rattle.sg_defs.specs.Listings.{Lists}
use Rattle.sg_defs.proofs.MinimalLemmas.{first-least}
use Rattle.sg_classes.proofs.GeneratorLemmas.{contains-place, place-contains}
use Rattle.sg_small.specs.Sets.{IsInSmall}
use Rattle.sg_small.specs.Small.{AreSmallElements}

-- the numbers up to e, from which on each has the property
module _ (P : ℕ → Type 0) (e : ℕ) (l : List ℕ) (zero_in : P 0) (above : (x : ℕ) → e ≤ x → P x) (h : Lists (λ x. (x < e + 1) × P x) l) where
  pub listed-small : AreSmallElements l
  listed-small =
      let p = contains-place l 0 ((h.exactly 0).1 (omega arith, zero_in)) in
      record {
        not_empty = omega (arith, p.1);
        ascending = h.ascending;
        zero = omega (arith, first-least l h.ascending p.0 p.1, p.2);
      }

  back : (n : ℕ) → IsInSmall l n → P n
  back n (inl c) = ((h.exactly n).0 c).1
  back n (inr up) =
      let p = contains-place l e ((h.exactly e).1 (omega arith, above e (omega arith))) in
      above n (omega (arith, up p.0 p.1, p.2))

  there : (n : ℕ) → P n → IsInSmall l n
  there n q = elim (cases_lt n (e + 1)) [
    | inl under ↦ inl ((h.exactly n).1 (under, q))
    | inr past ↦ inr (λ k m. omega (arith, ((h.exactly (get_or l k 0)).0 (place-contains l k m)).0, past))
  ]

  pub listed-same : (n : ℕ) → P n ↔ IsInSmall l n
  listed-same n = ((there n), (back n))
