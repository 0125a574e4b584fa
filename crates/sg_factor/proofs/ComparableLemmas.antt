-- The factorizations of a number are comparable.
use Rattle.std.proofs.Common.{ℕ, ◌<◌, ◌≤◌, ◌^◌, List, [], length, sym, ◌∙◌, arith}
use Rattle.std.specs.Prelude.{All, slice_index_or}
use Rattle.std.proofs.lemmas.List.Elements.{Contains-get_or}
use Rattle.sg_defs.specs.Vectors.{ListsDescending}
use Rattle.sg_defs.specs.Membership.{IsFactorization}
use Rattle.sg_factor.specs.Nearness.{AreComparable}
use Rattle.sg_factor.proofs.BoundLemmas.{value-at_least}

-- they have as many places as there are generators, and are no longer than the number
pub factorizations-comparable : (G : List ℕ) (n : ℕ) (rows : List (List ℕ)) → n < 2 ^ 63 → All (λ g. 1 ≤ g) G → ListsDescending (IsFactorization G n) rows → AreComparable rows
factorizations-comparable G n rows small_ positive h = record {
  places = λ i j li lj. (is i li).places ∙ sym (is j lj).places;
  small = λ i li. omega (arith, small_, value-at_least G (slice_index_or rows i []) 1 (is i li).places (λ k l. positive k 0 l), (is i li).value);
}
  where
    is : (i : ℕ) → i < length rows → IsFactorization G n (slice_index_or rows i [])
    is i li = (h.exactly (slice_index_or rows i [])).0 (Contains-get_or rows i [] li)
