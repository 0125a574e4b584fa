-- A numerical semigroup above one with a short span is within the limits.
use Rattle.std.proofs.Common.{ℕ, ◌+◌, ◌-◌, ◌<◌, ◌≤◌, List, length, get_or, inl, inr, arith}
use Rattle.std.specs.Prelude.{pos}
use Rattle.std.proofs.lemmas.Int.{ints}
use Rattle.std.proofs.lemmas.Bool.{cases_lt}
use Rattle.sg_defs.specs.Membership.{IsMember, IsNumericalSemigroup, Generates}
use Rattle.sg_classes.specs.declared.limits.TheConstants.{MULTIPLICITY_LIMIT, SPAN_LIMIT}
use Rattle.sg_classes.specs.Fit.{IsPastLimits, IsTooLarge, IsSpan}
use Rattle.sg_defs.proofs.MembershipLemmas.{member-entry}
use Rattle.sg_lawful.specs.Spans.{IsShort}
use Rattle.sg_defs.proofs.MinimalLemmas.{first-multiplicity, no_sum}

-- what is greater than the span less the multiplicity is a member
pub span-above : (G : List ℕ) (s n : ℕ) → IsSpan G s → s < n + get_or G 0 0 + get_or G (length G - 1) 0 → IsMember G n
span-above G s n span l = span.1.above (pos n) (omega (arith, ints, span.2, l))

pub span-one : (G : List ℕ) (s t : ℕ) → IsSpan G s → IsSpan G t → s ≤ t
span-one G s t a b = elim (cases_lt t s) [
  | inr more ↦ more
  | inl less ↦ absurd (a.1.outside (b.1.above a.0 (omega (arith, ints, a.2, b.2, less))))
]

-- the span is within its limit
pub short-span : (G : List ℕ) (s : ℕ) → IsShort G → IsSpan G s → s ≤ SPAN_LIMIT
short-span G s h span = omega (arith, span-one G s h.0 span h.1, h.2)

module _ (G : List ℕ) (short : IsShort G) (s : IsNumericalSemigroup G) (small : get_or G 0 0 ≤ MULTIPLICITY_LIMIT)
    (P : ℕ → Type 0) (holds : (n : ℕ) → IsMember G n → P n) where
  positive : 0 < get_or G 0 0
  positive = omega (arith, s.positive 0 0 s.not_empty)

  member : IsMember G (get_or G 0 0)
  member = member-entry G 0 s.not_empty

  fits : (M : List ℕ) → Generates P M → IsPastLimits M → ⊥
  fits M g (inl wide) =
      let first = first-multiplicity M g.semigroup g.minimal in
      omega (arith, wide, small, first.least (get_or G 0 0) positive ((g.same (get_or G 0 0)).0 (holds (get_or G 0 0) member)))
  fits M g (inr large) =
      let m = get_or G 0 0 in
      let x = get_or M large.0 0 in
      let rest : IsMember G (x - m) = span-above G short.0 (x - m) short.1 (omega (arith, large.2, short.2, small)) in
      no_sum M g.minimal large.0 large.1 (x - m) m (omega (arith, large.2, small)) positive
      ((g.same (x - m)).0 (holds (x - m) rest)) ((g.same m).0 (holds m member)) (omega (arith, large.2, small))

  -- so what is above is within the limits
  pub not-too_large : IsTooLarge P → ⊥
  not-too_large h = fits h.0 h.1 h.2
