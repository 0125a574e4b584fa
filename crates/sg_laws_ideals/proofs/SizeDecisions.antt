-- Whether the minimal generators of an ideal are within the limit is decided.
use Rattle.std.proofs.Common.{ℕ, ◌<◌, List, length, get_or, subst, inl, inr}
use Rattle.std.specs.Prelude.{◌⊎◌, ℤ, pos, neg_ℤ, ◌<ℤ◌}
use Rattle.std.proofs.lemmas.List.Elements.{Contains-get_or}
use Rattle.sg_ideal.specs.Value.{GeneratesIdeal, HasLargeGenerator}
use Rattle.sg_lawful.specs.Generators.{AreSmall, HasLarge, IsSmall}
use Rattle.sg_lawful.specs.declared.limits.TheConstants.{IDEAL_GENERATOR_LIMIT}
use Rattle.sg_ideal.proofs.FaultLemmas.{small-large}
use Rattle.sg_laws_invariants.specs.Decided.{Decided}
use Rattle.sg_laws_invariants.proofs.Decisions.{decided-and, decided-same, decided-lt_z, each-below}
use Rattle.sg_laws_ideals.proofs.IdealDecisions.{integer-place}
use Rattle.sg_laws_ideals.proofs.OneIdeal.{one-minimal_ideal}

-- whether all are within the limit is decided
pub small-decided : (zs : List ℤ) → Decided (AreSmall zs)
small-decided zs = decided-same ((k : ℕ) → k < length zs → IsSmall (get_or zs k (pos 0))) (AreSmall zs)
    (λ h x c. let k = integer-place zs x c in subst IsSmall k.2 (h k.0 k.1))
    (λ h k l. h (get_or zs k (pos 0)) (Contains-get_or zs k (pos 0) l))
    (each-below (λ k. IsSmall (get_or zs k (pos 0))) (λ k. one-small (get_or zs k (pos 0))) (length zs))
  where
    one-small : (x : ℤ) → Decided (IsSmall x)
    one-small x = decided-and (neg_ℤ IDEAL_GENERATOR_LIMIT <ℤ x) (x <ℤ IDEAL_GENERATOR_LIMIT) (decided-lt_z (neg_ℤ IDEAL_GENERATOR_LIMIT) x) (decided-lt_z x IDEAL_GENERATOR_LIMIT)

-- where an entry is past the limit, not all are within it
pub large-small : (zs : List ℤ) → HasLarge zs → ¬ AreSmall zs
large-small zs large small = small-large zs small large

module _ (G : List ℕ) (P : ℤ → Type 0) where
  -- where one minimal list is not within the limit, none is
  large-each : (I : List ℤ) → GeneratesIdeal G P I → ¬ AreSmall I → (J : List ℤ) → GeneratesIdeal G P J → ¬ AreSmall J
  large-each I g not J h small = not (subst AreSmall (one-minimal_ideal G P J I h g) small)

  -- where a minimal generator is past the limit, no minimal list is within it
  pub large_generator-none : HasLargeGenerator G P → (I : List ℤ) → GeneratesIdeal G P I → ¬ AreSmall I
  large_generator-none large = large-each large.0 large.1 (large-small large.0 large.2)

  -- the minimal list of a set is within the limit, or no minimal list is
  pub small-or_large : (I : List ℤ) × GeneratesIdeal G P I → ((I : List ℤ) × GeneratesIdeal G P I × AreSmall I) ⊎ ((I : List ℤ) → GeneratesIdeal G P I → ¬ AreSmall I)
  small-or_large h = elim (small-decided h.0) [ inl small ↦ inl (h.0, h.1, small) | inr not ↦ inr (large-each h.0 h.1 not) ]

  -- whether the minimal generators of a set are not
  pub large-decided : (I : List ℤ) × GeneratesIdeal G P I → Decided ((I : List ℤ) → GeneratesIdeal G P I → ¬ AreSmall I)
  large-decided h = elim (small-or_large h) [ inl m ↦ inr (λ none. none m.0 m.1 m.2) | inr none ↦ inl none ]
