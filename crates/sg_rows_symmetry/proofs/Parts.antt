-- The parts of a decomposition are lawful.
use Rattle.std.proofs.Common.{◌≡◌, ◌-◌, ◌<◌, ◌≤◌, ℕ, zero, suc, ℤ, List, [], ◌∷◌, length, get_or, inl, inr, refl, sym, subst, arith}
use Rattle.std.specs.Prelude.{All}
use Rattle.std.specs.List.{AllZip}
use Rattle.std.proofs.lemmas.Bool.{cases_lt}
use Rattle.sg_defs.specs.Membership.{IsMember, IsNumericalSemigroup, IsMinimal, IsMultiplicity, Holds, Generates}
use Rattle.sg_defs.specs.Decomposition.{IsInCover, IsDecomposition}
use Rattle.sg_apery.specs.Limits.{GENERATOR_LIMIT, MULTIPLICITY_LIMIT, SPAN_LIMIT}
use Rattle.sg_defs.proofs.MinimalLemmas.{first-multiplicity, no_sum}
use Rattle.sg_closure.proofs.FitLemmas.{span-above}
use Rattle.sg_irred.proofs.CoverLemmas.{cover-member}
use Rattle.sg_lawful.specs.Lawful.{IsLawfulList}
use Rattle.sg_lawful.specs.Spans.{IsShort}

-- a semigroup that holds a short and fit one is fit
module _ (G M : List ℕ) (own : IsLawfulList G) (short : IsShort G) (s : IsNumericalSemigroup M) (minimal : IsMinimal M) (holds : Holds M G) where
  m : ℕ
  m = get_or G 0 0

  first : IsMultiplicity G (get_or G 0 0)
  first = first-multiplicity G own.semigroup own.minimal

  multiplicity : get_or M 0 0 ≤ MULTIPLICITY_LIMIT
  multiplicity =
      let least = (first-multiplicity M s minimal).least (get_or G 0 0) first.positive (holds (get_or G 0 0) first.member) in
      omega (arith, least, own.fit.multiplicity)

  small : (k : ℕ) → k < length M → get_or M k 0 < GENERATOR_LIMIT
  small k l = elim (cases_lt (get_or M k 0) GENERATOR_LIMIT) [
    | inl less ↦ less
    | inr more ↦
        let span : short.0 ≤ SPAN_LIMIT = short.2 in
        let low : get_or G 0 0 ≤ MULTIPLICITY_LIMIT = own.fit.multiplicity in
        let high : get_or G (length G - 1) 0 < GENERATOR_LIMIT = own.fit.small (length G - 1) (let some = own.semigroup.not_empty in omega (arith, some)) in
        let rest : IsMember G (get_or M k 0 - get_or G 0 0) = span-above G short.0 (get_or M k 0 - get_or G 0 0) short.1 (omega (arith, more, span, low)) in
        absurd (no_sum M minimal k l (get_or G 0 0) (get_or M k 0 - get_or G 0 0) first.positive (omega (arith, more, low))
        (holds (get_or G 0 0) first.member) (holds (get_or M k 0 - get_or G 0 0) rest) (omega (arith, more, low)))
  ]

  pub lawful-above : IsLawfulList M
  lawful-above = record { semigroup = s; minimal = minimal; fit = record { multiplicity = multiplicity; small = small } }

module _ (G : List ℕ) (own : IsLawfulList G) (short : IsShort G) where
  -- by recursion, since the two lists go together
  covers : (hs : List ℤ) (L : List (List ℕ)) → AllZip (λ h M. Generates (IsInCover G h) M) hs L → All IsLawfulList L
  covers [] [] zip i d l = absurd (omega arith)
  covers [] (M ∷ L) zip i d l = absurd zip
  covers (h ∷ hs) [] zip i d l = absurd zip
  covers (h ∷ hs) (M ∷ L) zip zero d l = lawful-above G M own short zip.0.semigroup zip.0.minimal (λ n member. (zip.0.same n).0 (cover-member G h n member))
  covers (h ∷ hs) (M ∷ L) zip (suc i) d l = covers hs L zip.1 i d (omega arith)

  single : (M : List ℕ) → Generates (IsMember G) M → All IsLawfulList (M ∷ [])
  single M g zero d l = lawful-above G M own short g.semigroup g.minimal (λ n member. (g.same n).0 member)
  single M g (suc i) d l = absurd (omega arith)

  pub parts-lawful : (L : List (List ℕ)) → IsDecomposition G L → All IsLawfulList L
  parts-lawful L h = by h.special refl
    where
      by : (special : List ℤ) → special ≡ h.special → All IsLawfulList L
      by [] e = let whole = h.whole (sym e) in subst (All IsLawfulList) (sym whole.1) (single whole.0 whole.2)
      by (x ∷ xs) e = covers h.chosen L (h.covers (subst (λ l. 0 < length l) e (omega arith)))
