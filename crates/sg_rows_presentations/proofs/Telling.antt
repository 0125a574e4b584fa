-- What functions told of rows on presentations.
use Rattle.std.proofs.Common.{◌*◌, ◌≤◌, ℕ, List, length, get_or, Ok, Err, inl, inr, refl, arith, [], ◌∷◌, ◌≡◌, ◌<◌, ◌^◌, Option, Some, None, sym, subst}
use Rattle.std.specs.Prelude.{All}
use Rattle.sg_defs.specs.Membership.{IsFactorization, IsNumericalSemigroup}
use Rattle.sg_nonunique.specs.Catenary.{IsCatenary}
use Rattle.sg_nonunique.specs.Deltas.{IsMaxDelta, IsMinDelta}
use Rattle.sg_classes.specs.Fit.{IsNarrow}
use Rattle.sg_classes.specs.declared.limits.TheConstants.{NARROW_GENERATORS, NARROW_PRODUCT}
use Rattle.sg_betti.specs.Limits.{IsPresentable}
use Rattle.sg_betti.specs.declared.limits.TheConstants.{PRESENTATION_SPAN_LIMIT}
use Rattle.sg_laws_invariants.specs.Decided.{Decided}
use Rattle.sg_laws_invariants.proofs.Decisions.{decided-and, decided-le, decided-same}
use Rattle.sg_laws_invariants.proofs.SpansExist.{span-exists, span-one}
use Rattle.sg_rows.specs.Asks.{presentation}
use Rattle.sg_rows.specs.Made.{datum, IsSound, Tells, AreWithinBits}
use Rattle.sg_rows.specs.Order.{Passes, Bars, IsReplyOf}
use Rattle.sg_rows.specs.declared.fault.Fault.TheVariants.{TooLarge}
use Rattle.sg_rows.specs.declared.made.Made.TheVariants.{Natural, Naturals, VectorLists}
use Rattle.sg_rows.specs.declared.made.Made.{Made}
use Rattle.sg_rows.specs.Values.{a_natural_or_fail, natural_or_fail}
use Rattle.sg_rows.proofs.Replying.{answers_pass}
use Rattle.sg_rows_presentations.specs.Rows.{AreBettiElements, AreSidesOf, least_delta_row, made_of, presentation_row}
use Rattle.sg_rows_presentations.specs.declared.fact.PresentationFact.{PresentationFact}
use Rattle.sg_rows_presentations.specs.declared.fact.PresentationFact.TheVariants.{BettiElements, CatenaryDegree, MaximumDelta, MinimalPresentation}

no : ⊥ → ⊥
no h = h

-- ---- whether a presentation is written out is decided

narrow-decided : (G : List ℕ) → Decided (IsNarrow G)
narrow-decided G =
    let few = length G ≤ NARROW_GENERATORS in
    let small = get_or G 0 0 * length G ≤ NARROW_PRODUCT in
    decided-same (few × small) (IsNarrow G) (λ p. record { generators = p.0; product = p.1 }) (λ n. (n.generators, n.product))
    (decided-and few small (decided-le (length G) NARROW_GENERATORS) (decided-le (get_or G 0 0 * length G) NARROW_PRODUCT))

pub presentable-decided : (G : List ℕ) → IsNumericalSemigroup G → Decided (IsPresentable G)
presentable-decided G s =
    let r = span-exists G s in
    let short = r.0 ≤ PRESENTATION_SPAN_LIMIT in
    decided-same (IsNarrow G × short) (IsPresentable G) (λ p. record { narrow = p.0; span = r.0; is_span = r.1; short = p.1 })
    (λ h. (h.narrow, (let e = span-one G h.span r.0 h.is_span r.1 in omega (arith, e, h.short))))
    (decided-and (IsNarrow G) short (narrow-decided G) (decided-le r.0 PRESENTATION_SPAN_LIMIT))

-- ---- the refusal

pub passes : (f : PresentationFact) (G : List ℕ) → IsPresentable G → Passes (presentation_row f G)
passes BettiElements G h = record { size = no; bad = no; limit = λ n. n h; many = no; budget = no }
passes CatenaryDegree G h = record { size = no; bad = no; limit = λ n. n h; many = no; budget = no }
passes MaximumDelta G h = record { size = no; bad = no; limit = λ n. n h; many = no; budget = no }
passes MinimalPresentation G h = record { size = no; bad = no; limit = λ n. n h; many = no; budget = no }

pub refuses : (f : PresentationFact) (G : List ℕ) → ¬ IsPresentable G → Bars (presentation_row f G) × IsReplyOf (presentation_row f G) (Err TooLarge)
refuses BettiElements G n = (inr (inr n), inr (no, inr (no, inl (n, refl))))
refuses CatenaryDegree G n = (inr (inr n), inr (no, inr (no, inl (n, refl))))
refuses MaximumDelta G n = (inr (inr n), inr (no, inr (no, inl (n, refl))))
refuses MinimalPresentation G n = (inr (inr n), inr (no, inr (no, inl (n, refl))))

-- a row that does not refuse is of a semigroup whose presentation is written out
pub not_refused : (f : PresentationFact) (G : List ℕ) → IsNumericalSemigroup G → Passes (presentation_row f G) → IsPresentable G
not_refused f G s p = elim (presentable-decided G s) [ inl h ↦ h | inr n ↦ absurd (by f p n) ]
  where
    by : (f : PresentationFact) → Passes (presentation_row f G) → ¬ IsPresentable G → ⊥
    by BettiElements p n = p.limit n
    by CatenaryDegree p n = p.limit n
    by MaximumDelta p n = p.limit n
    by MinimalPresentation p n = p.limit n

-- ---- what is asked for late

pub late-is : (f : PresentationFact) (G : List ℕ) → (presentation_row f G).late ≡ (presentation, G) ∷ []
late-is BettiElements G = refl
late-is CatenaryDegree G = refl
late-is MaximumDelta G = refl
late-is MinimalPresentation G = refl

-- ---- the value

pub tells_elements : (G ns : List ℕ) → Passes (presentation_row BettiElements G) → AreWithinBits ns → AreBettiElements G ns → Tells (Ok (Naturals ns)) (presentation_row BettiElements G)
tells_elements G ns p small h = (record { passes = p; value = (ns, refl, h) }, small)

pub tells_sides : (G : List ℕ) (ls : List (List (List ℕ))) → Passes (presentation_row MinimalPresentation G) → All (All AreWithinBits) ls → AreSidesOf G ls → Tells (Ok (VectorLists ls)) (presentation_row MinimalPresentation G)
tells_sides G ls p small h = (record { passes = p; value = (ls, refl, h) }, small)

pub tells_degree : (G : List ℕ) (c : ℕ) → Passes (presentation_row CatenaryDegree G) → c < 2 ^ 63 → IsCatenary (IsFactorization G) c → Tells (Ok (Natural c)) (presentation_row CatenaryDegree G)
tells_degree G c p small h = (record { passes = p; value = (c, refl, h) }, small)

-- a natural, or fail, is what was made
made-datum : (r : Option ℕ) → datum (made_of r) ≡ natural_or_fail r
made-datum None = refl
made-datum (Some n) = refl

pub tells_greatest : (G : List ℕ) (r : Option ℕ) (m : Made) → m ≡ made_of r → Passes (presentation_row MaximumDelta G) → IsSound (made_of r) → IsMaxDelta (IsFactorization G) r → Tells (Ok m) (presentation_row MaximumDelta G)
tells_greatest G r m is p small h = subst (λ k. Tells (Ok k) (presentation_row MaximumDelta G)) (sym is) (record { passes = p; value = (r, made-datum r, h) }, small)

pub tells_least : (G : List ℕ) (r : Option ℕ) (m : Made) → m ≡ made_of r → IsSound (made_of r) → IsMinDelta (IsFactorization G) r → Tells (Ok m) (least_delta_row G)
tells_least G r m is small h =
    subst (λ k. Tells (Ok k) (least_delta_row G)) (sym is) (record { passes = answers_pass (a_natural_or_fail (IsMinDelta (IsFactorization G))); value = (r, made-datum r, h) }, small)
