-- The marks of 0 and the generators on the numbers up to the span.
use Rattle.std.proofs.Common.{◌≡◌, ℕ, zero, suc, ◌+◌, ◌-◌, ◌<◌, ◌≤◌, ◌↔◌, Bool, false, List, length, get_or, replicate, ap, inl, inr, arith}
use Rattle.std.specs.Prelude.{◌⊎◌, ℤ, pos, negsuc, ◌<ℤ◌, Contains}
use Rattle.std.proofs.lemmas.Int.{ints}
use Rattle.std.proofs.lemmas.Bool.{cases_eq}
use Rattle.std.proofs.lemmas.List.Kept.{AllPairs-from_increasing}
use Rattle.sg_defs.specs.Membership.{IsNumericalSemigroup, IsMinimal}
use Rattle.sg_defs.specs.Invariants.{IsFrobenius}
use Rattle.sg_classes.specs.declared.limits.TheConstants.{SPAN_LIMIT}
use Rattle.sg_classes.specs.Fit.{IsSpan}
use Rattle.sg_classes.proofs.GeneratorLemmas.{contains-place}
use Rattle.sg_closure.specs.Marks.{IsIn, AreGeneratorMarks}
use Rattle.sg_closure.proofs.FitLemmas.{span-above}
use Rattle.sg_closure.proofs.MarkLemmas.{none-in}

-- the Frobenius number is at least -1, so the span is at least the greatest generator
pub frobenius-low : (G : List ℕ) (f : ℤ) → IsFrobenius G f → (negsuc 1) <ℤ f
frobenius-low G (pos n) h = omega (arith, ints)
frobenius-low G (negsuc zero) h = omega (arith, ints)
frobenius-low G (negsuc (suc n)) h = absurd (h.above (negsuc 0) (omega (arith, ints)))

module _ (G : List ℕ) (span : ℕ) (s : IsNumericalSemigroup G) (minimal : IsMinimal G) (is_span : IsSpan G span) where
  last-low : get_or G (length G - 1) 0 ≤ span
  last-low = omega (arith, ints, is_span.2, frobenius-low G is_span.0 is_span.1, s.positive 0 0 s.not_empty)

  entry-low : (k : ℕ) → k < length G → get_or G k 0 ≤ get_or G (length G - 1) 0
  entry-low k l = elim (cases_eq k (length G - 1)) [
    | inl e ↦ omega (arith, ap (λ i. get_or G i 0) e)
    | inr other ↦ omega (arith, AllPairs-from_increasing G minimal.ascending k (length G - 1) 0 (omega arith) (omega arith))
  ]

  -- the marks that were made are those of the generators
  pub generator_marks-are : span ≤ SPAN_LIMIT → (marks : List Bool) → length marks ≡ span + 1 →
      ((k : ℕ) → IsIn marks k ↔ ((IsIn (replicate (span + 1) false) k ⊎ (k ≡ 0)) ⊎ Contains G k)) → AreGeneratorMarks G marks
  generator_marks-are low marks long told = record {
    not_empty = omega arith;
    short = omega arith;
    past = λ n l. span-above G span n is_span (omega arith);
    long = λ g h. let p = contains-place G g h in omega (arith, last-low, entry-low p.0 p.1, p.2);
    zero = (told 0).1 (inl (inr (let e : 0 ≡ 0 = omega arith in e)));
    generators = λ g h. (told g).1 (inr h);
    only = λ n l p. elim ((told n).0 p) [
      | inl first ↦ elim first [ inl q ↦ absurd (none-in (span + 1) n (omega arith) q) | inr e ↦ inl e ]
      | inr listed ↦ inr listed
    ];
  }

-- what is marked after 0 is marked and then each of the given numbers
pub marked-both : (none first then_ : List Bool) (xs : List ℕ) → ((k : ℕ) → IsIn first k ↔ (IsIn none k ⊎ (k ≡ 0))) →
    ((k : ℕ) → IsIn then_ k ↔ (IsIn first k ⊎ Contains xs k)) → (k : ℕ) → IsIn then_ k ↔ ((IsIn none k ⊎ (k ≡ 0)) ⊎ Contains xs k)
marked-both none first then_ xs p q k = (
  (λ h. elim ((q k).0 h) [ inl a ↦ inl ((p k).0 a) | inr b ↦ inr b ]),
  (λ h. elim h [ inl a ↦ (q k).1 (inl ((p k).1 a)) | inr b ↦ (q k).1 (inr b) ]),
)
