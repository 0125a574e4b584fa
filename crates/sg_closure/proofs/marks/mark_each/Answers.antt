use Rattle.std.proofs.Common.{◌≡◌, ℕ, ◌+◌, ◌<◌, ◌↔◌, List, length, get_or, Bool, sym, ap, subst, ◌∙◌, inl, inr, arith}
use Rattle.std.specs.Prelude.{◌⊎◌, Contains}
use Rattle.std.proofs.lemmas.Bool.{cases_lt}
use Rattle.sg_classes.proofs.GeneratorLemmas.{contains-place, place-contains}
use Rattle.sg_closure.specs.Marks.{IsIn}
use Rattle.sg_closure.proofs.marks.mark_each.Goals as goal

-- k is one of the first n numbers
abbrev IsAmong : List ℕ → ℕ → ℕ → Type 0
IsAmong xs n k = (i : ℕ) × (i < n) × (get_or xs i 0 ≡ k)

more : (before marks new : List Bool) (xs : List ℕ) (n : ℕ) → ((k : ℕ) → IsIn marks k ↔ (IsIn before k ⊎ IsAmong xs n k)) →
    ((k : ℕ) → IsIn new k ↔ (IsIn marks k ⊎ (k ≡ get_or xs n 0))) → (k : ℕ) → IsIn new k ↔ (IsIn before k ⊎ IsAmong xs (n + 1) k)
more before marks new xs n old told k = (
  (λ p. elim ((told k).0 p) [
    | inl was ↦ elim ((old k).0 was) [ inl first ↦ inl first | inr a ↦ inr (a.0, omega (arith, a.1), a.2) ]
    | inr e ↦ inr (n, omega arith, sym e)
  ]),
  (λ p. elim p [
    | inl first ↦ (told k).1 (inl ((old k).1 (inl first)))
    | inr a ↦ elim (cases_lt a.0 n) [
      | inl less ↦ (told k).1 (inl ((old k).1 (inr (a.0, less, a.2))))
      | inr here ↦ let e : n ≡ a.0 = omega (arith, a.1) in (told k).1 (inr (sym a.2 ∙ sym (ap (λ i. get_or xs i 0) e)))
    ]
  ]),
)

whole : (before marks : List Bool) (xs : List ℕ) (n : ℕ) → n ≡ length xs → ((k : ℕ) → IsIn marks k ↔ (IsIn before k ⊎ IsAmong xs n k)) →
    (k : ℕ) → IsIn marks k ↔ (IsIn before k ⊎ Contains xs k)
whole before marks xs n e told k = (
  (λ p. elim ((told k).0 p) [ inl first ↦ inl first | inr a ↦ inr (subst (Contains xs) a.2 (place-contains xs a.0 (omega (arith, a.1, e)))) ]),
  (λ p. elim p [
    | inl first ↦ (told k).1 (inl first)
    | inr c ↦ let q = contains-place xs k c in (told k).1 (inr (q.0, omega (arith, q.1, e), q.2))
  ]),
)

pub loop-n-preserved : goal.loop-n-preserved
loop-n-preserved c = record {
  long = c.mark.ensures.length ∙ c.loop-n.invariant.long;
  marked = more c.args.marks.now c.loop-n.marks c.mark.new.marks c.args.numbers.now c.loop-n.n-index c.loop-n.invariant.marked c.mark.ensures.marked;
}

pub returns-clause-marked : goal.returns-clause-marked
returns-clause-marked c =
    whole c.args.marks.now c.loop-n.marks c.args.numbers.now c.loop-n.n-index (omega (arith, c.loop-n-test.false, c.loop-n.auto.n-index-end)) c.loop-n.invariant.marked
