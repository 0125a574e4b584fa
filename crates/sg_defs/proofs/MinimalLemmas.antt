-- The first of the minimal generators is the least member above 0, and none of them is a sum of two members above 0.
use Rattle.std.proofs.Common.{◌≡◌, ◌≢◌, ℕ, zero, suc, ◌+◌, ◌-◌, ◌<◌, ◌≤◌, List, length, get_or, ap, subst, ◌∙◌, inl, inr, arith}
use Rattle.std.specs.Prelude.{remove}
use Rattle.std.specs.List.Sorted.{IsStrictlyIncreasing}
use Rattle.std.proofs.lemmas.Bool.{cases_lt}
use Rattle.std.proofs.lemmas.List.Edits.{get_or-remove_below, get_or-remove_above, length-remove}
use Rattle.sg_defs.specs.Membership.{IsMember, IsNumericalSemigroup, IsMinimal, IsMultiplicity}
use Rattle.sg_defs.proofs.MembershipLemmas.{member-zero, member-add, member-entry, member-induction}

-- no entry is below the first
pub first-least : (G : List ℕ) → IsStrictlyIncreasing G → (k : ℕ) → k < length G → get_or G 0 0 ≤ get_or G k 0
first-least G up zero l = omega arith
first-least G up (suc k) l =
    let before = first-least G up k (omega arith) in
    let step : get_or G k 0 < get_or G (k + 1) 0 = up k (omega arith) in
    let same : k + 1 ≡ suc k = omega arith in
    let next : get_or G (k + 1) 0 ≡ get_or G (suc k) 0 = ap (λ i. get_or G i 0) same in
    omega (arith, before, step, next)

-- the first generator is the multiplicity
pub first-multiplicity : (G : List ℕ) → IsNumericalSemigroup G → IsMinimal G → IsMultiplicity G (get_or G 0 0)
first-multiplicity G s minimal = record {
  positive = omega (arith, s.positive 0 0 s.not_empty);
  member = member-entry G 0 s.not_empty;
  least = λ n l h. member-induction (λ n. 0 < n → get_or G 0 0 ≤ n) G (λ none. absurd (omega arith))
      (λ i n inside before some. omega (arith, first-least G minimal.ascending i inside)) n h l;
}

-- a member below an entry does without that entry
pub below-entry : (G : List ℕ) (k : ℕ) → k < length G → (n : ℕ) → IsMember G n → n < get_or G k 0 → IsMember (remove G k) n
below-entry G k inside = member-induction (λ n. n < get_or G k 0 → IsMember (remove G k) n) G (λ _. member-zero (remove G k)) step
  where
    kept : (i : ℕ) → i < length G → get_or G i 0 < get_or G k 0 → IsMember (remove G k) (get_or G i 0)
    kept i l less = elim (cases_lt i k) [
      | inl below ↦ subst (IsMember (remove G k)) (get_or-remove_below G k 0 i below inside) (member-entry (remove G k) i (omega (arith, length-remove G k inside)))
      | inr more ↦
          let other : i ≢ k = λ e. omega (arith, less, ap (λ j. get_or G j 0) e) in
          let e : i - 1 + 1 ≡ i = omega arith in
          subst (IsMember (remove G k)) (get_or-remove_above G k 0 (i - 1) (omega arith) inside ∙ ap (λ j. get_or G j 0) e)
          (member-entry (remove G k) (i - 1) (omega (arith, length-remove G k inside)))
    ]

    step : (i n : ℕ) → i < length G → (n < get_or G k 0 → IsMember (remove G k) n) → n + get_or G i 0 < get_or G k 0 → IsMember (remove G k) (n + get_or G i 0)
    step i n l h less = member-add (remove G k) n (get_or G i 0) (h (omega arith)) (kept i l (omega arith))

-- a minimal generator is no sum of two members above 0
pub no_sum : (G : List ℕ) → IsMinimal G → (k : ℕ) → k < length G → (a b : ℕ) → 0 < a → 0 < b → IsMember G a → IsMember G b → a + b ≡ get_or G k 0 → ⊥
no_sum G minimal k l a b p q in_a in_b e =
    minimal.needed k l (subst (IsMember (remove G k)) e (member-add (remove G k) a b
    (below-entry G k l a in_a (omega (arith, e, q))) (below-entry G k l b in_b (omega (arith, e, p)))))
