-- The marks of the saturated closure, by the greatest common divisors of the generators up to each number.
use Rattle.std.proofs.Common.{◌≡◌, ℕ, ◌+◌, ◌%◌, ◌<◌, ◌≤◌, ◌↔◌, Bool, List, length, get_or, set, sym, subst, ◌∙◌, inl, inr, eq-eqb, eqb-true, arith}
use Rattle.std.specs.Prelude.{Contains, nat_eq}
use Rattle.std.proofs.Common.{true}
use Rattle.std.specs.Int.{◌∣◌, IsGcd}
use Rattle.std.proofs.lemmas.Bool.{cases_lt, cases_eq}
use Rattle.std.proofs.lemmas.List.{length-set}
use Rattle.std.proofs.lemmas.Nat.Gcd.{dvd_refl, dvd-zero, dvd_trans, dvd_of_mod-eq-zero, mod-eq-zero_of_dvd}
use Rattle.std.proofs.Math.Nat.{eq-zero_of_zero-dvd}
use Rattle.sg_defs.specs.Membership.{IsNumericalSemigroup, IsMinimal}
use Rattle.sg_defs.proofs.MinimalLemmas.{first-least}
use Rattle.sg_classes.proofs.GeneratorLemmas.{contains-place, place-contains}
use Rattle.sg_closure.specs.Marks.{IsIn, AreGeneratorMarks}
use Rattle.sg_closure.specs.Saturation.{DividesBelow, IsInSaturation}
use Rattle.sg_closure.proofs.MarkLemmas.{in-decided, in-set, in-set_other}

-- while the marks are gone through: those below n are done, and divisor is the greatest common one of the generators there
pub record IsSifted (G : List ℕ) (before marks : List Bool) (divisor n : ℕ) : Type 0 where
  pub long : length marks ≡ length before
  pub common : (d : ℕ) → (d ∣ divisor) ↔ DividesBelow G n d
  pub below : (k : ℕ) → k < n → k < length before → IsIn marks k ↔ IsInSaturation G k
  pub above : (k : ℕ) → n ≤ k → IsIn marks k ↔ IsIn before k

module _ (G : List ℕ) (s : IsNumericalSemigroup G) (minimal : IsMinimal G) (before : List Bool) (start : AreGeneratorMarks G before) where
  positive : 0 < get_or G 0 0
  positive = omega (arith, s.positive 0 0 s.not_empty)

  least : (g : ℕ) → Contains G g → get_or G 0 0 ≤ g
  least g h = let p = contains-place G g h in omega (arith, first-least G minimal.ascending p.0 p.1, p.2)

  -- before the multiplicity nothing is to do
  pub sifted-begins : IsSifted G before before 0 (get_or G 0 0)
  sifted-begins = record {
    long = omega arith;
    common = λ d. ((λ h g c l. absurd (omega (arith, least g c, l))), (λ h. dvd-zero d));
    below = λ k l m. (
      (λ p. elim (start.only k m p) [ inl e ↦ inl e | inr c ↦ absurd (omega (arith, least k c, l)) ]),
      (λ q. elim q [ inl e ↦ subst (IsIn before) (sym e) start.zero | inr r ↦ absurd (omega (arith, r.0, l)) ]),
    );
    above = λ k l. ((λ p. p), (λ p. p));
  }

  module _ (marks : List Bool) (divisor next n : ℕ) (h : IsSifted G before marks divisor n) (low : get_or G 0 0 ≤ n) (inside : n < length before)
      (marked : IsIn marks n → IsGcd divisor n next) (unmarked : (IsIn marks n → ⊥) → next ≡ divisor) where
    -- the generators below n and n, if that is one
    next-common : (d : ℕ) → (d ∣ next) ↔ DividesBelow G (n + 1) d
    next-common d = elim (in-decided marks n) [
      | inl here ↦ elim (start.only n inside ((h.above n (omega arith)).0 here)) [
        | inl e ↦ absurd (omega (arith, positive, low, e))
        | inr listed ↦
            let g = marked here in (
              (λ p x c l. elim (cases_lt x n) [
                | inl less ↦ (h.common d).0 (dvd_trans d p g.0) x c less
                | inr more ↦ let e : n ≡ x = omega arith in subst (λ y. d ∣ y) e (dvd_trans d p g.1)
              ]),
              (λ all. g.2 d ((h.common d).1 (λ x c l. all x c (omega arith))) (all n listed (omega arith))),
            )
      ]
      | inr out ↦
          let e = unmarked out in (
            (λ p x c l. elim (cases_lt x n) [
              | inl less ↦ (h.common d).0 (subst (λ y. d ∣ y) e p) x c less
              | inr more ↦ let f : x ≡ n = omega arith in absurd (out (subst (IsIn marks) f ((h.above x more).1 (start.generators x c))))
            ]),
            (λ all. subst (λ y. d ∣ y) (sym e) ((h.common d).1 (λ x c l. all x c (omega arith)))),
          )
    ]

    -- the divisor is above 0 from the multiplicity on
    pub next-positive : 0 < next
    next-positive = elim (cases_eq next 0) [
      | inl e ↦
          let p = (next-common next).0 (dvd_refl next) (get_or G 0 0) (place-contains G 0 s.not_empty) (omega arith) in
          absurd (omega (arith, positive, eq-zero_of_zero-dvd (subst (λ d. d ∣ get_or G 0 0) e p)))
      | inr other ↦ omega arith
    ]

    here : (nat_eq (n % next) 0 ≡ true) ↔ IsInSaturation G n
    here = (
      (λ t. inr (low, λ d all. dvd_trans d ((next-common d).1 (λ g c l. all g c (omega arith))) (dvd_of_mod-eq-zero next (eqb-true (n % next) 0 t)))),
      (λ q. elim q [
        | inl e ↦ absurd (omega (arith, positive, low, e))
        | inr r ↦ eq-eqb (n % next) 0 (mod-eq-zero_of_dvd next (r.1 next (λ g c l. (next-common next).0 (dvd_refl next) g c (omega arith))))
      ]),
    )

    -- one more number
    pub sifted-steps : IsSifted G before (set marks n (nat_eq (n % next) 0)) next (n + 1)
    sifted-steps = record {
      long = length-set marks n (nat_eq (n % next) 0) ∙ h.long;
      common = next-common;
      below = λ k l m. elim (cases_eq k n) [
        | inl e ↦ subst (λ x. IsIn (set marks n (nat_eq (n % next) 0)) x ↔ IsInSaturation G x) (sym e)
            (let w = in-set marks n (nat_eq (n % next) 0) (omega (arith, h.long)) in ((λ p. here.0 (w.0 p)), (λ q. w.1 (here.1 q))))
        | inr other ↦
            let w = in-set_other marks n k (nat_eq (n % next) 0) other in
            let b = h.below k (omega arith) m in
            ((λ p. b.0 (w.0 p)), (λ q. w.1 (b.1 q)))
      ];
      above = λ k l.
          let w = in-set_other marks n k (nat_eq (n % next) 0) (omega arith) in
          let b = h.above k (omega arith) in
          ((λ p. b.0 (w.0 p)), (λ q. w.1 (b.1 q)));
    }
