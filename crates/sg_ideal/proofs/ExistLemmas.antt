-- Each table has a list of heads, and with it a list of minimal generators.
use Rattle.std.proofs.Common.{◌≡◌, ℕ, zero, suc, ◌+◌, ◌%◌, ◌<◌, ◌↔◌, List, [], ◌∷◌, ◌++◌, length, subst, inl, inr, arith}
use Rattle.std.specs.Prelude.{Contains, ℤ, pos, ◌+ℤ◌}
use Rattle.std.specs.List.Sorted.{IsStrictlyIncreasing}
use Rattle.std.proofs.lemmas.Int.{ints}
use Rattle.std.proofs.lemmas.Bool.{cases_lt}
use Rattle.std.proofs.lemmas.Nat.{mod_below}
use Rattle.std.proofs.lemmas.List.Elements.{Contains-append_left, Contains-push, Contains-push_cases}
use Rattle.sg_defs.specs.Listings.{Lists}
use Rattle.sg_invar.proofs.ListingLemmas.{increasing-push}
use Rattle.sg_classes.specs.declared.limits.TheConstants.{APERY_ENTRY_LIMIT}
use Rattle.sg_ideal.specs.Classes.{IsFrom, IsIdealTable}
use Rattle.sg_ideal.specs.Heads.{IsHead, raised_by}
use Rattle.sg_ideal.specs.Value.{HasLargeGenerator}
use Rattle.sg_lawful.specs.Generators.{IsLarge}
use Rattle.sg_ideal.proofs.HeadLemmas.{head-entry}
use Rattle.sg_ideal.proofs.GenerateLemmas.{head-decided, head-zero, multiplicity-listed}
use Rattle.sg_ideal.proofs.KeptLemmas.{heads-generate, raised-to}

module _ (G t : List ℕ) (h : IsIdealTable G t) where
  -- the heads below b
  below : (b : ℕ) → (l : List ℕ) × IsStrictlyIncreasing l × ((w : ℕ) → Contains l w ↔ ((w < b) × IsHead G t w))
  below zero = ([], (λ i j. absurd (omega arith)), λ w. ((λ q. absurd (omega (arith, q.1))), (λ q. absurd (omega (arith, q.0)))))
  below (suc b) =
      let r = below b in
      elim (head-decided G t h b) [
        | inl head ↦ (
          r.0 ++ b ∷ [],
          increasing-push r.0 b r.1 (λ x q. ((r.2 x).0 q).0),
          λ w. (
            (λ q. elim (Contains-push_cases r.0 b w q) [
              | inl before ↦ let p = (r.2 w).0 before in (omega (arith, p.0), p.1)
              | inr same ↦ subst (λ w. (w < suc b) × IsHead G t w) same (omega arith, head)
            ]),
            (λ p. elim (cases_lt w b) [
              | inl less ↦ Contains-append_left r.0 (b ∷ []) w ((r.2 w).1 (less, p.1))
              | inr more ↦ let same : b ≡ w = omega (arith, p.0, more) in subst (Contains (r.0 ++ b ∷ [])) same (Contains-push r.0 b)
            ]),
          ),
        )
        | inr not ↦ (
          r.0,
          r.1,
          λ w. (
            (λ q. let p = (r.2 w).0 q in (omega (arith, p.0), p.1)),
            (λ p. elim (cases_lt w b) [
              | inl less ↦ (r.2 w).1 (less, p.1)
              | inr more ↦ let same : w ≡ b = omega (arith, p.0, more) in absurd (not (subst (IsHead G t) same p.1))
            ]),
          ),
        )
      ]

  pub heads-exist : (l : List ℕ) × Lists (IsHead G t) l
  heads-exist =
      let r = below (APERY_ENTRY_LIMIT + 1) in (
        r.0,
        record {
          ascending = r.1;
          exactly = λ w. (
            (λ q. ((r.2 w).0 q).1),
            (λ p.
                let e = head-entry G t h (multiplicity-listed G t h) w p in
                let s = h.classes.small (w % length t) (mod_below w (length t) h.classes.not_empty) in
                (r.2 w).1 (omega (arith, e, s), p)),
          );
        },
      )

  -- the base is a minimal generator
  pub large-base : (base : ℤ) → IsLarge base → HasLargeGenerator G (IsFrom base t)
  large-base base large =
      let H = heads-exist in
      let e : base +ℤ pos 0 ≡ base = omega (arith, ints) in
      let listed = raised-to base H.0 0 ((H.1.exactly 0).1 (head-zero G t h)) in
      (raised_by base H.0, heads-generate G t H.0 base h H.1, (base, subst (Contains (raised_by base H.0)) e listed, large))
