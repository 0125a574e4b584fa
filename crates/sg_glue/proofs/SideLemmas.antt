-- Each part of a gluing, divided by its greatest common divisor, generates a numerical semigroup.
use Rattle.std.proofs.Common.{◌≡◌, ℕ, zero, suc, ◌+◌, ◌*◌, ◌/◌, ◌<◌, ◌≤◌, List, [], ◌∷◌, length, get_or, sym, ap, subst, ◌∙◌, inl, inr, arith}
use Rattle.std.specs.Prelude.{◌⊎◌, All}
use Rattle.std.specs.Int.{◌∣◌}
use Rattle.std.proofs.Math.Nat.{mul_assoc, mul-div_cancel', dvd-mul_right, pos_of_dvd_of_pos}
use Rattle.std.proofs.lemmas.Nat.Gcd.{le_of_dvd}
use Rattle.std.proofs.lemmas.List.Elements.{All-nil, All-cons, All-head, All-tail, Contains-get_or}
use Rattle.sg_defs.specs.Membership.{IsNumericalSemigroup}
use Rattle.sg_defs.specs.Vectors.{scale}
use Rattle.sg_nonunique.proofs.AffineLemmas.{length-scale}
use Rattle.sg_classes.proofs.GeneratorLemmas.{entry-positive}
use Rattle.sg_glue.specs.Gluings.{Split, IsGcdOf, IsGluing}
use Rattle.sg_glue.proofs.ReachLemmas.{scaled-positive}

times-divides : (d c : ℕ) (A : List ℕ) → All (λ x. c ∣ x) A → All (λ x. (d * c) ∣ x) (scale d A)
times-divides d c [] h = All-nil (λ x. (d * c) ∣ x)
times-divides d c (x ∷ A) h = All-cons (λ y. (d * c) ∣ y) (d * x) (scale d A)
    (subst (λ n. (d * c) ∣ n) (mul_assoc d c (x / c) ∙ ap (λ n. d * n) (mul-div_cancel' c (All-head (λ y. c ∣ y) x A h))) (dvd-mul_right (d * c) (x / c)))
    (times-divides d c A (All-tail (λ y. c ∣ y) x A h))

not-more : (d c : ℕ) → 0 < d → d * c ≤ d → c ≤ 1
not-more d zero some l = omega arith
not-more d (suc zero) some l = omega arith
not-more d (suc (suc c)) some l = absurd (omega (arith, some, l, let e : d * suc (suc c) ≡ d * c + d + d = omega arith in e))

side-semigroup : (part A : List ℕ) (d : ℕ) → scale d A ≡ part → 0 < length part → All (λ x. 1 ≤ x) part → IsGcdOf part d → IsNumericalSemigroup A
side-semigroup part A d side some positive g =
    let nonzero : 0 < d = pos_of_dvd_of_pos (g.divides 0 0 some) (positive 0 0 some) in
    record {
      not_empty = omega (arith, some, ap length side, length-scale d A);
      positive = scaled-positive d A (subst (All (λ x. 1 ≤ x)) (sym side) positive);
      coprime = λ c h. not-more d c nonzero (le_of_dvd nonzero (g.greatest (d * c) (subst (All (λ x. (d * c) ∣ x)) side (times-divides d c A h))));
    }

pub sides-semigroups : (G : List ℕ) (s : Split) (A : List ℕ) → IsNumericalSemigroup G → IsGluing G s → (scale s.d_left A ≡ s.left) ⊎ (scale s.d_right A ≡ s.right) → IsNumericalSemigroup A
sides-semigroups G s A semigroup gluing (inl side) = side-semigroup s.left A s.d_left side gluing.parts.left_not_empty
    (λ k e l. entry-positive G semigroup (get_or s.left k e) ((gluing.parts.all (get_or s.left k e)).1 (inl (Contains-get_or s.left k e l)))) gluing.divisor_left
sides-semigroups G s A semigroup gluing (inr side) = side-semigroup s.right A s.d_right side gluing.parts.right_not_empty
    (λ k e l. entry-positive G semigroup (get_or s.right k e) ((gluing.parts.all (get_or s.right k e)).1 (inr (Contains-get_or s.right k e l)))) gluing.divisor_right
