-- The union of two sets that are told by residue classes.
use Rattle.std.proofs.Common.{◌≡◌, ℕ, ◌+◌, ◌-◌, ◌%◌, ◌<◌, ◌≤◌, ◌↔◌, List, length, get_or, min, sym, ap, ◌∙◌, inl, inr, arith}
use Rattle.std.specs.Prelude.{◌⊎◌}
use Rattle.std.proofs.lemmas.Bool.{cases_lt}
use Rattle.std.proofs.lemmas.Nat.{mod_below}
use Rattle.std.proofs.Math.Nat.{mod-eq_of_lt}
use Rattle.sg_classes.specs.Classes.{IsAboveEntry}
use Rattle.sg_ideal.specs.Classes.{AreClasses}
use Rattle.sg_ideal.proofs.ResidueLemmas.{residue-minus, residue-plus}

module _ (old other now : List ℕ) (b : ℕ) (o : AreClasses old) (p : AreClasses other) (same_long : length old ≡ length other) (long : length now ≡ length old)
    (each : (k : ℕ) → k < length other → get_or now k 0 ≡ min (get_or old k 0) (b + get_or other ((k + (length other - b % length other)) % length other) 0)) where
  m : ℕ
  m = length other

  other_long : length now ≡ length other
  other_long = long ∙ same_long

  residue-min : (x y i : ℕ) → x % length other ≡ i → y % length other ≡ i → min x y % length other ≡ i
  residue-min x y i p q = elim (cases_lt x y) [
    | inl less ↦ let e : min x y ≡ x = omega arith in ap (λ z. z % length other) e ∙ p
    | inr more ↦ let e : min x y ≡ y = omega arith in ap (λ z. z % length other) e ∙ q
  ]

  residue : (i : ℕ) → i < length other → get_or now i 0 % length other ≡ i
  residue i l =
      let j = (i + (length other - b % length other)) % length other in
      let inside : j < length other = mod_below (i + (length other - b % length other)) (length other) p.not_empty in
      let up = residue-plus (get_or other j 0) b i (length other) p.not_empty (p.residue j inside) ∙ mod-eq_of_lt l in
      let down : get_or old i 0 % length other ≡ i = ap (λ n. get_or old i 0 % n) (sym same_long) ∙ o.residue i (omega (arith, same_long)) in
      ap (λ x. x % length other) (each i l) ∙ residue-min (get_or old i 0) (b + get_or other j 0) i down up

  -- each entry stays in its class
  pub extended-classes : AreClasses now
  extended-classes = record {
    not_empty = omega (arith, other_long, p.not_empty);
    short = omega (arith, other_long, p.short);
    residue = λ i l. ap (λ n. get_or now i 0 % n) other_long ∙ residue i (omega (arith, other_long));
    small = λ i l. let e = each i (omega (arith, other_long)) in let s = o.small i (omega (arith, long)) in omega (arith, e, s);
  }

  -- the set has what it had, and the other one moved up
  pub extended-same : (n : ℕ) → IsAboveEntry now n ↔ (IsAboveEntry old n ⊎ ((b ≤ n) × IsAboveEntry other (n - b)))
  extended-same n = (to, from)
    where
      e : get_or now (n % length now) 0 ≡ min (get_or old (n % length old) 0) (b + get_or other ((n % length other + (length other - b % length other)) % length other) 0)
      e = ap (λ k. get_or now (n % k) 0) other_long ∙ each (n % length other) (mod_below n (length other) p.not_empty) ∙
          ap (λ k. min (get_or old (n % k) 0) (b + get_or other ((n % length other + (length other - b % length other)) % length other) 0)) (sym same_long)

      place : b ≤ n → get_or other ((n % length other + (length other - b % length other)) % length other) 0 ≡ get_or other ((n - b) % length other) 0
      place l = ap (λ k. get_or other k 0) (sym (residue-minus n b (length other) p.not_empty l))

      to : IsAboveEntry now n → IsAboveEntry old n ⊎ ((b ≤ n) × IsAboveEntry other (n - b))
      to h = elim (cases_lt n (get_or old (n % length old) 0)) [
        | inl less ↦ let l : b ≤ n = omega (arith, e, h) in inr (l, omega (arith, e, h, place l))
        | inr more ↦ inl more
      ]

      from : IsAboveEntry old n ⊎ ((b ≤ n) × IsAboveEntry other (n - b)) → IsAboveEntry now n
      from (inl h) = omega (arith, e, h)
      from (inr h) = omega (arith, e, h.0, h.1, place h.0)
