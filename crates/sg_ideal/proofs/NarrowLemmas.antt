-- What two sets that are told by residue classes have in common.
use Rattle.std.proofs.Common.{◌≡◌, ℕ, ◌+◌, ◌-◌, ◌%◌, ◌<◌, ◌↔◌, List, length, get_or, max, sym, ap, ◌∙◌, inl, inr, arith}
use Rattle.std.proofs.lemmas.Bool.{cases_lt}
use Rattle.std.proofs.lemmas.Nat.{mod_below}
use Rattle.std.proofs.Math.Nat.{mod-eq_of_lt}
use Rattle.sg_classes.specs.Classes.{IsAboveEntry}
use Rattle.sg_classes.proofs.ResidueLemmas.{residue-sum}
use Rattle.sg_ideal.specs.Classes.{AreClasses}
use Rattle.sg_ideal.proofs.ResidueLemmas.{residue-lowered}

module _ (old other now : List ℕ) (b : ℕ) (o : AreClasses old) (p : AreClasses other) (same_long : length old ≡ length other) (long : length now ≡ length old)
    (each : (k : ℕ) → k < length other → get_or now k 0 ≡ max (get_or old k 0) (get_or other ((k + b % length other) % length other) 0 - b)) where
  other_long : length now ≡ length other
  other_long = long ∙ same_long

  residue : (i : ℕ) → i < length other → get_or now i 0 % length other ≡ i
  residue i l =
      let j = (i + b % length other) % length other in
      let inside : j < length other = mod_below (i + b % length other) (length other) p.not_empty in
      let down : get_or old i 0 % length other ≡ i = ap (λ n. get_or old i 0 % n) (sym same_long) ∙ o.residue i (omega (arith, same_long)) in
      elim (cases_lt (get_or old i 0) (get_or other j 0 - b)) [
        | inl less ↦
            let e : get_or now i 0 ≡ get_or other j 0 - b = omega (arith, each i l) in
            ap (λ x. x % length other) e ∙ residue-lowered (get_or other j 0) b i (length other) p.not_empty (omega arith) (p.residue j inside) ∙ mod-eq_of_lt l
        | inr more ↦ let e : get_or now i 0 ≡ get_or old i 0 = omega (arith, each i l) in ap (λ x. x % length other) e ∙ down
      ]

  -- each entry stays in its class
  pub narrowed-classes : AreClasses now
  narrowed-classes = record {
    not_empty = omega (arith, other_long, p.not_empty);
    short = omega (arith, other_long, p.short);
    residue = λ i l. ap (λ n. get_or now i 0 % n) other_long ∙ residue i (omega (arith, other_long));
    small = λ i l.
        let inside : i < length other = omega (arith, other_long) in
        let j = (i + b % length other) % length other in
        let e = each i inside in
        let s = o.small i (omega (arith, long)) in
        let t = p.small j (mod_below (i + b % length other) (length other) p.not_empty) in
        omega (arith, e, s, t);
  }

  -- the set has what the other one has too, moved down
  pub narrowed-same : (n : ℕ) → IsAboveEntry now n ↔ (IsAboveEntry old n × IsAboveEntry other (n + b))
  narrowed-same n =
      let i = n % length other in
      let e = ap (λ k. get_or now (n % k) 0) other_long ∙ each i (mod_below n (length other) p.not_empty) in
      let f = ap (λ k. get_or old (n % k) 0) same_long in
      let g = ap (λ k. get_or other k 0) (sym (residue-sum n b (length other))) in
      ((λ h. (omega (arith, e, f, g, h), omega (arith, e, f, g, h))), (λ h. omega (arith, e, f, g, h.0, h.1)))
