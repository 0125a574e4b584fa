-- There are as many minimal generators as the multiplicity exactly where the embedding dimension is maximal.
use Rattle.std.proofs.Common.{◌≡◌, ℕ, zero, suc, ◌+◌, ◌-◌, ◌*◌, ◌%◌, ◌<◌, ◌↔◌, List, length, get_or, sym, ap, subst, ◌∙◌, inl, inr, arith}
use Rattle.std.proofs.lemmas.Bool.{cases_lt, cases_eq}
use Rattle.std.proofs.lemmas.Nat.{mod_below}
use Rattle.std.proofs.lemmas.List.Kept.{AllPairs-from_increasing}
use Rattle.std.proofs.Math.Nat.{mod_self, mod-eq_of_lt, add-mod_right}
use Rattle.sg_defs.specs.Membership.{IsMember, IsNumericalSemigroup, IsMinimal, IsMultiplicity}
use Rattle.sg_defs.specs.Closures.{IsMed}
use Rattle.sg_defs.proofs.MembershipLemmas.{member-add, member-entry, member-times}
use Rattle.sg_classes.proofs.AperyLemmas.{congruent-split}
use Rattle.sg_classes.proofs.GeneratorLemmas.{member-split}
use Rattle.sg_classes.proofs.ResidueLemmas.{member-residue}
use Rattle.sg_closure.proofs.CoverLemmas.{IsShuffle, shuffle-covers, different-few}
use Rattle.sg_defs.proofs.MinimalLemmas.{first-multiplicity, no_sum}
use Rattle.sg_defs.proofs.OneLemmas.{one-multiplicity}

module _ (G : List ℕ) (m : ℕ) (s : IsNumericalSemigroup G) (minimal : IsMinimal G) (multiplicity : IsMultiplicity G m) where
  -- a minimal generator is no greater member's sum with a multiple of the multiplicity
  no_turns : (k c n : ℕ) → k < length G → 0 < n → IsMember G n → n < get_or G k 0 → get_or G k 0 ≡ n + c * m → ⊥
  no_turns k zero n l p q less e = omega (arith, less, e)
  no_turns k (suc c) n l p q less e =
      no_sum G minimal k l n (suc c * m) p (omega (arith, multiplicity.positive)) q (member-times G (suc c) m multiplicity.member) (sym e)

  residue-differs : (i j : ℕ) → i < j → j < length G → get_or G i 0 % m ≡ get_or G j 0 % m → ⊥
  residue-differs i j less l e =
      let up = AllPairs-from_increasing G minimal.ascending i j 0 less l in
      let c = congruent-split m (get_or G i 0) (get_or G j 0) multiplicity.positive e (omega (arith, up)) in
      no_turns j c.0 (get_or G i 0) l (omega (arith, s.positive i 0 (omega arith))) (member-entry G i (omega arith)) up c.1

  residues-differ : (i j : ℕ) → i < length G → j < length G → get_or G i 0 % m ≡ get_or G j 0 % m → i ≡ j
  residues-differ i j l k e = elim (cases_lt i j) [
    | inl less ↦ absurd (residue-differs i j less k e)
    | inr more ↦ elim (cases_eq i j) [
      | inl same ↦ same
      | inr other ↦ absurd (residue-differs j i (omega arith) l (sym e))
    ]
  ]

  -- what is a generator and a multiple of the multiplicity, and no generator, is a member without one multiplicity
  lower : (k c n : ℕ) → k < length G → n ≡ get_or G k 0 + c * m → (n ≡ get_or G k 0 → ⊥) → IsMember G (n - m)
  lower k zero n l e other = absurd (other (omega arith))
  lower k (suc c) n l e other =
      let f : get_or G k 0 + c * m ≡ n - m = omega arith in
      subst (IsMember G) f (member-add G (get_or G k 0) (c * m) (member-entry G k l) (member-times G c m multiplicity.member))

  med-from_full : length G ≡ m → (x y : ℕ) → 0 < x → 0 < y → IsMember G x → IsMember G y → IsMember G (x + y - m)
  med-from_full full x y p q in_x in_y =
      let shuffle : IsShuffle (λ i. get_or G i 0 % m) m = record {
        low = λ i l. mod_below (get_or G i 0) m multiplicity.positive;
        differs = λ i j l k e. residues-differ i j (omega arith) (omega arith) e;
      } in
      let r = shuffle-covers m (λ i. get_or G i 0 % m) shuffle ((x + y) % m) (mod_below (x + y) m multiplicity.positive) in
      let l : r.0 < length G = omega (arith, r.1, full) in
      elim (cases_lt (x + y) (get_or G r.0 0)) [
        | inl less ↦
            let c = congruent-split m (x + y) (get_or G r.0 0) multiplicity.positive (sym r.2) (omega arith) in
            absurd (no_turns r.0 c.0 (x + y) l (omega arith) (member-add G x y in_x in_y) less c.1)
        | inr more ↦
            let c = congruent-split m (get_or G r.0 0) (x + y) multiplicity.positive r.2 more in
            lower r.0 c.0 (x + y) l c.1 (no_sum G minimal r.0 l x y p q in_x in_y)
      ]

  -- the generator that is the multiplicity leaves the residue 0
  first-class : (k : ℕ) × (k < length G) × (get_or G k 0 % m ≡ 0)
  first-class = elim (member-split G m multiplicity.member) [
    | inl e ↦ absurd (omega (arith, multiplicity.positive, e))
    | inr p ↦
        let low = multiplicity.least (get_or G p.0 0) (omega (arith, s.positive p.0 0 p.2)) (member-entry G p.0 p.2) in
        let e : get_or G p.0 0 ≡ m = omega (arith, low, p.4) in
        (p.0, p.2, ap (λ n. n % m) e ∙ mod_self m)
  ]

  -- where the embedding dimension is maximal, a member that is no generator leads to a lesser one of its class
  class-from : ((x y : ℕ) → 0 < x → 0 < y → IsMember G x → IsMember G y → IsMember G (x + y - m)) →
      (b n : ℕ) → n < b → IsMember G n → (n % m ≡ 0 → ⊥) → (k : ℕ) × (k < length G) × (get_or G k 0 % m ≡ n % m)
  class-from med zero n l member other = absurd (omega arith)
  class-from med (suc b) n l member other = elim (member-split G n member) [
    | inl e ↦ absurd (other (ap (λ x. x % m) e ∙ mod-eq_of_lt multiplicity.positive))
    | inr p ↦ elim (cases_eq p.1 0) [
      | inl alone ↦
          let e : get_or G p.0 0 ≡ n = omega (arith, alone, p.4) in
          (p.0, p.2, ap (λ x. x % m) e)
      | inr more ↦
          let g : 0 < get_or G p.0 0 = omega (arith, s.positive p.0 0 p.2) in
          let low = multiplicity.least (get_or G p.0 0) g (member-entry G p.0 p.2) in
          let e : p.1 + get_or G p.0 0 - m ≡ n - m = omega (arith, p.4) in
          let q = subst (IsMember G) e (med p.1 (get_or G p.0 0) (omega (arith, more)) g p.3 (member-entry G p.0 p.2)) in
          let back : (n - m) + m ≡ n = omega (arith, low, p.4) in
          let same : (n - m) % m ≡ n % m = sym (add-mod_right (n - m) m) ∙ ap (λ x. x % m) back in
          let r = class-from med b (n - m) (omega (arith, multiplicity.positive, low, p.4, l)) q (λ e. other (sym same ∙ e)) in
          (r.0, r.1, r.2 ∙ same)
    ]
  ]

  -- so each residue class has a generator
  class-generator : ((x y : ℕ) → 0 < x → 0 < y → IsMember G x → IsMember G y → IsMember G (x + y - m)) →
      (i : ℕ) → i < m → (k : ℕ) × (k < length G) × (get_or G k 0 % m ≡ i)
  class-generator med i l = elim (cases_eq i 0) [
    | inl none ↦ (first-class.0, first-class.1, first-class.2 ∙ sym none)
    | inr some ↦
        let n = member-residue G m i s l in
        let r = class-from med (n.0 + 1) n.0 (omega arith) n.1 (λ e. some (sym n.2 ∙ e)) in
        (r.0, r.1, r.2 ∙ n.2)
  ]

  full-from_med : ((x y : ℕ) → 0 < x → 0 < y → IsMember G x → IsMember G y → IsMember G (x + y - m)) → length G ≡ m
  full-from_med med =
      let few = different-few (length G) m (λ i. get_or G i 0 % m) (λ i l. mod_below (get_or G i 0) m multiplicity.positive) residues-differ in
      let many = different-few m (length G) (λ i. (generator i).0) (λ i l. (generator i).1) (λ i j l k e.
      sym (mod-eq_of_lt l) ∙ sym (generator i).2 ∙ ap (λ n. get_or G n 0 % m) e ∙ (generator j).2 ∙ mod-eq_of_lt k) in
      omega (arith, few, many)
    where
      generator : (i : ℕ) → (k : ℕ) × (k < length G) × (get_or G k 0 % m ≡ i % m)
      generator i = class-generator med (i % m) (mod_below i m multiplicity.positive)

-- as many generators as the multiplicity, where a minimal list is seen alone
pub med-by_length : (G : List ℕ) → IsNumericalSemigroup G → IsMinimal G → (length G ≡ get_or G 0 0) ↔ IsMed G
med-by_length G s minimal =
    let first = first-multiplicity G s minimal in (
      (λ full. (get_or G 0 0, first, med-from_full G (get_or G 0 0) s minimal first full)),
      (λ med. full-from_med G (get_or G 0 0) s minimal first (λ x y p q a b.
          subst (λ n. IsMember G (x + y - n)) (one-multiplicity G med.0 (get_or G 0 0) med.1 first) (med.2 x y p q a b))),
    )
