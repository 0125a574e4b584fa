-- Each number of a set is a head and a member of the semigroup.
use Rattle.std.proofs.Common.{◌≡◌, ℕ, zero, suc, ◌+◌, ◌-◌, ◌<◌, ◌≤◌, ◌%◌, List, length, get_or, sym, ap, subst, inl, inr, arith}
use Rattle.std.specs.Prelude.{Contains, ◌⊎◌}
use Rattle.std.proofs.lemmas.Bool.{cases_lt}
use Rattle.std.proofs.lemmas.List.Elements.{Contains-get_or}
use Rattle.sg_defs.specs.Membership.{IsMember}
use Rattle.sg_defs.proofs.MembershipLemmas.{member-zero, member-add, member-entry, member-induction}
use Rattle.sg_classes.specs.Classes.{IsAboveEntry}
use Rattle.sg_classes.proofs.GeneratorLemmas.{contains-place, entry-positive, member-split}
use Rattle.sg_classes.proofs.ResidueLemmas.{zero-residue}
use Rattle.sg_ideal.specs.Classes.{IsIdealTable}
use Rattle.sg_ideal.specs.Heads.{IsFree, IsHead}

module _ (G t : List ℕ) (h : IsIdealTable G t) where
  -- 0 is in the set
  pub above-zero : IsAboveEntry t 0
  above-zero = let e = ap (λ r. get_or t r 0) (zero-residue (length t) h.classes.not_empty) in omega (arith, e, h.zero)

  -- the number of classes is a generator of the semigroup
  pub multiplicity-listed : Contains G (length t)
  multiplicity-listed = subst (Contains G) (sym h.multiplicity) (Contains-get_or G 0 0 h.ambient.semigroup.not_empty)

  -- a number of the set and a member
  pub above-member : (n s : ℕ) → IsAboveEntry t n → IsMember G s → IsAboveEntry t (n + s)
  above-member n s a q = member-induction (λ s. IsAboveEntry t (n + s)) G base step s q
    where
      base : IsAboveEntry t (n + 0)
      base = subst (IsAboveEntry t) (let e : n ≡ n + 0 = omega arith in e) a

      step : (i s : ℕ) → i < length G → IsAboveEntry t (n + s) → IsAboveEntry t (n + (s + get_or G i 0))
      step i s l p =
          let e : (n + s) + get_or G i 0 ≡ n + (s + get_or G i 0) = omega arith in
          subst (IsAboveEntry t) e (h.closed (n + s) (get_or G i 0) (Contains-get_or G i 0 l) p)

  pub above-decided : (n : ℕ) → IsAboveEntry t n ⊎ (IsAboveEntry t n → ⊥)
  above-decided n = elim (cases_lt n (get_or t (n % length t) 0)) [ inl less ↦ inr (λ a. omega (arith, less, a)) | inr more ↦ inl more ]

  -- whether one of the first j generators leads to n from the set
  pub led-decided : (n j : ℕ) → ((i : ℕ) × (i < j) × (get_or G i 0 ≤ n) × IsAboveEntry t (n - get_or G i 0)) ⊎ ((i : ℕ) → i < j → get_or G i 0 ≤ n → IsAboveEntry t (n - get_or G i 0) → ⊥)
  led-decided n zero = inr (λ i l k a. omega arith)
  led-decided n (suc j) = elim (led-decided n j) [
    | inl p ↦ let l = p.1 in inl (p.0, omega arith, p.2, p.3)
    | inr none ↦ elim (cases_lt n (get_or G j 0)) [
      | inl less ↦ inr (λ i l k a. elim (cases_lt i j) [
        | inl before ↦ none i before k a
        | inr here ↦ let e : i ≡ j = omega arith in let f = ap (λ x. get_or G x 0) e in omega (arith, f)
      ])
      | inr more ↦ elim (above-decided (n - get_or G j 0)) [
        | inl a ↦ inl (j, omega arith, more, a)
        | inr not ↦ inr (λ i l k a. elim (cases_lt i j) [
          | inl before ↦ none i before k a
          | inr here ↦ let e : i ≡ j = omega arith in not (subst (λ x. IsAboveEntry t (n - get_or G x 0)) e a)
        ])
      ]
    ]
  ]

  free-from_places : (n : ℕ) → ((i : ℕ) → i < length G → get_or G i 0 ≤ n → IsAboveEntry t (n - get_or G i 0) → ⊥) → IsFree G t n
  free-from_places n none g listed low q =
      let p = contains-place G g listed in
      none p.0 p.1 (omega (arith, p.2)) (subst (λ x. IsAboveEntry t (n - x)) (sym p.2) q)

  -- whether a number is a minimal generator is decided
  pub head-decided : (n : ℕ) → IsHead G t n ⊎ (IsHead G t n → ⊥)
  head-decided n = elim (above-decided n) [
    | inr not ↦ inr (λ h. not h.0)
    | inl a ↦ elim (led-decided n (length G)) [
      | inl p ↦ inr (λ h. h.1 (get_or G p.0 0) (Contains-get_or G p.0 0 p.1) p.2 p.3)
      | inr none ↦ inl (a, free-from_places n none)
    ]
  ]

  generated-below : (b n : ℕ) → n < b → IsAboveEntry t n → (w s : ℕ) × IsHead G t w × IsMember G s × (n ≡ w + s)
  generated-below zero n l a = absurd (omega arith)
  generated-below (suc b) n l a = elim (led-decided n (length G)) [
    | inl p ↦
        let g = get_or G p.0 0 in
        let positive = entry-positive G h.ambient.semigroup g (Contains-get_or G p.0 0 p.1) in
        let low = p.2 in
        let r = generated-below b (n - g) (omega arith) p.3 in
        let e = r.4 in
        (r.0, r.1 + g, r.2, member-add G r.1 g r.3 (member-entry G p.0 p.1), omega arith)
    | inr none ↦ (n, 0, (a, free-from_places n none), member-zero G, omega arith)
  ]

  -- each number of the set is a minimal generator and a member
  pub generated : (n : ℕ) → IsAboveEntry t n → (w s : ℕ) × IsHead G t w × IsMember G s × (n ≡ w + s)
  generated n a = generated-below (n + 1) n (omega arith) a

  -- 0 is a head
  pub head-zero : IsHead G t 0
  head-zero = (above-zero, λ g listed l a. let p = entry-positive G h.ambient.semigroup g listed in omega arith)

  -- no head is another one and a member
  pub heads-apart : (v w s : ℕ) → IsHead G t v → IsHead G t w → IsMember G s → v ≡ w + s → s ≡ 0
  heads-apart v w s p q m e = elim (member-split G s m) [
    | inl none ↦ none
    | inr r ↦
        let g = get_or G r.0 0 in
        let f = r.4 in
        let low : g ≤ v = omega arith in
        let same : w + r.1 ≡ v - g = omega arith in
        absurd (p.1 g (Contains-get_or G r.0 0 r.2) low (subst (IsAboveEntry t) same (above-member w r.1 q.0 r.3)))
  ]
