-- A table whose entries are settled up to a bound is the Apery list, and the unmarked generators are the minimal ones.
use Rattle.std.proofs.Common.{◌≡◌, ℕ, zero, suc, ◌+◌, ◌-◌, ◌*◌, ◌%◌, ◌^◌, ◌<◌, ◌≤◌, List, length, get_or, sym, ap, subst, ◌∙◌, inl, inr, arith}
use Rattle.std.specs.Prelude.{Contains}
use Rattle.std.proofs.lemmas.Bool.{cases_lt, cases_eq}
use Rattle.std.proofs.lemmas.List.Kept.{AllPairs-from_increasing}
use Rattle.std.specs.List.Sorted.{IsStrictlyIncreasing}
use Rattle.std.proofs.lemmas.Nat.{mod_below}
use Rattle.std.proofs.Math.Nat.{add-mod_right, mod-add-mod}
use Rattle.sg_defs.specs.Apery.{IsApery}
use Rattle.sg_defs.specs.Membership.{IsMember, IsNumericalSemigroup}
use Rattle.sg_defs.proofs.MembershipLemmas.{member-add}
use Rattle.sg_classes.specs.Classes.{IsAboveEntry}
use Rattle.sg_classes.specs.Entries.{AreSmall}
use Rattle.sg_classes.specs.Table.{IsTable}
use Rattle.sg_classes.specs.declared.limits.TheConstants.{GENERATOR_LIMIT, MULTIPLICITY_LIMIT}
use Rattle.sg_classes.proofs.AperyLemmas.{apery-member, congruent-split}
use Rattle.sg_classes.proofs.FitLemmas.{small-apery}
use Rattle.sg_classes.proofs.GeneratorLemmas.{contains-place, entry-positive, member-listed, member-split, place-contains}
use Rattle.sg_classes.proofs.ResidueLemmas.{same_residue-add, zero-residue}
use Rattle.sg_tables.specs.Found.{AreFound, AreSettled, IsUnmarked}
use Rattle.sg_tables.proofs.FoundLemmas.{found-known, found-member}
use Rattle.sg_tables.proofs.KnownLemmas.{known-table}
use Rattle.sg_tables.proofs.PartLemmas.{IsSplit}

-- of two numbers of one class the greater is at least the modulus above the other
congruent-near : (n e w : ℕ) → 0 < n → w % n ≡ e % n → e < w + n → e ≤ w
congruent-near n e w some r near = elim (cases_lt w e) [
  | inr more ↦ more
  | inl less ↦ let s = congruent-split n w e some r (omega arith) in absurd (far s.0 s.1 less)
]
  where
    far : (k : ℕ) → e ≡ w + k * n → w < e → ⊥
    far zero q less = omega (arith, q)
    far (suc k) q less = omega (arith, q, near)

module _ (D t s : List ℕ) (S : IsNumericalSemigroup D) (f : AreFound D t s) (h : AreSettled D t s) where
  none-below : IsAboveEntry t 0
  none-below = let e : 0 % length t ≡ 0 = zero-residue (length t) f.not_empty in omega (arith, ap (λ i. get_or t i 0) e, f.zero)

  -- the class of a number above 0 that is its entry is not class 0
  entry-after : (y : ℕ) → 0 < y → get_or t (y % length t) 0 ≡ y → 0 < y % length t
  entry-after y some e = elim (cases_eq (y % length t) 0) [
    | inl first ↦ absurd (omega (arith, e, ap (λ i. get_or t i 0) first, f.zero, some))
    | inr other ↦ omega (arith, other)
  ]

  -- the residue of the sum of a class and a generator
  class-sum : (y w : ℕ) (j g : ℕ) → get_or D j 0 ≡ g → y + g ≡ w → (y % length t + get_or D j 0) % length t ≡ w % length t
  class-sum y w j g e whole =
      let first : (y % length t + get_or D j 0) % length t ≡ (y % length t + g) % length t = ap (λ x. (y % length t + x) % length t) e in
      first ∙ mod-add-mod y (length t) g ∙ ap (λ x. x % length t) whole

  -- where the entries up to a limit and the modulus are members of their classes
  module _ (L : ℕ) (entries : (i : ℕ) → i < length t → get_or t i 0 < L + length t → IsMember D (get_or t i 0) × (get_or t i 0 % length t ≡ i)) where
    -- a sum of a generator and a lesser member above 0, by induction on that member: where a greater generator leads to the sum, the rest is less
    sum-below : (k m w g : ℕ) → ((x : ℕ) → x ≤ m → x < L → IsMember D x → IsAboveEntry t x) → w ≤ m + 1 → w < L → Contains D g → g < w → w ≤ g + k → IsMember D (w - g) → IsAboveEntry t w
    sum-below zero m w g before low fits c less near member = absurd (omega arith)
    sum-below (suc k) m w g before low fits c less near member =
        let n = length t in
        let y = w - g in
        let i = y % n in
        let inside : i < n = mod_below y n f.not_empty in
        let some : 0 < g = entry-positive D S g c in
        let whole : y + g ≡ w = omega (arith, less) in
        let rest : get_or t i 0 ≤ y = before y (omega (arith, some, low)) (omega (arith, fits)) member in
        let entry = entries i inside (omega (arith, rest, fits)) in
        elim (cases_lt (get_or t i 0) y) [
          | inl lesser ↦
              let v = get_or t i 0 + g in
              let lower : get_or t (v % n) 0 ≤ v = before v (omega (arith, lesser, whole, low)) (omega (arith, lesser, whole, fits)) (member-add D (get_or t i 0) g entry.0 (member-listed D g c)) in
              let same : v % n ≡ w % n = same_residue-add (get_or t i 0) y g n entry.1 ∙ ap (λ x. x % n) whole in
              omega (arith, lower, ap (λ j. get_or t j 0) same, lesser, whole)
          | inr equal ↦
              let at : get_or t i 0 ≡ y = omega (arith, equal, rest) in
              elim (cases_lt h.bound w) [
                | inl past ↦
                    let last = mod_below w n f.not_empty in
                    let top : get_or t (w % n) 0 ≤ h.bound + n = h.top (w % n) last in
                    let known = entries (w % n) last (omega (arith, top, past, fits)) in
                    congruent-near n (get_or t (w % n) 0) w f.not_empty (sym known.1) (omega (arith, top, past))
                | inr within ↦
                    let p = contains-place D g c in
                    let same = class-sum y w p.0 g p.2 whole in
                    elim (h.settled i (entry-after y (omega (arith, less)) at) inside p.0 p.1 (omega (arith, p.2, whole, at, within))) [
                      | inl (inl above) ↦ omega (arith, above, ap (λ j. get_or t j 0) same, p.2, at, whole)
                      | inl (inr told) ↦ omega (arith, told.0, ap (λ j. get_or t j 0) same, p.2, at, whole)
                      | inr passed ↦
                          let e : get_or t i 0 + get_or D p.0 0 ≡ w = omega (arith, at, p.2, whole) in
                          sum-below k m w passed.by before low fits passed.listed (omega (arith, passed.less, e)) (omega (arith, passed.greater, p.2, near))
                          (subst (λ x. IsMember D (x - passed.by)) e passed.rest)
                    ]
              ]
        ]

    -- each member below the limit, by induction on a bound
    pub small-below : (m w : ℕ) → w ≤ m → w < L → IsMember D w → IsAboveEntry t w
    small-below zero w low fits q = subst (IsAboveEntry t) (let e : 0 ≡ w = omega arith in e) none-below
    small-below (suc m) w low fits q = elim (member-split D w q) [
      | inl e ↦ subst (IsAboveEntry t) (sym e) none-below
      | inr p ↦ elim (cases_eq p.1 0) [
        | inl none ↦ subst (IsAboveEntry t) (let e : get_or D p.0 0 ≡ w = omega (arith, p.4, none) in e) (f.listed p.0 p.2)
        | inr some ↦
            let g = get_or D p.0 0 in
            let rest : p.1 ≡ w - g = omega (arith, p.4) in
            sum-below p.1 m w g (λ y l. small-below m y l) (omega arith) fits (place-contains D p.0 p.2) (omega (arith, p.4, some)) (omega (arith, p.4)) (subst (IsMember D) rest p.3)
      ]
    ]

  -- so the table is the Apery list
  pub settled-table : AreSmall D → length t ≤ MULTIPLICITY_LIMIT → IsTable D t
  settled-table small short = known-table D t S small short (record { known = found-known D t s f; below = below; modulus = f.modulus })
    where
      apery : (a : List ℕ) × IsApery D (length t) a × ((i : ℕ) → i < length t → get_or a i 0 ≤ length t * GENERATOR_LIMIT)
      apery = small-apery D (length t) S small f.not_empty f.modulus

      below : (x : ℕ) → IsMember D x → IsAboveEntry t x
      below x q =
          let i = x % length t in
          let inside : i < length t = mod_below x (length t) f.not_empty in
          let a = get_or apery.0 i 0 in
          let least : a ≤ x = (apery-member D (length t) apery.0 f.not_empty f.modulus apery.1 x).0 q in
          let fits : a < 2 ^ 63 = omega (arith, apery.2 i inside, short) in
          let low : get_or t (a % length t) 0 ≤ a = small-below (2 ^ 63) (λ j l m. found-member D t s f j l (omega (arith, m, short))) a a (omega arith) fits (apery.1.member i inside) in
          omega (arith, low, ap (λ j. get_or t j 0) (apery.1.residue i inside), least)

  -- an entry up to the bound that is a sum of a generator and a member above 0 is marked, by the same induction
  sum-marked : (k w g : ℕ) → ((x : ℕ) → IsMember D x → IsAboveEntry t x) → get_or t (w % length t) 0 ≡ w → w ≤ h.bound → w < 2 ^ 63 → Contains D g → g < w → w ≤ g + k → IsMember D (w - g) →
      0 < get_or s (w % length t) 0
  sum-marked zero w g below entry within fits c less near member = absurd (omega arith)
  sum-marked (suc k) w g below entry within fits c less near member =
      let n = length t in
      let y = w - g in
      let i = y % n in
      let inside : i < n = mod_below y n f.not_empty in
      let whole : y + g ≡ w = omega (arith, less) in
      let rest : get_or t i 0 ≤ y = below y member in
      let known = found-member D t s f i inside (omega (arith, rest, fits)) in
      elim (cases_lt (get_or t i 0) y) [
        | inl lesser ↦
            let v = get_or t i 0 + g in
            let lower : get_or t (v % n) 0 ≤ v = below v (member-add D (get_or t i 0) g known.0 (member-listed D g c)) in
            let same : v % n ≡ w % n = same_residue-add (get_or t i 0) y g n known.1 ∙ ap (λ x. x % n) whole in
            absurd (omega (arith, lower, ap (λ j. get_or t j 0) same, lesser, whole, entry))
        | inr equal ↦
            let at : get_or t i 0 ≡ y = omega (arith, equal, rest) in
            let p = contains-place D g c in
            let same = class-sum y w p.0 g p.2 whole in
            elim (h.settled i (entry-after y (omega (arith, less)) at) inside p.0 p.1 (omega (arith, p.2, whole, at, within))) [
              | inl (inl above) ↦ absurd (omega (arith, above, ap (λ j. get_or t j 0) same, p.2, at, whole, entry))
              | inl (inr told) ↦ omega (arith, told.1, ap (λ j. get_or s j 0) same)
              | inr passed ↦
                  let e : get_or t i 0 + get_or D p.0 0 ≡ w = omega (arith, at, p.2, whole) in
                  sum-marked k w passed.by below entry within fits passed.listed (omega (arith, passed.less, e)) (omega (arith, passed.greater, p.2, near))
                  (subst (λ x. IsMember D (x - passed.by)) e passed.rest)
            ]
      ]

  module _ (table : IsTable D t) (up : IsStrictlyIncreasing D) (first : length t ≡ get_or D 0 0) where
    all-below : (x : ℕ) → IsMember D x → IsAboveEntry t x
    all-below x q = (apery-member D (length t) t f.not_empty f.modulus table.apery x).0 q

    -- an unmarked generator is no sum
    pub unmarked-whole : (j : ℕ) → j < length D → IsUnmarked t s (get_or D j 0) → IsSplit D (get_or D j 0) → ⊥
    unmarked-whole j l u p =
        let w = get_or D j 0 in
        let small = table.small (w % length t) (mod_below w (length t) f.not_empty) in
        let mark = sum-marked w w p.0 all-below u.entry (h.unmarked j l u) (omega (arith, small, u.entry)) p.1 p.2 (omega arith) p.3 in
        omega (arith, mark, u.unmarked)

    -- and each other one but the least is a sum
    pub marked-split : (j : ℕ) → 0 < j → j < length D → (IsUnmarked t s (get_or D j 0) → ⊥) → IsSplit D (get_or D j 0)
    marked-split j after l marked =
        let w = get_or D j 0 in
        let n = length t in
        let i = w % n in
        let inside : i < n = mod_below w n f.not_empty in
        let low : get_or t i 0 ≤ w = f.listed j l in
        let greater : get_or D 0 0 < w = AllPairs-from_increasing D up 0 j 0 after l in
        let known = found-member D t s f i inside (omega (arith, table.small i inside)) in
        elim (cases_lt (get_or t i 0) w) [
          | inl less ↦
              let far : get_or t i 0 + n ≤ w = elim (cases_lt w (get_or t i 0 + n)) [
                | inl near ↦ absurd (omega (arith, less, congruent-near n w (get_or t i 0) f.not_empty known.1 near))
                | inr more ↦ more
              ] in
              let down : (w - n) % n ≡ i = sym (add-mod_right (w - n) n) ∙ ap (λ x. x % n) (let e : w - n + n ≡ w = omega (arith, far) in e) in
              let above : IsAboveEntry t (w - n) = omega (arith, ap (λ j. get_or t j 0) down, far) in
              let member = (apery-member D n t f.not_empty f.modulus table.apery (w - n)).1 above in
              (get_or D 0 0, place-contains D 0 S.not_empty, greater, subst (λ x. IsMember D (w - x)) first member)
          | inr equal ↦
              let at : get_or t i 0 ≡ w = omega (arith, equal, low) in
              elim (f.entry i (entry-after w (omega (arith, greater)) at) inside) [
                | inl none ↦ absurd (omega (arith, none, table.small i inside))
                | inr (inl listed) ↦ absurd (marked (record { entry = at; unmarked = listed.unmarked }))
                | inr (inr made) ↦
                    (get_or s i 0, made.summand, omega (arith, made.less, at), subst (λ x. IsMember D (x - get_or s i 0)) at made.rest)
              ]
        ]
