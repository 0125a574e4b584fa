-- The generators that no lesser ones make, among the first of an ascending list.
use Rattle.std.proofs.Common.{◌≡◌, ℕ, zero, suc, ◌+◌, ◌-◌, ◌<◌, ◌≤◌, List, [], ◌∷◌, ◌++◌, length, get_or, refl, sym, ap, subst, inl, inr, arith}
use Rattle.std.specs.Prelude.{Contains, ◌⊎◌}
use Rattle.std.specs.List.Sorted.{IsStrictlyIncreasing}
use Rattle.std.proofs.lemmas.Bool.{cases_lt, cases_eq}
use Rattle.std.proofs.lemmas.List.Elements.{Contains-append_left, Contains-push}
use Rattle.std.proofs.lemmas.List.Kept.{AllPairs-from_increasing}
use Rattle.sg_defs.specs.Membership.{IsMember, IsNumericalSemigroup, Generates}
use Rattle.sg_defs.proofs.MembershipLemmas.{member-zero, member-add, member-entry}
use Rattle.sg_defs.proofs.MinimalLemmas.{first-least}
use Rattle.sg_classes.proofs.GeneratorLemmas.{contains-place, place-contains, member-listed, member-split, holds-from_entries, entry-positive, push_cases}
use Rattle.sg_classes.proofs.ListingLemmas.{increasing-push}
use Rattle.sg_tables.proofs.PartLemmas.{IsSplit, generates-minimal_part}

-- M has the first k entries of D that are no sum of a lesser entry and a member
pub record IsFront (D M : List ℕ) (k : ℕ) : Type 0 where
  pub ascending : IsStrictlyIncreasing M
  pub before : (j i : ℕ) → j < length M → k ≤ i → i < length D → get_or M j 0 < get_or D i 0
  pub kept : (j : ℕ) → j < length M → Contains D (get_or M j 0) × (IsSplit D (get_or M j 0) → ⊥)
  pub whole : (j : ℕ) → j < k → Contains M (get_or D j 0) ⊎ IsSplit D (get_or D j 0)

-- what is put at the end of an empty list
pub pushed-empty : (l : List ℕ) (x : ℕ) → length l ≡ 0 → l ++ x ∷ [] ≡ x ∷ []
pushed-empty [] x e = refl
pushed-empty (y ∷ l) x e = absurd (omega (arith, e))

module _ (D : List ℕ) (s : IsNumericalSemigroup D) (up : IsStrictlyIncreasing D) where
  rising : (i j : ℕ) → i < j → j < length D → get_or D i 0 < get_or D j 0
  rising i j l inside = AllPairs-from_increasing D up i j 0 l inside

  -- the first entry
  pub front-first : (M : List ℕ) → M ≡ get_or D 0 0 ∷ [] → IsFront D M 1
  front-first M e = subst (λ M. IsFront D M 1) (sym e) (record {
    ascending = λ k l. absurd (omega (arith, l));
    before = before;
    kept = kept;
    whole = λ j l. let f : j ≡ 0 = omega arith in inl (subst (λ i. Contains (get_or D 0 0 ∷ []) (get_or D i 0)) (sym f) (0, omega arith, refl));
  })
    where
      before : (j i : ℕ) → j < length (get_or D 0 0 ∷ []) → 1 ≤ i → i < length D → get_or (get_or D 0 0 ∷ []) j 0 < get_or D i 0
      before zero i l m inside = rising 0 i (omega (arith, m)) inside
      before (suc j) i l m inside = absurd (omega (arith, l))

      kept : (j : ℕ) → j < length (get_or D 0 0 ∷ []) → Contains D (get_or (get_or D 0 0 ∷ []) j 0) × (IsSplit D (get_or (get_or D 0 0 ∷ []) j 0) → ⊥)
      kept zero l = (place-contains D 0 s.not_empty, λ p. let q = contains-place D p.0 p.1 in omega (arith, p.2, q.2, first-least D up q.0 q.1))
      kept (suc j) l = absurd (omega (arith, l))

  -- M makes what D makes below the next entry
  front-holds : (M : List ℕ) (k : ℕ) → k < length D → IsFront D M k → (b x : ℕ) → x ≤ b → x < get_or D k 0 → IsMember D x → IsMember M x
  front-holds M k inside f zero x l less h = subst (IsMember M) (let e : 0 ≡ x = omega arith in e) (member-zero M)
  front-holds M k inside f (suc b) x l less h = elim (member-split D x h) [
    | inl e ↦ subst (IsMember M) (sym e) (member-zero M)
    | inr p ↦
        let g = get_or D p.0 0 in
        let some = entry-positive D s g (place-contains D p.0 p.2) in
        let rest : IsMember M p.1 = front-holds M k inside f b p.1 (omega (arith, p.4, some, l)) (omega (arith, p.4, less)) p.3 in
        let first : IsMember M g = elim (cases_lt p.0 k) [
          | inr past ↦ absurd (elim (cases_eq p.0 k) [
            | inl e ↦ omega (arith, p.4, less, ap (λ i. get_or D i 0) e)
            | inr other ↦ omega (arith, p.4, less, rising k p.0 (omega arith) p.2)
          ])
          | inl early ↦ elim (f.whole p.0 early) [
            | inl listed ↦ member-listed M g listed
            | inr split ↦
                let h = entry-positive D s split.0 split.1 in
                elim (cases_eq p.1 0) [
                  | inr more ↦ front-holds M k inside f b g (omega (arith, p.4, more, l)) (omega (arith, p.4, less)) (member-entry D p.0 p.2)
                  | inl none ↦
                      let a = front-holds M k inside f b split.0 (omega (arith, p.4, split.2, l)) (omega (arith, p.4, less, split.2)) (member-listed D split.0 split.1) in
                      let c = front-holds M k inside f b (g - split.0) (omega (arith, p.4, split.2, h, l)) (omega (arith, p.4, less)) split.3 in
                      subst (IsMember M) (let e : split.0 + (g - split.0) ≡ g = omega (arith, split.2) in e) (member-add M split.0 (g - split.0) a c)
                ]
          ]
        ] in
        subst (IsMember M) (sym p.4) (member-add M p.1 g rest first)
  ]

  module _ (M : List ℕ) (k : ℕ) (inside : k < length D) (f : IsFront D M k) where
    -- one entry more, which is a sum
    pub front-drop : IsSplit D (get_or D k 0) → IsFront D M (k + 1)
    front-drop split = record {
      ascending = f.ascending;
      before = λ j i l m n. f.before j i l (omega arith) n;
      kept = f.kept;
      whole = λ j l. elim (cases_lt j k) [
        | inl early ↦ f.whole j early
        | inr last ↦ let e : k ≡ j = omega arith in inr (subst (λ i. IsSplit D (get_or D i 0)) e split)
      ];
    }

    -- one entry more, which is none
    pub front-keep : (IsSplit D (get_or D k 0) → ⊥) → IsFront D (M ++ get_or D k 0 ∷ []) (k + 1)
    front-keep none = record {
      ascending = increasing-push M g f.ascending (λ x c. let p = contains-place M x c in omega (arith, f.before p.0 k p.1 (omega arith) inside, p.2));
      before = λ j i l m n. elim (push_cases M g j l) [
        | inl old ↦ omega (arith, old.1, f.before j i old.0 (omega arith) n)
        | inr new ↦ omega (arith, new.1, rising k i (omega arith) n)
      ];
      kept = λ j l. elim (push_cases M g j l) [
        | inl old ↦ subst (λ x. Contains D x × (IsSplit D x → ⊥)) (sym old.1) (f.kept j old.0)
        | inr new ↦ subst (λ x. Contains D x × (IsSplit D x → ⊥)) (sym new.1) (place-contains D k inside, none)
      ];
      whole = λ j l. elim (cases_lt j k) [
        | inl early ↦ elim (f.whole j early) [ inl listed ↦ inl (Contains-append_left M (g ∷ []) (get_or D j 0) listed) | inr split ↦ inr split ]
        | inr last ↦ let e : k ≡ j = omega arith in inl (subst (λ i. Contains (M ++ g ∷ []) (get_or D i 0)) e (Contains-push M g))
      ];
    }
      where
        g : ℕ
        g = get_or D k 0

    -- one entry more, which M makes
    pub front-skip : IsMember M (get_or D k 0) → IsFront D M (k + 1)
    front-skip h = front-drop (elim (member-split M (get_or D k 0) h) [
      | inl e ↦ absurd (omega (arith, e, entry-positive D s (get_or D k 0) (place-contains D k inside)))
      | inr p ↦
          let rest : get_or D k 0 - get_or M p.0 0 ≡ p.1 = omega (arith, p.4) in (
            get_or M p.0 0,
            (f.kept p.0 p.2).0,
            f.before p.0 k p.2 (omega arith) inside,
            subst (IsMember D) (sym rest) (holds-from_entries D M (λ j l. member-listed D (get_or M j 0) (f.kept j l).0) p.1 p.3),
          )
    ])

    -- one entry more, which M does not make
    pub front-push : (IsMember M (get_or D k 0) → ⊥) → IsFront D (M ++ get_or D k 0 ∷ []) (k + 1)
    front-push out = front-keep none
      where
        none : IsSplit D (get_or D k 0) → ⊥
        none p =
            let a = front-holds M k inside f p.0 p.0 (omega arith) p.2 (member-listed D p.0 p.1) in
            let some = entry-positive D s p.0 p.1 in
            let c = front-holds M k inside f (get_or D k 0) (get_or D k 0 - p.0) (omega arith) (omega (arith, some, p.2)) p.3 in
            out (subst (IsMember M) (let e : p.0 + (get_or D k 0 - p.0) ≡ get_or D k 0 = omega (arith, p.2) in e) (member-add M p.0 (get_or D k 0 - p.0) a c))

  -- once all entries were taken M is the minimal list
  pub front-generates : (M : List ℕ) (k : ℕ) → length D ≤ k → IsFront D M k → Generates (IsMember D) M
  front-generates M k l f = generates-minimal_part D M s (record { ascending = f.ascending; kept = f.kept; whole = λ j m. f.whole j (omega (arith, l, m)) })
