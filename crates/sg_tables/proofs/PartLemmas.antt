-- The entries that are no sum of a lesser entry and a member are the minimal generators.
use Rattle.std.proofs.Common.{◌≡◌, ◌≢◌, ℕ, zero, suc, ◌+◌, ◌-◌, ◌<◌, ◌≤◌, List, [], ◌∷◌, ◌++◌, length, get_or, sym, subst, inl, inr, arith}
use Rattle.std.specs.Prelude.{AllPairs, Contains, remove, ◌⊎◌, ◌↔◌}
use Rattle.std.specs.Int.{◌∣◌}
use Rattle.std.specs.List.Sorted.{IsStrictlyIncreasing}
use Rattle.std.proofs.lemmas.Bool.{cases_lt, cases_eq}
use Rattle.std.proofs.lemmas.List.{length_push}
use Rattle.std.proofs.lemmas.List.Elements.{All-from_get_or, Contains-append_left, Contains-push, Contains-push_cases}
use Rattle.std.proofs.lemmas.List.Edits.{get_or-remove_below, get_or-remove_above, length-remove}
use Rattle.std.proofs.lemmas.List.Kept.{AllPairs-from_increasing}
use Rattle.sg_defs.specs.Membership.{IsMember, IsNumericalSemigroup, Generates, Holds}
use Rattle.sg_defs.proofs.MembershipLemmas.{member-zero, member-add, member-entry}
use Rattle.sg_classes.specs.Classes.{IsAboveEntry}
use Rattle.sg_classes.specs.Table.{IsAperyTable}
use Rattle.sg_classes.proofs.AperyLemmas.{apery-member}
use Rattle.sg_classes.proofs.GeneratorLemmas.{contains-place, entry-positive, holds-from_entries, member-divides, member-listed, member-split, place-contains, push_cases}
use Rattle.sg_tables.specs.Minimal.{IsSpare, IsPartOf}

-- g is a lesser entry and a member
abbrev pub IsSplit : List ℕ → ℕ → Type 0
IsSplit D g = (h : ℕ) × Contains D h × (h < g) × IsMember D (g - h)

-- where each entry of D is in M, or a lesser entry and a member, M generates all of D
module _ (D M : List ℕ) (s : IsNumericalSemigroup D) (whole : (k : ℕ) → k < length D → Contains M (get_or D k 0) ⊎ IsSplit D (get_or D k 0)) where
  -- by induction on a bound: an entry is in M, or it is two lesser members
  holds-below : (b n : ℕ) → n ≤ b → IsMember D n → IsMember M n
  holds-below zero n l h = subst (IsMember M) (let e : 0 ≡ n = omega arith in e) (member-zero M)
  holds-below (suc b) n l h = elim (member-split D n h) [
    | inl e ↦ subst (IsMember M) (sym e) (member-zero M)
    | inr p ↦ elim (cases_eq p.1 0) [
      | inl none ↦
          let e : get_or D p.0 0 ≡ n = omega (arith, p.4) in
          elim (whole p.0 p.2) [
            | inl listed ↦ subst (IsMember M) e (member-listed M (get_or D p.0 0) listed)
            | inr spare ↦
                let first = holds-below b spare.0 (omega arith) (member-listed D spare.0 spare.1) in
                let rest = holds-below b (get_or D p.0 0 - spare.0) (omega (arith, entry-positive D s spare.0 spare.1)) spare.3 in
                subst (IsMember M) (let f : spare.0 + (get_or D p.0 0 - spare.0) ≡ n = omega arith in f) (member-add M spare.0 (get_or D p.0 0 - spare.0) first rest)
          ]
      | inr some ↦
          let g = entry-positive D s (get_or D p.0 0) (place-contains D p.0 p.2) in
          let rest = holds-below b p.1 (omega (arith, p.4)) p.3 in
          let first = holds-below b (get_or D p.0 0) (omega (arith, p.4)) (member-entry D p.0 p.2) in
          subst (IsMember M) (sym p.4) (member-add M p.1 (get_or D p.0 0) rest first)
    ]
  ]

  pub holds-whole : Holds M D
  holds-whole n h = holds-below n n (omega arith) h

-- a sum of two members above 0 is a generator of M, at most its half, and a member
pub split-half : (M : List ℕ) (a b : ℕ) → 0 < a → 0 < b → IsMember M a → IsMember M b → (h : ℕ) × Contains M h × (h + h ≤ a + b) × IsMember M (a + b - h)
split-half M a b l m p q = elim (member-split M a p) [
  | inl e ↦ absurd (omega arith)
  | inr x ↦ elim (member-split M b q) [
    | inl e ↦ absurd (omega arith)
    | inr y ↦ elim (cases_lt (get_or M y.0 0) (get_or M x.0 0)) [
      | inl less ↦
          let e : a + y.1 ≡ a + b - get_or M y.0 0 = omega (arith, y.4) in
          (get_or M y.0 0, place-contains M y.0 y.2, omega (arith, x.4, y.4), subst (IsMember M) e (member-add M a y.1 p y.3))
      | inr more ↦
          let e : x.1 + b ≡ a + b - get_or M x.0 0 = omega (arith, x.4) in
          (get_or M x.0 0, place-contains M x.0 x.2, omega (arith, x.4, y.4), subst (IsMember M) e (member-add M x.1 b x.3 q))
    ]
  ]
]

-- M holds the entries of D that are not split
pub record IsMinimalPart (D M : List ℕ) : Type 0 where
  pub ascending : IsStrictlyIncreasing M
  pub kept : (k : ℕ) → k < length M → Contains D (get_or M k 0) × (IsSplit D (get_or M k 0) → ⊥)
  pub whole : (k : ℕ) → k < length D → Contains M (get_or D k 0) ⊎ IsSplit D (get_or D k 0)

module _ (D M : List ℕ) (s : IsNumericalSemigroup D) (m : IsMinimalPart D M) where
  positive : (g : ℕ) → Contains D g → 0 < g
  positive = entry-positive D s

  holds : Holds M D
  holds n h = holds-whole D M s m.whole n h

  held : Holds D M
  held = holds-from_entries D M (λ k l. member-listed D (get_or M k 0) (m.kept k l).0)

  long : 0 < length M
  long = elim (cases_eq (length M) 0) [
    | inl none ↦
        let g = positive (get_or D 0 0) (place-contains D 0 s.not_empty) in
        elim (member-split M (get_or D 0 0) (holds (get_or D 0 0) (member-entry D 0 s.not_empty))) [
          | inl e ↦ absurd (omega (arith, g, e))
          | inr p ↦ absurd (omega (arith, p.2, none))
        ]
    | inr some ↦ omega arith
  ]

  -- an entry is no member of the list of the others: else another entry and a member would make it
  needed : (k : ℕ) → k < length M → IsMember (remove M k) (get_or M k 0) → ⊥
  needed k l h = elim (member-split (remove M k) (get_or M k 0) h) [
    | inl e ↦ omega (arith, positive (get_or M k 0) (m.kept k l).0, e)
    | inr p ↦ other p.0 p.1 p.2 p.3 p.4
  ]
    where
      same : (i : ℕ) → i < length (remove M k) → (j : ℕ) × (j < length M) × (j ≢ k) × (get_or (remove M k) i 0 ≡ get_or M j 0)
      same i q = elim (cases_lt i k) [
        | inl less ↦ (i, omega (arith, length-remove M k l), omega arith, get_or-remove_below M k 0 i less l)
        | inr more ↦ (i + 1, omega (arith, length-remove M k l), omega arith, get_or-remove_above M k 0 i more l)
      ]

      part : Holds M (remove M k)
      part = holds-from_entries M (remove M k) (λ i q. let j = same i q in subst (IsMember M) (sym j.3) (member-entry M j.0 j.1))

      other : (i r : ℕ) → i < length (remove M k) → IsMember (remove M k) r → get_or M k 0 ≡ r + get_or (remove M k) i 0 → ⊥
      other i r q g e =
          let j = same i q in
          let order = AllPairs-from_increasing M m.ascending in
          let differs : get_or M j.0 0 ≢ get_or M k 0 = λ f. elim (cases_lt j.0 k) [
            | inl less ↦ omega (arith, order j.0 k 0 less l, f)
            | inr more ↦ omega (arith, order k j.0 0 (omega (arith, j.2)) j.1, f)
          ] in
          let below : get_or M j.0 0 < get_or M k 0 = omega (arith, j.3, e) in
          let rest : r ≡ get_or M k 0 - get_or M j.0 0 = omega (arith, j.3, e) in
          (m.kept k l).1 (get_or M j.0 0, (m.kept j.0 j.1).0, below, subst (IsMember D) rest (held r (part r g)))

  pub generates-minimal_part : Generates (IsMember D) M
  generates-minimal_part = record {
    semigroup = record {
      not_empty = long;
      positive = All-from_get_or (λ g. 1 ≤ g) M 0 (λ k l. positive (get_or M k 0) (m.kept k l).0);
      coprime = λ d h. s.coprime d (All-from_get_or (λ g. d ∣ g) D 0
          (λ k l. member-divides M d (get_or D k 0) (λ i q. h i 0 q) (holds (get_or D k 0) (member-entry D k l))));
    };
    minimal = record { ascending = m.ascending; needed = needed };
    same = λ n. (holds n, held n);
  }

pub part-none : (t D : List ℕ) → IsPartOf t D [] 0
part-none t D = record {
  ascending = λ k l. absurd (omega arith);
  before = λ k i l m n. absurd (omega arith);
  kept = λ k l. absurd (omega arith);
  whole = λ k l. absurd (omega arith);
}

-- listed and not spare
abbrev IsKept : List ℕ → List ℕ → List ℕ → ℕ → Type 0
IsKept t D M x = Contains D x × (IsSpare t M x → ⊥)

pub part-push : (t D M : List ℕ) (n : ℕ) → IsStrictlyIncreasing D → n < length D → 0 < get_or D n 0 → (IsSpare t M (get_or D n 0) → ⊥) → IsPartOf t D M n → IsPartOf t D (M ++ get_or D n 0 ∷ []) (n + 1)
part-push t D M n up inside positive needed p = record {
  ascending = λ k l. elim (push_cases M (get_or D n 0) k (omega arith)) [
    | inl a ↦ elim (push_cases M (get_or D n 0) (k + 1) l) [
      | inl b ↦ omega (arith, p.ascending k b.0, a.1, b.1)
      | inr b ↦ omega (arith, p.before k n a.0 (omega arith) inside, a.1, b.1)
    ]
    | inr a ↦ absurd (omega (arith, a.0, l, length_push M (get_or D n 0)))
  ];
  before = λ k i l m q. elim (push_cases M (get_or D n 0) k l) [
    | inl a ↦ omega (arith, p.before k i a.0 (omega arith) q, a.1)
    | inr a ↦ omega (arith, order n i 0 (omega arith) q, a.1)
  ];
  kept = λ k l. elim (push_cases M (get_or D n 0) k l) [
    | inl a ↦ subst (IsKept t D (M ++ get_or D n 0 ∷ [])) (sym a.1) ((p.kept k a.0).0, λ h. (p.kept k a.0).1 (still (get_or M k 0) (omega (arith, p.before k n a.0 (omega arith) inside)) h))
    | inr a ↦ subst (IsKept t D (M ++ get_or D n 0 ∷ [])) (sym a.1) (place-contains D n inside, λ h. needed (still (get_or D n 0) (omega arith) h))
  ];
  whole = λ k l. elim (cases_lt k n) [
    | inl less ↦ elim (p.whole k less) [
      | inl a ↦ inl (Contains-append_left M (get_or D n 0 ∷ []) (get_or D k 0) a)
      | inr a ↦ inr (a.0, Contains-append_left M (get_or D n 0 ∷ []) a.0 a.1, a.2, a.3)
    ]
    | inr more ↦ let e : n ≡ k = omega arith in inl (subst (λ j. Contains (M ++ get_or D n 0 ∷ []) (get_or D j 0)) e (Contains-push M (get_or D n 0)))
  ];
}
  where
    order : AllPairs (λ x y. x < y) D
    order = AllPairs-from_increasing D up

    -- the entry put last is more than the half of a number that it is not below
    still : (w : ℕ) → w ≤ get_or D n 0 → IsSpare t (M ++ get_or D n 0 ∷ []) w → IsSpare t M w
    still w l h = elim (Contains-push_cases M (get_or D n 0) h.0 h.1) [
      | inl old ↦ (h.0, old, h.2, h.3)
      | inr new ↦ absurd (omega (arith, h.2, new, positive, l))
    ]

pub part-skip : (t D M : List ℕ) (n : ℕ) → IsSpare t M (get_or D n 0) → IsPartOf t D M n → IsPartOf t D M (n + 1)
part-skip t D M n spare p = record {
  ascending = p.ascending;
  before = λ k i l m q. p.before k i l (omega arith) q;
  kept = p.kept;
  whole = λ k l. elim (cases_lt k n) [
    | inl less ↦ p.whole k less
    | inr more ↦ let e : n ≡ k = omega arith in inr (subst (λ j. IsSpare t M (get_or D j 0)) e spare)
  ];
}

-- the part of all entries is the minimal list
pub generates-part : (t D M : List ℕ) (n : ℕ) → IsAperyTable D t → length D ≤ n → IsPartOf t D M n → Generates (IsMember D) M
generates-part t D M n table l p = generates-minimal_part D M table.semigroup (record { ascending = p.ascending; kept = kept; whole = whole })
  where
    member : (x : ℕ) → IsMember D x ↔ IsAboveEntry t x
    member x = apery-member D (length t) t table.not_empty table.modulus table.apery x

    listed : (x : ℕ) → Contains M x → Contains D x
    listed x h = let q = contains-place M x h in subst (Contains D) q.2 (p.kept q.0 q.1).0

    positive : (x : ℕ) → Contains D x → 0 < x
    positive = entry-positive D table.semigroup

    whole : (k : ℕ) → k < length D → Contains M (get_or D k 0) ⊎ IsSplit D (get_or D k 0)
    whole k q = elim (p.whole k (omega arith)) [
      | inl a ↦ inl a
      | inr a ↦ inr (a.0, listed a.0 a.1, omega (arith, positive a.0 (listed a.0 a.1), a.2), (member (get_or D k 0 - a.0)).1 a.3)
    ]

    all : Holds M D
    all = holds-whole D M table.semigroup whole

    held : Holds D M
    held = holds-from_entries D M (λ k q. member-listed D (get_or M k 0) (p.kept k q).0)

    kept : (k : ℕ) → k < length M → Contains D (get_or M k 0) × (IsSplit D (get_or M k 0) → ⊥)
    kept k q = (
      (p.kept k q).0,
      λ split.
          let g = get_or M k 0 in
          let rest : 0 < g - split.0 = omega (arith, split.2) in
          let whole_sum : split.0 + (g - split.0) ≡ g = omega (arith, split.2) in
          let half = split-half M split.0 (g - split.0) (positive split.0 split.1) rest (all split.0 (member-listed D split.0 split.1)) (all (g - split.0) split.3) in
          (p.kept k q).1 (
            half.0,
            half.1,
            omega (arith, half.2, whole_sum),
            subst (λ x. IsAboveEntry t (x - half.0)) whole_sum ((member (split.0 + (g - split.0) - half.0)).0 (held (split.0 + (g - split.0) - half.0) half.3)),
          ),
    )

-- w is not spare where no number of M before place i makes it so, and the numbers from there on are more than its half
pub spare-none : (t M : List ℕ) (w i : ℕ) → ((k : ℕ) → k < i → get_or M k 0 + get_or M k 0 ≤ w → IsAboveEntry t (w - get_or M k 0) → ⊥) →
    ((k : ℕ) → i ≤ k → k < length M → w < get_or M k 0 + get_or M k 0) → IsSpare t M w → ⊥
spare-none t M w i before after h =
    let p = contains-place M h.0 h.1 in
    elim (cases_lt p.0 i) [
      | inl less ↦ before p.0 less (omega (arith, p.2, h.2)) (subst (λ x. IsAboveEntry t (w - x)) (sym p.2) h.3)
      | inr more ↦ omega (arith, after p.0 more p.1, p.2, h.2)
    ]

-- the numbers from a place on of an ascending list are more than the half of w, where that one is
pub more-than_half : (M : List ℕ) (w i : ℕ) → IsStrictlyIncreasing M → i < length M → w < get_or M i 0 + get_or M i 0 → (k : ℕ) → i ≤ k → k < length M → w < get_or M k 0 + get_or M k 0
more-than_half M w i up inside half k l m = elim (cases_eq i k) [
  | inl e ↦ subst (λ j. w < get_or M j 0 + get_or M j 0) e half
  | inr other ↦ omega (arith, half, AllPairs-from_increasing M up i k 0 (omega arith) m)
]
