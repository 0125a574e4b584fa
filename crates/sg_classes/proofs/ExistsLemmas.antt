-- A set of naturals that is closed under sums and has all from a number on is a numerical semigroup: it has a minimal list.
use Rattle.std.proofs.Common.{◌≡◌, ◌≢◌, ℕ, zero, suc, ◌+◌, ◌-◌, ◌*◌, ◌<◌, ◌≤◌, List, [], ◌∷◌, ◌++◌, length, get_or, sym, subst, inl, inr, arith}
use Rattle.std.specs.Prelude.{Contains, remove, ◌⊎◌}
use Rattle.std.specs.Int.{◌∣◌}
use Rattle.std.specs.List.Sorted.{IsStrictlyIncreasing}
use Rattle.std.proofs.lemmas.Bool.{cases_lt, cases_eq}
use Rattle.std.proofs.lemmas.Nat.Gcd.{le_of_dvd}
use Rattle.std.proofs.lemmas.List.{length_push}
use Rattle.std.proofs.lemmas.List.Elements.{All-from_get_or, Contains-append_left, Contains-push}
use Rattle.std.proofs.lemmas.List.Edits.{get_or-remove_below, get_or-remove_above, length-remove}
use Rattle.std.proofs.lemmas.List.Kept.{AllPairs-from_increasing}
use Rattle.std.proofs.Math.Nat.{dvd-add_iff_left}
use Rattle.sg_defs.specs.Membership.{IsMember, Generates}
use Rattle.sg_defs.proofs.MembershipLemmas.{member-zero, member-add, member-entry, member-induction}
use Rattle.sg_classes.proofs.GeneratorLemmas.{place-contains, member-listed, member-split, member-divides, holds-from_entries, push_cases}

-- P has 0 and the sums of its numbers, has all from c on, and says of each number whether it has it
pub record IsCofinite (P : ℕ → Type 0) (c : ℕ) : Type 0 where
  pub decided : (n : ℕ) → P n ⊎ (P n → ⊥)
  pub zero_in : P 0
  pub sums : (a b : ℕ) → P a → P b → P (a + b)
  pub all : (n : ℕ) → c ≤ n → P n

-- n is the sum of two numbers of P above 0
abbrev pub IsSum : (ℕ → Type 0) → ℕ → Type 0
IsSum P n = (x y : ℕ) × (0 < x) × (0 < y) × P x × P y × (x + y ≡ n)

-- whether one of the first numbers is such a summand
sum-search : (P : ℕ → Type 0) (c : ℕ) → IsCofinite P c → (n b : ℕ) → IsSum P n ⊎ ((x : ℕ) → x < b → 0 < x → x < n → P x → P (n - x) → ⊥)
sum-search P c h n zero = inr (λ x l m k p q. omega arith)
sum-search P c h n (suc b) = elim (sum-search P c h n b) [
  | inl found ↦ inl found
  | inr none ↦ elim (cases_eq b 0) [
    | inl e ↦ inr (λ x l m k p q. omega arith)
    | inr some ↦ elim (cases_lt b n) [
      | inr more ↦ inr (λ x l m k p q. elim (cases_lt x b) [ inl less ↦ none x less m k p q | inr past ↦ omega arith ])
      | inl less ↦ elim (h.decided b) [
        | inr out ↦ inr (last n b none (λ p q. out p))
        | inl in_p ↦ elim (h.decided (n - b)) [
          | inr out ↦ inr (last n b none (λ p q. out q))
          | inl rest ↦ inl (b, n - b, omega arith, omega arith, in_p, rest, omega arith)
        ]
      ]
    ]
  ]
]
  where
    last : (n b : ℕ) → ((x : ℕ) → x < b → 0 < x → x < n → P x → P (n - x) → ⊥) → (P b → P (n - b) → ⊥) → (x : ℕ) → x < suc b → 0 < x → x < n → P x → P (n - x) → ⊥
    last n b none here x l m k p q = elim (cases_lt x b) [
      | inl less ↦ none x less m k p q
      | inr past ↦ let e : x ≡ b = omega arith in here (subst P e p) (subst (λ y. P (n - y)) e q)
    ]

sum-decided : (P : ℕ → Type 0) (c : ℕ) → IsCofinite P c → (n : ℕ) → IsSum P n ⊎ (IsSum P n → ⊥)
sum-decided P c h n = elim (sum-search P c h n n) [
  | inl found ↦ inl found
  | inr none ↦ inr (λ s.
      let e : s.1 ≡ n - s.0 = omega (arith, s.6) in
      none s.0 (omega (arith, s.2, s.3, s.6)) s.2 (omega (arith, s.2, s.3, s.6)) s.4 (subst P e s.5))
]

-- the numbers of P up to b that are no sum of two
record AreAtoms (P : ℕ → Type 0) (M : List ℕ) (b : ℕ) : Type 0 where
  ascending : IsStrictlyIncreasing M
  listed : (k : ℕ) → k < length M → P (get_or M k 0) × (0 < get_or M k 0) × (get_or M k 0 ≤ b) × (IsSum P (get_or M k 0) → ⊥)
  whole : (n : ℕ) → n ≤ b → P n → IsMember M n

atoms-push : (P : ℕ → Type 0) (M : List ℕ) (b : ℕ) → P (suc b) → (IsSum P (suc b) → ⊥) → AreAtoms P M b → AreAtoms P (M ++ suc b ∷ []) (suc b)
atoms-push P M b in_p atom h = record {
  ascending = λ k l. elim (push_cases M (suc b) k (omega arith)) [
    | inl x ↦ elim (push_cases M (suc b) (k + 1) l) [
      | inl y ↦ omega (arith, h.ascending k y.0, x.1, y.1)
      | inr y ↦ omega (arith, (h.listed k x.0).2, x.1, y.1)
    ]
    | inr x ↦ absurd (omega (arith, x.0, l, length_push M (suc b)))
  ];
  listed = λ k l. elim (push_cases M (suc b) k l) [
    | inl x ↦ subst (λ g. P g × (0 < g) × (g ≤ suc b) × (IsSum P g → ⊥)) (sym x.1)
        ((h.listed k x.0).0, (h.listed k x.0).1, omega (arith, (h.listed k x.0).2), (h.listed k x.0).3)
    | inr x ↦ subst (λ g. P g × (0 < g) × (g ≤ suc b) × (IsSum P g → ⊥)) (sym x.1) (in_p, omega arith, omega arith, atom)
  ];
  whole = λ n l p. elim (cases_eq n (suc b)) [
    | inl e ↦ member-listed (M ++ suc b ∷ []) n (subst (Contains (M ++ suc b ∷ [])) (sym e) (Contains-push M (suc b)))
    | inr other ↦ holds-from_entries (M ++ suc b ∷ []) M (λ k q. member-listed (M ++ suc b ∷ []) (get_or M k 0) (Contains-append_left M (suc b ∷ []) (get_or M k 0) (place-contains M k q))) n (h.whole n (omega arith) p)
  ];
}

atoms-stay : (P : ℕ → Type 0) (M : List ℕ) (b : ℕ) → (P (suc b) → IsSum P (suc b)) → AreAtoms P M b → AreAtoms P M (suc b)
atoms-stay P M b sum h = record {
  ascending = h.ascending;
  listed = λ k l. ((h.listed k l).0, (h.listed k l).1, omega (arith, (h.listed k l).2), (h.listed k l).3);
  whole = λ n l p. elim (cases_eq n (suc b)) [
    | inl e ↦
        let s = sum (subst P e p) in
        let f : s.0 + s.1 ≡ n = omega (arith, s.6, e) in
        subst (IsMember M) f (member-add M s.0 s.1 (h.whole s.0 (omega (arith, s.3, s.6)) s.4) (h.whole s.1 (omega (arith, s.2, s.6)) s.5))
    | inr other ↦ h.whole n (omega arith) p
  ];
}

atoms-none : (P : ℕ → Type 0) → AreAtoms P [] 0
atoms-none P = record {
  ascending = λ k l. absurd (omega arith);
  listed = λ k l. absurd (omega arith);
  whole = λ n l p. subst (IsMember []) (let e : 0 ≡ n = omega arith in e) (member-zero []);
}

atoms : (P : ℕ → Type 0) (c : ℕ) → IsCofinite P c → (b : ℕ) → (M : List ℕ) × AreAtoms P M b
atoms P c h zero = ([], atoms-none P)
atoms P c h (suc b) =
    let before = atoms P c h b in
    elim (h.decided (suc b)) [
      | inr out ↦ (before.0, atoms-stay P before.0 b (λ p. absurd (out p)) before.1)
      | inl in_p ↦ elim (sum-decided P c h (suc b)) [
        | inl sum ↦ (before.0, atoms-stay P before.0 b (λ p. sum) before.1)
        | inr atom ↦ (before.0 ++ suc b ∷ [], atoms-push P before.0 b in_p atom before.1)
      ]
    ]

module _ (P : ℕ → Type 0) (c : ℕ) (h : IsCofinite P c) (M : List ℕ) (a : AreAtoms P M (2 * c + 2)) where
  -- past the bound a number is c + 1 and another
  holds-below : (b n : ℕ) → n ≤ b → P n → IsMember M n
  holds-below zero n l p = a.whole n (omega arith) p
  holds-below (suc b) n l p = elim (cases_lt (2 * c + 2) n) [
    | inr small ↦ a.whole n small p
    | inl great ↦
        let e : (c + 1) + (n - (c + 1)) ≡ n = omega arith in
        subst (IsMember M) e (member-add M (c + 1) (n - (c + 1)) (holds-below b (c + 1) (omega arith) (h.all (c + 1) (omega arith)))
        (holds-below b (n - (c + 1)) (omega arith) (h.all (n - (c + 1)) (omega arith))))
  ]

  held : (n : ℕ) → IsMember M n → P n
  held = member-induction P M h.zero_in (λ i n l p. h.sums n (get_or M i 0) p (a.listed i l).0)

  above : (n : ℕ) → c ≤ n → IsMember M n
  above n l = holds-below n n (omega arith) (h.all n l)

  long : 0 < length M
  long = elim (member-split M (c + 1) (above (c + 1) (omega arith))) [
    | inl e ↦ absurd (omega arith)
    | inr p ↦ omega (arith, p.2)
  ]

  coprime : (d : ℕ) → ((i : ℕ) → i < length M → d ∣ get_or M i 0) → d ≤ 1
  coprime d all =
      let one : d ∣ (c + 1) = member-divides M d (c + 1) all (above (c + 1) (omega arith)) in
      let e : 1 + (c + 1) ≡ c + 2 = omega arith in
      let two : d ∣ (1 + (c + 1)) = subst (λ n. d ∣ n) (sym e) (member-divides M d (c + 2) all (above (c + 2) (omega arith))) in
      le_of_dvd (omega arith) ((dvd-add_iff_left d one).1 two)

  needed : (k : ℕ) → k < length M → IsMember (remove M k) (get_or M k 0) → ⊥
  needed k l q = elim (member-split (remove M k) (get_or M k 0) q) [
    | inl e ↦ omega (arith, (a.listed k l).1, e)
    | inr p ↦
        let j = same p.0 p.2 in
        let r : P p.1 = held p.1 (part p.1 p.3) in
        elim (cases_eq p.1 0) [
          | inl none ↦ distinct j.0 j.1 j.2 (omega (arith, j.3, p.4, none))
          | inr some ↦ (a.listed k l).3 (p.1, get_or M j.0 0, omega arith, (a.listed j.0 j.1).1, r, (a.listed j.0 j.1).0, omega (arith, j.3, p.4))
        ]
  ]
    where
      same : (i : ℕ) → i < length (remove M k) → (j : ℕ) × (j < length M) × (j ≢ k) × (get_or (remove M k) i 0 ≡ get_or M j 0)
      same i q = elim (cases_lt i k) [
        | inl less ↦ (i, omega (arith, length-remove M k l), omega arith, get_or-remove_below M k 0 i less l)
        | inr more ↦ (i + 1, omega (arith, length-remove M k l), omega arith, get_or-remove_above M k 0 i more l)
      ]

      part : (n : ℕ) → IsMember (remove M k) n → IsMember M n
      part = holds-from_entries M (remove M k) (λ i q. let j = same i q in subst (IsMember M) (sym j.3) (member-entry M j.0 j.1))

      distinct : (j : ℕ) → j < length M → j ≢ k → get_or M j 0 ≡ get_or M k 0 → ⊥
      distinct j m other e =
          let order = AllPairs-from_increasing M a.ascending in
          elim (cases_lt j k) [
            | inl less ↦ omega (arith, order j k 0 less l, e)
            | inr more ↦ omega (arith, order k j 0 (omega arith) m, e)
          ]

  generates-atoms : Generates P M
  generates-atoms = record {
    semigroup = record {
      not_empty = long;
      positive = All-from_get_or (λ g. 1 ≤ g) M 0 (λ k l. omega (arith, (a.listed k l).1));
      coprime = λ d all. coprime d (λ i l. all i 0 l);
    };
    minimal = record { ascending = a.ascending; needed = needed };
    same = λ n. ((λ p. holds-below n n (omega arith) p), (λ q. held n q));
  }

pub generates-exists : (P : ℕ → Type 0) (c : ℕ) → IsCofinite P c → (M : List ℕ) × Generates P M
generates-exists P c h = let r = atoms P c h (2 * c + 2) in (r.0, generates-atoms P c h r.0 r.1)
