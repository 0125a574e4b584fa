-- When small elements and the numbers above them are closed under sums.
use Rattle.std.proofs.Common.{◌≡◌, ℕ, zero, suc, ◌+◌, ◌-◌, ◌<◌, ◌≤◌, Bool, true, false, List, length, get_or, set, sym, ap, subst, ◌∙◌, inl, inr, arith}
use Rattle.std.specs.Prelude.{Contains, ◌⊎◌}
use Rattle.std.proofs.lemmas.Bool.{cases_lt, cases_eq}
use Rattle.std.proofs.lemmas.List.{get_or-set_other}
use Rattle.std.proofs.lemmas.List.Kept.{AllPairs-from_increasing}
use Rattle.sg_classes.proofs.ExistsLemmas.{IsCofinite}
use Rattle.sg_classes.proofs.GeneratorLemmas.{contains-place, place-contains}
use Rattle.sg_small.specs.Sets.{IsInSmall, IsNotClosed}
use Rattle.sg_small.specs.Small.{AreMarked, AreSmallElements, IsClosedAt, IsSumAt}

-- whether a number stands at one of the first places
place-search : (xs : List ℕ) (x n : ℕ) → n ≤ length xs → ((k : ℕ) × (k < length xs) × (get_or xs k 0 ≡ x)) ⊎ ((k : ℕ) → k < n → get_or xs k 0 ≡ x → ⊥)
place-search xs x zero l = inr (λ k m e. omega arith)
place-search xs x (suc n) l = elim (place-search xs x n (omega arith)) [
  | inl found ↦ inl found
  | inr none ↦ elim (cases_eq (get_or xs n 0) x) [
    | inl here ↦ inl (n, omega arith, here)
    | inr other ↦ inr (λ k m e. elim (cases_eq k n) [ inl same ↦ other (ap (λ j. get_or xs j 0) (sym same) ∙ e) | inr differs ↦ none k (omega arith) e ])
  ]
]

-- whether a number is listed
pub contains-decided : (xs : List ℕ) (x : ℕ) → Contains xs x ⊎ (Contains xs x → ⊥)
contains-decided xs x = elim (place-search xs x (length xs) (omega arith)) [
  | inl p ↦ inl (subst (Contains xs) p.2 (place-contains xs p.0 p.1))
  | inr none ↦ inr (λ h. let p = contains-place xs x h in none p.0 p.1 p.2)
]

module _ (list : List ℕ) (s : AreSmallElements list) where
  -- an earlier entry is less
  pub less : (i j : ℕ) → i < j → j < length list → get_or list i 0 < get_or list j 0
  less i j l m = AllPairs-from_increasing list s.ascending i j 0 l m

  -- an entry not later is at most as great
  pub up_to : (i j : ℕ) → i ≤ j → j < length list → get_or list i 0 ≤ get_or list j 0
  up_to i j l m = elim (cases_eq i j) [
    | inl e ↦ omega (arith, ap (λ k. get_or list k 0) e)
    | inr other ↦ omega (arith, less i j (omega arith) m)
  ]

  -- the sum with entry 0 is an entry
  pub first-matched : (which : ℕ) → which < length list → (j : ℕ) → j < 1 → Contains list (get_or list which 0 + get_or list j 0)
  first-matched which l j m =
      let e : j ≡ 0 = omega arith in
      let f : get_or list which 0 ≡ get_or list which 0 + get_or list j 0 = omega (arith, s.zero, ap (λ k. get_or list k 0) e) in
      subst (Contains list) f (place-contains list which l)

  -- the entries up to a place are below its sum with entry 1
  pub first-below : (which : ℕ) → 0 < which → which < length list → (q : ℕ) → q < which + 1 → get_or list q 0 < get_or list which 0 + get_or list 1 0
  first-below which positive l q m = omega (arith, up_to q which (omega arith) l, less 0 1 (omega arith) (omega arith))

  -- one sum more is matched, and the entries up to it are below the next
  pub more-matched : (which other place : ℕ) → place < length list → get_or list place 0 ≡ get_or list which 0 + get_or list other 0 →
      ((j : ℕ) → j < other → Contains list (get_or list which 0 + get_or list j 0)) → (j : ℕ) → j < other + 1 → Contains list (get_or list which 0 + get_or list j 0)
  more-matched which other place l e before j m = elim (cases_lt j other) [
    | inl under ↦ before j under
    | inr last ↦
        let same : other ≡ j = omega arith in
        subst (λ k. Contains list (get_or list which 0 + get_or list k 0)) same (subst (Contains list) e (place-contains list place l))
  ]

  pub more-below : (which other place : ℕ) → other + 1 < length list → get_or list place 0 ≡ get_or list which 0 + get_or list other 0 →
      ((q : ℕ) → q < place → get_or list q 0 < get_or list which 0 + get_or list other 0) → (q : ℕ) → q < place + 1 → get_or list q 0 < get_or list which 0 + get_or list (other + 1) 0
  more-below which other place l e before q m = elim (cases_lt q place) [
    | inl under ↦ omega (arith, before q under, less other (other + 1) (omega arith) l)
    | inr last ↦ let same : q ≡ place = omega arith in omega (arith, e, less other (other + 1) (omega arith) l, ap (λ k. get_or list k 0) same)
  ]

  pub same-below : (n place : ℕ) → get_or list place 0 < n → ((q : ℕ) → q < place → get_or list q 0 < n) → (q : ℕ) → q < place + 1 → get_or list q 0 < n
  same-below n place here before q m = elim (cases_lt q place) [
    | inl under ↦ before q under
    | inr last ↦ let same : q ≡ place = omega arith in omega (arith, here, ap (λ k. get_or list k 0) same)
  ]

  -- a number between two entries that follow one another is not listed
  between : (n place : ℕ) → ((q : ℕ) → q < place → get_or list q 0 < n) → place < length list → n < get_or list place 0 → Contains list n → ⊥
  between n place below inside above h =
      let p = contains-place list n h in
      elim (cases_lt p.0 place) [
        | inl before ↦ omega (arith, below p.0 before, p.2)
        | inr after ↦ omega (arith, up_to place p.0 after p.1, p.2, above)
      ]

  -- a sum that is missed
  pub missed-sum : (which other place : ℕ) → which < length list → other < length list → place < length list →
      ((q : ℕ) → q < place → get_or list q 0 < get_or list which 0 + get_or list other 0) → get_or list which 0 + get_or list other 0 < get_or list place 0 →
      IsNotClosed (IsInSmall list)
  missed-sum which other place l m n below above = (get_or list which 0, get_or list other 0, inl (place-contains list which l), inl (place-contains list other m), out)
    where
      out : IsInSmall list (get_or list which 0 + get_or list other 0) → ⊥
      out (inl h) = between (get_or list which 0 + get_or list other 0) place below n above h
      out (inr h) = omega (arith, h place n)

  -- all sums are entries, or above them
  pub all-sums : (which other : ℕ) → ((j : ℕ) → j < other → Contains list (get_or list which 0 + get_or list j 0)) →
      ((q : ℕ) → q < length list → get_or list q 0 < get_or list which 0 + get_or list other 0) → IsClosedAt list which
  all-sums which other matched below j l = elim (cases_lt j other) [
    | inl before ↦ inl (matched j before)
    | inr after ↦ inr (λ q m. omega (arith, below q m, up_to other j after l))
  ]

  -- no sum but that with 0 is up to the greatest entry
  pub far-sums : (which : ℕ) → which < length list → get_or list (length list - 1) 0 < get_or list which 0 + get_or list 1 0 → IsClosedAt list which
  far-sums which l far j m = elim (cases_eq j 0) [
    | inl e ↦
        let same : get_or list which 0 ≡ get_or list which 0 + get_or list j 0 = omega (arith, s.zero, ap (λ k. get_or list k 0) e) in
        inl (subst (Contains list) same (place-contains list which l))
    | inr other ↦ inr (λ q n. omega (arith, far, up_to q (length list - 1) (omega arith) (omega arith), up_to 1 j (omega arith) m))
  ]

  -- adding an entry stays in the set, by induction on a bound
  shift : ((i : ℕ) → 0 < i → i < length list → IsClosedAt list i ⊎ IsSumAt list i) → (b i : ℕ) → i < length list → get_or list i 0 ≤ b → (n : ℕ) → IsInSmall list n → IsInSmall list (n + get_or list i 0)
  shift done b i l low n (inr h) = inr (λ k m. omega (arith, h k m))
  shift done zero i l low n (inl h) = subst (IsInSmall list) (let e : n ≡ n + get_or list i 0 = omega arith in e) (inl h)
  shift done (suc b) i l low n (inl h) = elim (cases_eq i 0) [
    | inl e ↦ subst (IsInSmall list) (let f : n ≡ n + get_or list i 0 = omega (arith, s.zero, ap (λ k. get_or list k 0) e) in f) (inl h)
    | inr other ↦ elim (done i (omega arith) l) [
      | inl closed ↦
          let p = contains-place list n h in
          let e : get_or list i 0 + get_or list p.0 0 ≡ n + get_or list i 0 = omega (arith, p.2) in
          subst (IsInSmall list) e (closed p.0 p.1)
      | inr sum ↦
          let first : get_or list sum.0 0 ≤ b = omega (arith, sum.6, less 0 sum.1 sum.3 sum.5) in
          let second : get_or list sum.1 0 ≤ b = omega (arith, sum.6, less 0 sum.0 sum.2 sum.4) in
          let e : (n + get_or list sum.0 0) + get_or list sum.1 0 ≡ n + get_or list i 0 = omega (arith, sum.6) in
          subst (IsInSmall list) e (shift done b sum.1 sum.5 second (n + get_or list sum.0 0) (shift done b sum.0 sum.4 first n (inl h)))
    ]
  ]

  pub small-closed : ((i : ℕ) → 0 < i → i < length list → IsClosedAt list i ⊎ IsSumAt list i) → (x y : ℕ) → IsInSmall list x → IsInSmall list y → IsInSmall list (x + y)
  small-closed done x y p (inr h) = inr (λ k m. omega (arith, h k m))
  small-closed done x y p (inl h) =
      let q = contains-place list y h in
      subst (λ v. IsInSmall list (x + v)) q.2 (shift done (get_or list q.0 0) q.0 q.1 (omega arith) x p)

  -- the set as one that is decided and has all numbers from one on
  pub small-cofinite : ((x y : ℕ) → IsInSmall list x → IsInSmall list y → IsInSmall list (x + y)) → IsCofinite (IsInSmall list) (get_or list (length list - 1) 0 + 1)
  small-cofinite closed = record {
    decided = decided;
    zero_in = inl (subst (Contains list) s.zero (place-contains list 0 s.not_empty));
    sums = closed;
    all = λ n l. inr (λ k m. omega (arith, l, up_to k (length list - 1) (omega arith) (omega arith)));
  }
    where
      decided : (n : ℕ) → IsInSmall list n ⊎ (IsInSmall list n → ⊥)
      decided n = elim (contains-decided list n) [
        | inl listed ↦ inl (inl listed)
        | inr out ↦ elim (cases_lt (get_or list (length list - 1) 0) n) [
          | inl above ↦ inl (inr (λ k m. omega (arith, above, up_to k (length list - 1) (omega arith) (omega arith))))
          | inr under ↦ inr (λ h. elim h [ inl listed ↦ out listed | inr all ↦ omega (arith, under, all (length list - 1) (omega (arith, s.not_empty))) ])
        ]
      ]

-- one more mark
pub marked-set : (list : List ℕ) (marked : List Bool) (place which other : ℕ) → AreMarked list marked → place < length marked → 0 < which → 0 < other → which < length list → other < length list →
    get_or list place 0 ≡ get_or list which 0 + get_or list other 0 → AreMarked list (set marked place true)
marked-set list marked place which other marks l a b c d e p m is = elim (cases_eq p place) [
  | inl same ↦ (which, other, a, b, c, d, ap (λ k. get_or list k 0) same ∙ e)
  | inr differs ↦ marks p m (sym (get_or-set_other marked place p true false differs) ∙ is)
]

-- the least number of the set above 0
pub least-member : (list : List ℕ) → AreSmallElements list → 1 < length list → IsInSmall list (get_or list 1 0)
least-member list s l = inl (place-contains list 1 l)

pub least-bound : (list : List ℕ) → AreSmallElements list → 1 < length list → (x : ℕ) → 0 < x → IsInSmall list x → get_or list 1 0 ≤ x
least-bound list s l x m (inr h) = omega (arith, h 1 l)
least-bound list s l x m (inl h) =
    let p = contains-place list x h in
    elim (cases_eq p.0 0) [
      | inl e ↦ absurd (omega (arith, m, p.2, s.zero, ap (λ k. get_or list k 0) e))
      | inr other ↦ omega (arith, p.2, up_to list s 1 p.0 (omega arith) p.1)
    ]

pub one-member : (list : List ℕ) → AreSmallElements list → length list ≤ 1 → IsInSmall list 1
one-member list s l = inr (λ k m. let e : k ≡ 0 = omega arith in omega (arith, s.zero, ap (λ j. get_or list j 0) e))
