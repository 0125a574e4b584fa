-- The subsets of an ascending list, in the order of `powerset`: by their length, and then lexicographically.
use Rattle.std.proofs.Common.{◌≡◌, ℕ, zero, suc, ◌+◌, ◌-◌, ◌<◌, ◌≤◌, List, [], ◌∷◌, ◌++◌, length, map, get_or, refl, sym, ap, subst, ◌∙◌, inl, inr, arith, length-append}
use Rattle.std.specs.Prelude.{◌⊎◌, ⊤, AllPairs, Contains, flat_map}
use Rattle.std.proofs.lemmas.Bool.{cases_eq}
use Rattle.std.proofs.lemmas.List.Elements.{Contains-get_or}
use Rattle.std.proofs.lemmas.List.Kept.{AllPairs-cons}
use Rattle.itertools.specs.Odometer.{numbers, ways}
use Rattle.itertools.specs.Pool.{ascending_low, ascending_high, subsets}
use Rattle.itertools.proofs.PoolLemmas.{ascending_low-more}
use Rattle.sg_defs.specs.Vectors.{IsLexBelow}
use Rattle.sg_glue.proofs.PairLemmas.{contains-tail, contains-flat, flat-contains, contains-map, map-contains, pairs-flat, pairs-map, flat-same}

-- ascending places from a on, below n
abbrev pub Rises : ℕ → ℕ → List ℕ → Type 0
Rises n a [] = ⊤
Rises n a (d ∷ ds) = (a ≤ d) × (d < n) × Rises n (d + 1) ds

-- all choices of m such places
abbrev pub choices : ℕ → ℕ → ℕ → List (List ℕ)
choices n zero a = [] ∷ []
choices n (suc m) a = flat_map (λ d. map (λ ds. d ∷ ds) (choices n m (d + 1))) (numbers a (n - m - a))

ways-choices : (n k m : ℕ) (p : List ℕ) → length p + m ≡ k → ways ascending_low (ascending_high n k) m p ≡ choices n m (ascending_low p)
ways-choices n k zero p e = refl
ways-choices n k (suc m) p e =
    let far : ascending_high n k p ≡ n - m = omega (arith, e) in
    flat-same (λ d. ⊤) (λ d. map (λ ds. d ∷ ds) (ways ascending_low (ascending_high n k) m (p ++ d ∷ []))) (λ d. map (λ ds. d ∷ ds) (choices n m (d + 1)))
    (λ d t. ap (map (λ ds. d ∷ ds)) (ways-choices n k m (p ++ d ∷ []) (omega (arith, length-append p (d ∷ []), e)) ∙ ap (choices n m) (ascending_low-more p d)))
    (numbers (ascending_low p) (ascending_high n k p - ascending_low p)) (λ k d l. tt)
    ∙ ap (λ h. flat_map (λ d. map (λ ds. d ∷ ds) (choices n m (d + 1))) (numbers (ascending_low p) (h - ascending_low p))) far

pub subsets-choices : (n : ℕ) → subsets n ≡ flat_map (λ k. choices n k 0) (numbers 0 (n + 1))
subsets-choices n = flat-same (λ k. ⊤) (λ k. ways ascending_low (ascending_high n k) k []) (λ k. choices n k 0) (λ k t. ways-choices n k k [] (omega arith)) (numbers 0 (n + 1)) (λ k d l. tt)

contains-numbers : (a c x : ℕ) → Contains (numbers a c) x → (a ≤ x) × (x < a + c)
contains-numbers a zero x h = absurd (omega (arith, h.1))
contains-numbers a (suc c) x (zero, l, e) = let s : a ≡ x = e in (omega (arith, s), omega (arith, s))
contains-numbers a (suc c) x (suc k, l, e) = let r = contains-numbers (a + 1) c x (k, omega (arith, l), e) in (omega (arith, r.0), omega (arith, r.1))

numbers-contains : (a c x : ℕ) → a ≤ x → x < a + c → Contains (numbers a c) x
numbers-contains a zero x low high = absurd (omega (arith, low, high))
numbers-contains a (suc c) x low high = elim (cases_eq a x) [
  | inl same ↦ (0, omega arith, same)
  | inr other ↦ contains-tail a (numbers (a + 1) c) x (numbers-contains (a + 1) c x (omega (arith, low, other)) (omega (arith, high)))
]

numbers-ascend : (a c : ℕ) → AllPairs (λ x y. x < y) (numbers a c)
numbers-ascend a zero = λ i j d l k. absurd (omega (arith, k))
numbers-ascend a (suc c) = AllPairs-cons (λ x y. x < y) a (numbers (a + 1) c)
    (λ k d l. omega (arith, (contains-numbers (a + 1) c (get_or (numbers (a + 1) c) k d) (Contains-get_or (numbers (a + 1) c) k d l)).0))
    (numbers-ascend (a + 1) c)

-- ---- which places are chosen

choices-rise : (n m a : ℕ) (ds : List ℕ) → Contains (choices n m a) ds → Rises n a ds × (length ds ≡ m)
choices-rise n zero a ds (zero, l, e) = subst (λ v. Rises n a v × (length v ≡ 0)) e (tt, refl)
choices-rise n zero a ds (suc k, l, e) = absurd (omega (arith, l))
choices-rise n (suc m) a ds h =
    let r = contains-flat (λ d. map (λ es. d ∷ es) (choices n m (d + 1))) (numbers a (n - m - a)) ds h in
    let q = contains-map (λ es. r.0 ∷ es) (choices n m (r.0 + 1)) ds r.2 in
    let within = contains-numbers a (n - m - a) r.0 r.1 in
    let inner = choices-rise n m (r.0 + 1) q.0 q.1 in
    subst (λ v. Rises n a v × (length v ≡ suc m)) q.2 ((within.0, omega (arith, within.0, within.1), inner.0), ap suc inner.1)

rise-room : (n a : ℕ) (ds : List ℕ) → a ≤ n → Rises n a ds → a + length ds ≤ n
rise-room n a [] l r = omega (arith, l)
rise-room n a (d ∷ ds) l r = omega (arith, r.0, rise-room n (d + 1) ds (omega (arith, r.1)) r.2)

rise-choices : (n a : ℕ) (ds : List ℕ) → Rises n a ds → Contains (choices n (length ds) a) ds
rise-choices n a [] r = (0, omega arith, refl)
rise-choices n a (d ∷ ds) r =
    let room = rise-room n (d + 1) ds (omega (arith, r.1)) r.2 in
    flat-contains (λ e. map (λ es. e ∷ es) (choices n (length ds) (e + 1))) (numbers a (n - length ds - a)) d (d ∷ ds)
    (numbers-contains a (n - length ds - a) d r.0 (omega (arith, room, r.0)))
    (map-contains (λ es. d ∷ es) (choices n (length ds) (d + 1)) ds (rise-choices n (d + 1) ds r.2))

pub subsets-rise : (n : ℕ) (ds : List ℕ) → Contains (subsets n) ds → Rises n 0 ds
subsets-rise n ds h =
    let r = contains-flat (λ k. choices n k 0) (numbers 0 (n + 1)) ds (subst (λ l. Contains l ds) (subsets-choices n) h) in
    (choices-rise n r.0 0 ds r.2).0

pub rise-subsets : (n : ℕ) (ds : List ℕ) → Rises n 0 ds → Contains (subsets n) ds
rise-subsets n ds r = subst (λ l. Contains l ds) (sym (subsets-choices n))
    (flat-contains (λ k. choices n k 0) (numbers 0 (n + 1)) (length ds) ds
    (numbers-contains 0 (n + 1) (length ds) (omega arith) (omega (arith, rise-room n 0 ds (omega arith) r)))
    (rise-choices n 0 ds r))

-- ---- their order

-- shorter, or as long and lexicographically less
abbrev pub Precedes : List ℕ → List ℕ → Type 0
Precedes x y = (length x < length y) ⊎ ((length x ≡ length y) × IsLexBelow x y)

choices-ordered : (n m a : ℕ) → AllPairs IsLexBelow (choices n m a)
choices-ordered n zero a = λ i j d l k. absurd (omega (arith, l, k))
choices-ordered n (suc m) a = pairs-flat (λ x y. x < y) IsLexBelow (λ d. map (λ ds. d ∷ ds) (choices n m (d + 1))) (numbers a (n - m - a))
    (λ d. pairs-map IsLexBelow IsLexBelow (λ ds. d ∷ ds) (choices n m (d + 1)) (λ x y p q s. inr (refl, s)) (choices-ordered n m (d + 1)))
    (numbers-ascend a (n - m - a))
    (λ x y u v less p q.
    let s = contains-map (λ ds. x ∷ ds) (choices n m (x + 1)) u p in
    let t = contains-map (λ ds. y ∷ ds) (choices n m (y + 1)) v q in
    subst (λ w. IsLexBelow w v) s.2 (subst (λ w. IsLexBelow (x ∷ s.0) w) t.2 (inl less)))

pub subsets-ordered : (n : ℕ) → AllPairs Precedes (subsets n)
subsets-ordered n = subst (AllPairs Precedes) (sym (subsets-choices n)) (pairs-flat (λ x y. x < y) Precedes (λ k. choices n k 0) (numbers 0 (n + 1))
    (λ k i j d l inside.
    let all = choices n k 0 in
    let a = choices-rise n k 0 (get_or all i d) (Contains-get_or all i d (omega (arith, l, inside))) in
    let b = choices-rise n k 0 (get_or all j d) (Contains-get_or all j d inside) in
    inr (a.1 ∙ sym b.1, choices-ordered n k 0 i j d l inside))
    (numbers-ascend 0 (n + 1))
    (λ x y u v less p q.
    let a = choices-rise n x 0 u p in
    let b = choices-rise n y 0 v q in
    inl (omega (arith, less, a.1, b.1))))
