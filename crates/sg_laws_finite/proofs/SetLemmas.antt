-- Of a set of vectors that is listed: its lengths and deltas have lists, its classes and chains are decided, its greatest
-- vectors and its catenary degree are there.
use Rattle.std.proofs.Common.{◌≡◌, ℕ, zero, suc, ◌+◌, ◌<◌, ◌≤◌, List, [], ◌∷◌, get_or, sum, sym, subst, inl, inr, arith}
use Rattle.std.specs.Prelude.{◌⊎◌, ◌↔◌, AllPairs, Contains}
use Rattle.std.proofs.lemmas.Bool.{cases_lt, cases_eq}
use Rattle.sg_defs.specs.Listings.{Lists}
use Rattle.sg_defs.specs.Vectors.{distance, IsLexBelow, ListsDescending}
use Rattle.sg_defs.proofs.ListLemmas.{contains-cases}
use Rattle.sg_nonunique.specs.Factorizations.{IsLengthIn}
use Rattle.sg_nonunique.specs.Deltas.{IsDelta}
use Rattle.sg_nonunique.specs.Walks.{IsJoined}
use Rattle.sg_nonunique.specs.Classes.{Share, IsSameClass, HasTwoClasses}
use Rattle.sg_nonunique.specs.Presentations.{IsLexGreatest}
use Rattle.sg_nonunique.specs.Catenary.{IsChained, IsCatenaryOf}
use Rattle.sg_nonunique.proofs.OrderLemmas.{lex-irreflexive, lex-then}
use Rattle.sg_nonunique.proofs.WalkLemmas.{joined-step}
use Rattle.sg_laws_finite.proofs.ElementLemmas.{here, contains-nil, pairs-first}
use Rattle.sg_laws_finite.proofs.KeepLemmas.{keep, keep-pairs, keep-exactly}
use Rattle.sg_laws_finite.proofs.NumberLemmas.{some-below, numbers-listed, least-number}
use Rattle.sg_laws_finite.proofs.SearchLemmas.{vectors-decided, some-in, each-in, bound-exists}
use Rattle.sg_laws_finite.proofs.WalkDecisions.{joined-decided}

le-decided : (a b : ℕ) → (a ≤ b) ⊎ ¬ (a ≤ b)
le-decided a b = elim (cases_lt b a) [ inl less ↦ inr (λ h. omega arith) | inr more ↦ inl more ]

share-behind : (a b : ℕ) (x y : List ℕ) → ¬ ((0 < a) × (0 < b)) → ¬ Share x y → (k : ℕ) → 0 < get_or (a ∷ x) k 0 → 0 < get_or (b ∷ y) k 0 → ⊥
share-behind a b x y not apart zero h l = not (h, l)
share-behind a b x y not apart (suc k) h l = apart (k, h, l)

-- whether two vectors share a place is decided
pub share-decided : (x y : List ℕ) → Share x y ⊎ ¬ Share x y
share-decided [] y = inr (λ s. omega (arith, s.1))
share-decided (a ∷ x) [] = inr (λ s. omega (arith, s.2))
share-decided (a ∷ x) (b ∷ y) = elim (share-decided x y) [
  | inl s ↦ inl (suc s.0, s.1, s.2)
  | inr apart ↦ elim (cases_lt 0 a) [
    | inr none ↦ inr (λ s. share-behind a b x y (λ h. omega (arith, h.0)) apart s.0 s.1 s.2)
    | inl some ↦ elim (cases_lt 0 b) [
      | inr none ↦ inr (λ s. share-behind a b x y (λ h. omega (arith, h.1)) apart s.0 s.1 s.2)
      | inl both ↦ inl (0, some, both)
    ]
  ]
]

-- the first vector of a descending list is the greatest
pub greatest-first : (V : List ℕ → Type 0) (x : List ℕ) (l : List (List ℕ)) → ListsDescending V (x ∷ l) → IsLexGreatest V x
greatest-first V x l lists = record {
  member = (lists.exactly x).0 (here x l);
  greatest = λ z v below. elim (contains-cases x l z ((lists.exactly z).1 v)) [
    | inl e ↦ lex-irreflexive x (subst (IsLexBelow x) (sym e) below)
    | inr later ↦ lex-irreflexive x (lex-then x z x below (pairs-first (λ x y. IsLexBelow y x) x l lists.descending z later))
  ];
}

module _ (V : List ℕ → Type 0) (l : List (List ℕ)) (lists : ListsDescending V l) where
  -- ---- lengths

  pub length-decided : (n : ℕ) → IsLengthIn V n ⊎ ¬ IsLengthIn V n
  length-decided n = elim (some-in V (λ z. sum z ≡ n) (λ z. cases_eq (sum z) n) l lists.exactly) [
    | inl found ↦ inl found
    | inr none ↦ inr (λ h. none h.0 h.1 h.2)
  ]

  -- all lengths lie up to a bound
  pub length-bound : (b : ℕ) × ((n : ℕ) → IsLengthIn V n → n ≤ b)
  length-bound = let m = bound-exists V sum l lists.exactly in (m.0, λ n h. omega (arith, m.1 h.0 h.1, h.2))

  pub lengths-listed : (ns : List ℕ) × Lists (IsLengthIn V) ns
  lengths-listed = numbers-listed (IsLengthIn V) length-decided (length-bound.0 + 1) (λ n h. omega (arith, length-bound.1 n h))

  -- lower and lower + d are neighbouring lengths
  abbrev AreNeighbours : ℕ → ℕ → Type 0
  AreNeighbours d lower = IsLengthIn V lower × IsLengthIn V (lower + d) × ((k : ℕ) → k < lower + d → lower < k → IsLengthIn V k → ⊥)

  neighbours-decided : (d lower : ℕ) → AreNeighbours d lower ⊎ ¬ AreNeighbours d lower
  neighbours-decided d lower = elim (length-decided lower) [
    | inr no_lower ↦ inr (λ h. no_lower h.0)
    | inl is_lower ↦ elim (length-decided (lower + d)) [
      | inr no_upper ↦ inr (λ h. no_upper h.1)
      | inl is_upper ↦ elim (some-below (λ k. (lower < k) × IsLengthIn V k) (λ k. both k) (lower + d)) [
        | inl found ↦ inr (λ h. h.2 found.0 found.1 found.2.0 found.2.1)
        | inr none ↦ inl (is_lower, is_upper, λ k l m h. none k l (m, h))
      ]
    ]
  ]
    where
      both : (k : ℕ) → ((lower < k) × IsLengthIn V k) ⊎ ¬ ((lower < k) × IsLengthIn V k)
      both k = elim (cases_lt lower k) [
        | inr more ↦ inr (λ h. omega (arith, h.0))
        | inl less ↦ elim (length-decided k) [ inl h ↦ inl (less, h) | inr none ↦ inr (λ h. none h.1) ]
      ]

  pub delta-decided : (d : ℕ) → IsDelta V d ⊎ ¬ IsDelta V d
  delta-decided d = elim (cases_lt 0 d) [
    | inr none ↦ inr (λ h. omega (arith, h.positive))
    | inl positive ↦ elim (some-below (AreNeighbours d) (neighbours-decided d) (length-bound.0 + 1)) [
      | inl found ↦ inl (record {
        positive = positive;
        lower = found.0;
        is_lower = found.2.0;
        is_upper = found.2.1;
        none_between = λ k l m h. found.2.2 k m l h;
      })
      | inr none ↦ inr (λ h. none h.lower (omega (arith, length-bound.1 h.lower h.is_lower)) (h.is_lower, h.is_upper, λ k l m q. h.none_between k m l q))
    ]
  ]

  pub deltas-listed : (ds : List ℕ) × Lists (IsDelta V) ds
  deltas-listed = numbers-listed (IsDelta V) delta-decided (length-bound.0 + 1) (λ d h. omega (arith, length-bound.1 (h.lower + d) h.is_upper))

  -- ---- classes

  pub class-decided : (x y : List ℕ) → IsSameClass V x y ⊎ ¬ IsSameClass V x y
  class-decided x y = joined-decided Share share-decided vectors-decided V l lists.exactly x y

  pub two_classes-decided : HasTwoClasses V ⊎ ¬ HasTwoClasses V
  two_classes-decided = elim (some-in V (λ x. (y : List ℕ) × V y × ¬ IsSameClass V x y) other l lists.exactly) [
    | inl found ↦ inl (found.0, found.2.0, found.1, found.2.1, found.2.2)
    | inr none ↦ inr (λ h. none h.0 h.2 (h.1, h.3, h.4))
  ]
    where
      not-decided : (x y : List ℕ) → (¬ IsSameClass V x y) ⊎ ¬ (¬ IsSameClass V x y)
      not-decided x y = elim (class-decided x y) [ inl s ↦ inr (λ n. n s) | inr apart ↦ inl apart ]

      other : (x : List ℕ) → ((y : List ℕ) × V y × ¬ IsSameClass V x y) ⊎ ¬ ((y : List ℕ) × V y × ¬ IsSameClass V x y)
      other x = elim (some-in V (λ y. ¬ IsSameClass V x y) (not-decided x) l lists.exactly) [
        | inl found ↦ inl (found.0, found.1, found.2)
        | inr none ↦ inr (λ h. none h.0 h.1 h.2)
      ]

  -- ---- greatest vectors

  -- a decided part of the set that is not empty has a greatest vector
  pub greatest-exists : (Q : List ℕ → Type 0) → ((z : List ℕ) → Q z ⊎ ¬ Q z) → (x : List ℕ) → V x → Q x → (y : List ℕ) × IsLexGreatest (λ z. V z × Q z) y
  greatest-exists Q decide x v q =
      first (keep Q decide l) (keep-pairs Q decide (λ x y. IsLexBelow y x) l lists.descending) (keep-exactly Q decide V l lists.exactly)
    where
      first : (m : List (List ℕ)) → AllPairs (λ x y. IsLexBelow y x) m → ((z : List ℕ) → Contains m z ↔ (V z × Q z)) → (y : List ℕ) × IsLexGreatest (λ z. V z × Q z) y
      first [] ordered exactly = absurd (contains-nil x ((exactly x).1 (v, q)))
      first (y ∷ m) ordered exactly = (
        y,
        record {
          member = (exactly y).0 (here y m);
          greatest = λ z h below. elim (contains-cases y m z ((exactly z).1 h)) [
            | inl e ↦ lex-irreflexive y (subst (IsLexBelow y) (sym e) below)
            | inr later ↦ lex-irreflexive y (lex-then y z y below (pairs-first (λ x y. IsLexBelow y x) y m ordered z later))
          ];
        },
      )

  -- ---- chains

  step-decided : (N : ℕ) (x y : List ℕ) → (distance x y ≤ N) ⊎ ¬ (distance x y ≤ N)
  step-decided N x y = le-decided (distance x y) N

  pub chained-decided : (N : ℕ) → IsChained V N ⊎ ¬ IsChained V N
  chained-decided N = elim (each-in V (λ x. (y : List ℕ) → V y → IsJoined V (λ a b. distance a b ≤ N) x y) all l lists.exactly) [
    | inl each ↦ inl (λ x y p q. each x p y q)
    | inr found ↦ inr (λ h. found.2 (λ y q. h found.0 y found.1 q))
  ]
    where
      all : (x : List ℕ) → ((y : List ℕ) → V y → IsJoined V (λ a b. distance a b ≤ N) x y) ⊎ ¬ ((y : List ℕ) → V y → IsJoined V (λ a b. distance a b ≤ N) x y)
      all x = elim (each-in V (λ y. IsJoined V (λ a b. distance a b ≤ N) x y) (joined-decided (λ a b. distance a b ≤ N) (step-decided N) vectors-decided V l lists.exactly x) l lists.exactly) [
        | inl each ↦ inl each
        | inr found ↦ inr (λ h. found.2 (h found.0 found.1))
      ]

  -- some number bounds all distances
  distances-bounded : (N : ℕ) × ((x y : List ℕ) → V x → V y → distance x y ≤ N)
  distances-bounded =
      let all = bound-exists V (λ x. (bound-exists V (λ y. distance x y) l lists.exactly).0) l lists.exactly in
      (all.0, λ x y p q. omega (arith, all.1 x p, (bound-exists V (λ y. distance x y) l lists.exactly).1 y q))

  pub catenary-exists : (c : ℕ) × IsCatenaryOf V c
  catenary-exists =
      let far = distances-bounded in
      let w = least-number (IsChained V) chained-decided far.0 (λ x y p q. joined-step V (λ a b. distance a b ≤ far.0) x y p q (far.1 x y p q)) in
      (w.0, record { chained = w.1; least = λ c' less h. let m = w.2 c' h in omega arith })
