-- The components of the graph of an element, found from the least place on, and the classes that they stand for.
use Rattle.std.proofs.Common.{◌≡◌, ℕ, ◌+◌, ◌<◌, ◌≤◌, List, [], ◌∷◌, ◌++◌, length, get_or, sym, ap, subst, ◌∙◌, inl, inr, arith}
use Rattle.std.specs.Prelude.{All, AllPairs, Contains}
use Rattle.std.proofs.lemmas.Bool.{cases_lt, cases_eq}
use Rattle.std.proofs.lemmas.List.{get_or_default}
use Rattle.std.proofs.lemmas.List.Elements.{All-contains, All-nil, All-push, Contains-append_left, Contains-push, Contains-push_cases}
use Rattle.std.proofs.lemmas.List.Kept.{AllPairs-cons, AllPairs-from_increasing}
use Rattle.sg_defs.specs.Listings.{Lists}
use Rattle.sg_defs.specs.Membership.{IsFactorization}
use Rattle.sg_defs.specs.Vectors.{value_of}
use Rattle.sg_defs.proofs.VectorLemmas.{value_of-zeros}
use Rattle.sg_nonunique.specs.Classes.{IsSameClass}
use Rattle.sg_nonunique.proofs.SumLemmas.{zero_or_positive}
use Rattle.sg_nonunique.proofs.WalkLemmas.{joined-back, joined-end, joined-here, joined-then}
use Rattle.sg_laws_finite.proofs.ElementLemmas.{contains-nil, pairs-append, pairs-nil}
use Rattle.sg_laws_families.specs.PlaceGraph.{AreConnected, IsEdge, IsVertex}
use Rattle.sg_laws_families.proofs.ClassLemmas.{class-here}
use Rattle.sg_laws_families.proofs.PlaceClasses.{class-by_places}
use Rattle.sg_betti.specs.Components.{AreClassRows, AreComponents, AreInOneRow}

-- an entry of an ascending list is not below the first one
pub first-least : (r : List ℕ) (k : ℕ) → ((i j : ℕ) (d : ℕ) → i < j → j < length r → get_or r i d < get_or r j d) → Contains r k → get_or r 0 0 ≤ k
first-least r k up h = elim (cases_eq h.0 0) [
  | inl first ↦
      let e : get_or r 0 0 ≡ k = get_or_default r 0 0 k (omega (arith, h.1, first)) ∙ subst (λ j. get_or r j k ≡ k) first h.2 in
      omega (arith, e)
  | inr later ↦
      let less : get_or r 0 k < get_or r h.0 k = up 0 h.0 k (omega (arith, later)) h.1 in
      let e : get_or r 0 0 ≡ get_or r 0 k = get_or_default r 0 0 k (omega (arith, h.1)) in
      omega (arith, e, less, h.2)
]

-- its first one is an entry
pub first-contained : (r : List ℕ) → 0 < length r → Contains r (get_or r 0 0)
first-contained r l = (0, l, get_or_default r 0 (get_or r 0 0) 0 l)

module _ (V : List ℕ → Type 0) where
  pub connected-here : (i : ℕ) → IsVertex V i → AreConnected V i i
  connected-here i v = joined-here (IsVertex V) (IsEdge V) i v

  pub connected-end : (i j : ℕ) → AreConnected V i j → IsVertex V j
  connected-end i j h = joined-end (IsVertex V) (IsEdge V) i j h

  pub connected-then : (i j k : ℕ) → AreConnected V i j → AreConnected V j k → AreConnected V i k
  connected-then i j k p q = joined-then (IsVertex V) (IsEdge V) i j k p q

  pub connected-back : (i j : ℕ) → AreConnected V i j → AreConnected V j i
  connected-back i j h = joined-back (IsVertex V) (IsEdge V) (λ a b e. (e.0, e.1, e.3, e.2)) h.0 i j (connected-end i j h) h.1

  -- a component, by its first place
  abbrev pub IsComponent : List ℕ → Type 0
  IsComponent r = Lists (AreConnected V (get_or r 0 0)) r

  -- the components of the places below k
  pub record AreFirstComponents (k : ℕ) (rows : List (List ℕ)) : Type 0 where
    pub not_empty : All (λ r. 0 < length r) rows
    pub connected : All IsComponent rows
    pub ordered : AllPairs (λ r s. get_or r 0 0 < get_or s 0 0) rows
    pub below : All (λ r. get_or r 0 0 < k) rows
    pub whole : (i : ℕ) → i < k → IsVertex V i → (r : List ℕ) × Contains rows r × Contains r i
    pub apart : AllPairs (λ r s. (i : ℕ) → Contains r i → Contains s i → ⊥) rows

  pub components-none : AreFirstComponents 0 []
  components-none = record {
    not_empty = All-nil (λ r. 0 < length r);
    connected = All-nil IsComponent;
    ordered = pairs-nil (λ r s. get_or r 0 0 < get_or s 0 0);
    below = All-nil (λ r. get_or r 0 0 < 0);
    whole = λ i l v. absurd (omega arith);
    apart = pairs-nil (λ r s. (i : ℕ) → Contains r i → Contains s i → ⊥);
  }

  -- the next place is none of the graph, or in a row
  pub components-passed : (k : ℕ) (rows : List (List ℕ)) → AreFirstComponents k rows → (IsVertex V k → (r : List ℕ) × Contains rows r × Contains r k) → AreFirstComponents (k + 1) rows
  components-passed k rows f there = record {
    not_empty = f.not_empty;
    connected = f.connected;
    ordered = f.ordered;
    below = λ i d l. let less : get_or (get_or rows i d) 0 0 < k = f.below i d l in omega (arith, less);
    whole = λ i l v. elim (cases_eq i k) [
      | inl e ↦ subst (λ j. (r : List ℕ) × Contains rows r × Contains r j) (sym e) (there (subst (IsVertex V) e v))
      | inr other ↦ f.whole i (omega arith) v
    ];
    apart = f.apart;
  }

  -- two places of a row are connected
  pub row-connected : (r : List ℕ) (i j : ℕ) → IsComponent r → Contains r i → Contains r j → AreConnected V i j
  row-connected r i j c h g = connected-then i (get_or r 0 0) j (connected-back (get_or r 0 0) i ((c.exactly i).0 h)) ((c.exactly j).0 g)

  -- what is connected with a place of a row is in the row
  pub row-whole : (r : List ℕ) (i j : ℕ) → IsComponent r → Contains r i → AreConnected V i j → Contains r j
  row-whole r i j c h p = (c.exactly j).1 (connected-then (get_or r 0 0) i j ((c.exactly i).0 h) p)

  module _ (k : ℕ) (rows : List (List ℕ)) (f : AreFirstComponents k rows) (v : IsVertex V k) (none : ((r : List ℕ) × Contains rows r × Contains r k) → ⊥)
      (row : List ℕ) (lists : Lists (AreConnected V k) row) where
    -- no place of an earlier row is in it
    new-apart : (r : List ℕ) → Contains rows r → (i : ℕ) → Contains r i → Contains row i → ⊥
    new-apart r there i h g =
        none (r, there, row-whole r i k (All-contains IsComponent rows r f.connected there) h (connected-back k i ((lists.exactly i).0 g)))

    has_root : Contains row k
    has_root = (lists.exactly k).1 (connected-here k v)

    -- its first place is the root
    first-is_root : get_or row 0 0 ≡ k
    first-is_root =
        let up = AllPairs-from_increasing row lists.ascending in
        let low : get_or row 0 0 ≤ k = first-least row k (λ i j d l m. up i j d l m) has_root in
        let some : 0 < length row = omega (arith, has_root.1) in
        let head = get_or row 0 0 in
        let in_row : Contains row head = first-contained row some in
        elim (cases_lt head k) [
          | inl less ↦
              let w = f.whole head less (connected-end k head ((lists.exactly head).0 in_row)) in
              absurd (new-apart w.0 w.1 head w.2 in_row)
          | inr more ↦ omega arith
        ]

    new-component : IsComponent row
    new-component = subst (λ j. Lists (AreConnected V j) row) (sym first-is_root) lists

    one-pair : (R : List ℕ → List ℕ → Type 0) → AllPairs R (row ∷ [])
    one-pair R = AllPairs-cons R row [] (All-nil (R row)) (pairs-nil R)

    only-row : (s : List ℕ) → Contains (row ∷ []) s → row ≡ s
    only-row s h = elim (Contains-push_cases [] row s h) [ inl nothing ↦ absurd (contains-nil s nothing) | inr e ↦ e ]

    -- the component of a place of the graph that is in no row was put last
    pub components-pushed : (now : List (List ℕ)) → now ≡ rows ++ row ∷ [] → AreFirstComponents (k + 1) now
    components-pushed now made = subst (AreFirstComponents (k + 1)) (sym made) (record {
      not_empty = All-push (λ r. 0 < length r) rows row f.not_empty (omega (arith, has_root.1));
      connected = All-push IsComponent rows row f.connected new-component;
      ordered = pairs-append (λ r s. get_or r 0 0 < get_or s 0 0) rows (row ∷ []) f.ordered (one-pair (λ r s. get_or r 0 0 < get_or s 0 0))
          (λ r s h g.
          let low : get_or r 0 0 < k = All-contains (λ r. get_or r 0 0 < k) rows r f.below h in
          subst (λ t. get_or r 0 0 < get_or t 0 0) (only-row s g) (let e : get_or r 0 0 < get_or row 0 0 = omega (arith, low, first-is_root) in e));
      below = All-push (λ r. get_or r 0 0 < k + 1) rows row
          (λ i d l. let less : get_or (get_or rows i d) 0 0 < k = f.below i d l in omega (arith, less)) (omega (arith, first-is_root));
      whole = λ i l w. elim (cases_eq i k) [
        | inl e ↦ (row, Contains-push rows row, subst (Contains row) (sym e) has_root)
        | inr other ↦ let h = f.whole i (omega arith) w in (h.0, Contains-append_left rows (row ∷ []) h.0 h.1, h.2)
      ];
      apart = pairs-append (λ r s. (i : ℕ) → Contains r i → Contains s i → ⊥) rows (row ∷ []) f.apart (one-pair (λ r s. (i : ℕ) → Contains r i → Contains s i → ⊥))
          (λ r s h g i a b. new-apart r h i a (subst (λ t. Contains t i) (sym (only-row s g)) b));
    })

  -- all places were looked at
  pub components-all : (k : ℕ) (rows : List (List ℕ)) → ((i : ℕ) → IsVertex V i → i < k) → AreFirstComponents k rows → AreComponents V rows
  components-all k rows inside f = record {
    not_empty = f.not_empty;
    connected = f.connected;
    ordered = f.ordered;
    whole = λ i. (
      (λ v. f.whole i (inside i v) v),
      (λ h. let c = All-contains IsComponent rows h.0 f.connected h.1 in connected-end (get_or h.0 0 0) i ((c.exactly i).0 h.2)),
    );
    apart = f.apart;
  }

-- a factorization of a number above 0 has a positive place
pub some-positive : (G : List ℕ) (n : ℕ) (x : List ℕ) → 0 < n → IsFactorization G n x → (i : ℕ) × (0 < get_or x i 0)
some-positive G n x above f = elim (zero_or_positive x) [
  | inl none ↦ absurd (omega (arith, above, f.value, ap (value_of G) none, value_of-zeros G (length x)))
  | inr some ↦ some
]

-- the components stand for the classes
pub components-are_classes : (G : List ℕ) (n : ℕ) (rows : List (List ℕ)) → 0 < n → AreComponents (IsFactorization G n) rows → AreClassRows (IsFactorization G n) rows
components-are_classes G n rows above c x y p q = (to, from)
  where
    to : IsSameClass (IsFactorization G n) x y → AreInOneRow rows x y
    to s =
        let i = some-positive G n x above p in
        let w = (c.whole i.0).0 (x, p, i.1) in
        let r = All-contains (IsComponent (IsFactorization G n)) rows w.0 c.connected w.1 in (
          w.0,
          w.1,
          (λ k h. row-whole (IsFactorization G n) w.0 i.0 k r w.2 ((class-by_places (IsFactorization G n) x x i.0 k p p i.1 h).0 (class-here (IsFactorization G n) x p))),
          (λ k h. row-whole (IsFactorization G n) w.0 i.0 k r w.2 ((class-by_places (IsFactorization G n) x y i.0 k p q i.1 h).0 s)),
        )

    from : AreInOneRow rows x y → IsSameClass (IsFactorization G n) x y
    from h =
        let i = some-positive G n x above p in
        let j = some-positive G n y above q in
        let r = All-contains (IsComponent (IsFactorization G n)) rows h.0 c.connected h.1 in
        (class-by_places (IsFactorization G n) x y i.0 j.0 p q i.1 j.1).1
        (row-connected (IsFactorization G n) h.0 i.0 j.0 r (h.2 i.0 i.1) (h.3 j.0 j.1))
