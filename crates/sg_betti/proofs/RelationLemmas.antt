-- The greatest factorizations of the classes of an element, by the first places of its components, and the canonical
-- relations between them.
use Rattle.std.proofs.Common.{◌≡◌, ℕ, zero, suc, ◌+◌, ◌-◌, ◌<◌, ◌≤◌, List, [], ◌∷◌, ◌++◌, length, get_or, refl, sym, ap, subst, ◌∙◌, inl, inr, append_assoc, arith}
use Rattle.std.specs.Prelude.{◌↔◌, All, AllPairs, Contains}
use Rattle.std.proofs.Math.Nat.{mul-le-mul_left}
use Rattle.std.proofs.lemmas.Bool.{cases_lt, cases_eq}
use Rattle.std.proofs.lemmas.List.{append-nil, get_or_default}
use Rattle.std.proofs.lemmas.List.Elements.{All-nil, Contains-append_left, Contains-push, Contains-push_cases}
use Rattle.std.proofs.lemmas.List.Kept.{AllPairs-cons, AllPairs-from_increasing}
use Rattle.sg_defs.specs.Membership.{IsFactorization}
use Rattle.sg_defs.specs.Vectors.{value_of, IsLexBelow}
use Rattle.sg_nonunique.specs.Classes.{IsSameClass}
use Rattle.sg_nonunique.specs.Places.{raise}
use Rattle.sg_nonunique.specs.Presentations.{IsCanonicalRelation, IsLexGreatest, Relation}
use Rattle.sg_nonunique.proofs.OrderLemmas.{lex-then}
use Rattle.sg_nonunique.proofs.PlaceLemmas.{length-lower, length-raise, value_of-lower, value_of-raise}
use Rattle.sg_laws_finite.proofs.ElementLemmas.{contains-nil, pairs-append, pairs-nil}
use Rattle.sg_laws_families.specs.PlaceGraph.{AreConnected, IsFirstPlace, IsVertex}
use Rattle.sg_laws_families.proofs.CanonicalLemmas.{greatest-of_class, one-greatest, top-exists}
use Rattle.sg_laws_families.proofs.ClassLemmas.{class-back, class-end, class-here, class-then}
use Rattle.sg_laws_families.proofs.ClassOrder.{greatest-by_first, greatest-raised}
use Rattle.sg_laws_families.proofs.Families.{numbers-family}
use Rattle.sg_laws_families.proofs.PlaceClasses.{class-by_places}
use Rattle.sg_betti.specs.Components.{AreComponents}
use Rattle.sg_betti.specs.Raised.{AddsRelations, IsGreatestFrom, head_of}
use Rattle.sg_betti.proofs.GraphLemmas.{IsComponent, connected-then, first-contained, first-least, row-connected, some-positive}
use Rattle.sg_betti.proofs.SearchLemmas.{vertex-inside}

-- no number of a vector is above its value
pub place-below_value : (G x : List ℕ) (i : ℕ) → All (λ g. 1 ≤ g) G → i < length G → get_or x i 0 ≤ value_of G x
place-below_value [] x i positive l = absurd (omega arith)
place-below_value (g ∷ G) [] i positive l = omega arith
place-below_value (g ∷ G) (c ∷ x) zero positive l =
    let one : 1 ≤ g = positive 0 0 (omega arith) in
    omega (arith, mul-le-mul_left c one)
place-below_value (g ∷ G) (c ∷ x) (suc i) positive l =
    let rest : get_or x i 0 ≤ value_of G x = place-below_value G x i (λ k d m. positive (suc k) d (omega arith)) (omega arith) in
    omega (arith, rest)

-- the greatest factorization without a generator, raised there
pub greatest_from-raised : (G : List ℕ) (n rest place : ℕ) (w : List ℕ) → place < length G → n ≡ rest + get_or G place 0 → IsLexGreatest (IsFactorization G rest) w →
    IsGreatestFrom G n place (raise w place)
greatest_from-raised G n rest place w l split g = λ x first.
    greatest-raised (IsFactorization G n) (length G) (λ z f. f.places) (IsFactorization G rest) place x w l
    (λ y f h. record { places = length-lower y place ∙ f.places; value = omega (arith, value_of-lower G y place f.places h, f.value, split) })
    (λ z f. record { places = length-raise z place ∙ f.places; value = omega (arith, value_of-raise G z place l f.places, f.value, split) })
    first g

abbrev relation_of : ℕ → List ℕ → List ℕ → Relation ℕ
relation_of n left right = record { value = n; left = left; right = right }

-- relations are their values and sides
same-relation : (r s : Relation ℕ) → r.value ≡ s.value → r.left ≡ s.left → r.right ≡ s.right → r ≡ s
same-relation r s e f g =
    let a : relation_of r.value r.left r.right ≡ relation_of s.value r.left r.right = ap (λ v. relation_of v r.left r.right) e in
    let b : relation_of s.value r.left r.right ≡ relation_of s.value s.left r.right = ap (λ v. relation_of s.value v r.right) f in
    let d : relation_of s.value s.left r.right ≡ relation_of s.value s.left s.right = ap (λ v. relation_of s.value s.left v) g in
    a ∙ b ∙ d

-- a relation of the left side with one of the rows behind the first, of which the first k were looked at
pub record IsRowRelation (G : List ℕ) (n : ℕ) (rows : List (List ℕ)) (left : List ℕ) (k : ℕ) (r : Relation ℕ) : Type 0 where
  pub value : r.value ≡ n
  pub left_side : r.left ≡ left
  pub row : ℕ
  pub before : row < k
  pub right_side : IsGreatestFrom G n (head_of rows (row + 1)) r.right

-- the relations of these rows
pub record AreRowRelations (G : List ℕ) (n : ℕ) (rows : List (List ℕ)) (left : List ℕ) (k : ℕ) (more : List (Relation ℕ)) : Type 0 where
  pub ordered : AllPairs (λ r s. IsLexBelow s.right r.right) more
  pub exactly : (r : Relation ℕ) → Contains more r ↔ IsRowRelation G n rows left k r

-- they were put behind the others
abbrev pub AddsRows : List ℕ → ℕ → List (List ℕ) → List ℕ → ℕ → List (Relation ℕ) → List (Relation ℕ) → Type 0
AddsRows G n rows left k old now = (more : List (Relation ℕ)) × (now ≡ old ++ more) × AreRowRelations G n rows left k more

module _ (G : List ℕ) (n : ℕ) (positive : All (λ g. 1 ≤ g) G) (above : 0 < n) (rows : List (List ℕ)) (c : AreComponents (IsFactorization G n) rows) where
  row-component : (k : ℕ) → k < length rows → IsComponent (IsFactorization G n) (get_or rows k [])
  row-component k l = c.connected k [] l

  head-contained : (k : ℕ) → k < length rows → Contains (get_or rows k []) (head_of rows k)
  head-contained k l = first-contained (get_or rows k []) (c.not_empty k [] l)

  -- it is a place of the graph
  pub head-vertex : (k : ℕ) → k < length rows → IsVertex (IsFactorization G n) (head_of rows k)
  head-vertex k l = (c.whole (head_of rows k)).1 (get_or rows k [], (k, l, get_or_default rows k (get_or rows k []) [] l), head-contained k l)

  pub head-inside : (k : ℕ) → k < length rows → head_of rows k < length G
  head-inside k l = vertex-inside G n (head_of rows k) (head-vertex k l)

  -- a vector of the class of a row
  abbrev vector_of : (k : ℕ) → k < length rows → List ℕ
  vector_of k l = (head-vertex k l).0

  -- the first place of the class of a vector that has a place of the row positive
  first-place : (k : ℕ) → k < length rows → (z : List ℕ) → IsFactorization G n z → (i : ℕ) → 0 < get_or z i 0 → Contains (get_or rows k []) i → IsFirstPlace (IsFactorization G n) z (head_of rows k)
  first-place k l z f i p h = record {
    before = λ y s j less. elim (cases_lt 0 (get_or y j 0)) [
      | inr none ↦ omega arith
      | inl some ↦
          let r = row-component k l in
          let joined = (class-by_places (IsFactorization G n) z y i j f (class-end (IsFactorization G n) z y s) p some).0 s in
          let up = AllPairs-from_increasing (get_or rows k []) r.ascending in
          let low : head_of rows k ≤ j = first-least (get_or rows k []) j (λ a b d m q. up a b d m q) (in_row r h j joined) in
          absurd (omega (arith, low, less))
    ];
    reached =
        let v = head-vertex k l in
        (v.0, (class-by_places (IsFactorization G n) z v.0 i (head_of rows k) f v.1 p v.2).1 (row-connected (IsFactorization G n) (get_or rows k []) i (head_of rows k) (row-component k l) h (head-contained k l)), v.2);
  }
    where
      in_row : IsComponent (IsFactorization G n) (get_or rows k []) → Contains (get_or rows k []) i → (j : ℕ) → AreConnected (IsFactorization G n) i j → Contains (get_or rows k []) j
      in_row r h j q = (r.exactly j).1 (connected-then (IsFactorization G n) (head_of rows k) i j ((r.exactly i).0 h) q)

  -- each vector has a row
  row_of : (z : List ℕ) → IsFactorization G n z → (k i : ℕ) × (k < length rows) × (0 < get_or z i 0) × Contains (get_or rows k []) i
  row_of z f =
      let i = some-positive G n z above f in
      let w = (c.whole i.0).0 (z, f, i.1) in
      let at : get_or rows w.1.0 [] ≡ w.0 = get_or_default rows w.1.0 [] w.0 w.1.1 ∙ w.1.2 in
      (w.1.0, i.0, w.1.1, i.1, subst (λ r. Contains r i.0) (sym at) w.2)

  -- there is a row where there are factorizations
  pub some-row : (z : List ℕ) → IsFactorization G n z → 0 < length rows
  some-row z f = let w = row_of z f in omega (arith, w.2)

  first-of_row : (k : ℕ) (l : k < length rows) → IsFirstPlace (IsFactorization G n) (vector_of k l) (head_of rows k)
  first-of_row k l = let v = head-vertex k l in first-place k l v.0 v.1 (head_of rows k) v.2 (head-contained k l)

  -- rows in order have greatest vectors in order
  rows-descend : (j k : ℕ) (a b : List ℕ) → j < k → k < length rows → IsGreatestFrom G n (head_of rows j) a → IsGreatestFrom G n (head_of rows k) b → IsLexBelow b a
  rows-descend j k a b less l p q =
      let lj : j < length rows = omega arith in
      let f = first-of_row j lj in
      let g = first-of_row k l in
      greatest-by_first (IsFactorization G n) (length G) (λ z h. h.places) (vector_of j lj) (vector_of k l) a b (head_of rows j) (head_of rows k) f g
      (c.ordered j k [] less l) (p (vector_of j lj) f) (q (vector_of k l) g)

  -- a row has one greatest vector
  one-from : (k : ℕ) (a b : List ℕ) → k < length rows → IsGreatestFrom G n (head_of rows k) a → IsGreatestFrom G n (head_of rows k) b → a ≡ b
  one-from k a b l p q =
      let f = first-of_row k l in
      let g = p (vector_of k l) f in
      let h = q (vector_of k l) f in
      let ga = class-end (IsFactorization G n) (vector_of k l) a g.member in
      let hb = class-end (IsFactorization G n) (vector_of k l) b h.member in
      one-greatest (λ z. IsSameClass (IsFactorization G n) (vector_of k l) z) a b (ga.places ∙ sym hb.places) g h

  -- the greatest vector of the class of a vector is that of its row
  from-greatest : (k : ℕ) (y : List ℕ) → k < length rows → IsFirstPlace (IsFactorization G n) y (head_of rows k) → IsLexGreatest (λ z. IsSameClass (IsFactorization G n) y z) y → IsGreatestFrom G n (head_of rows k) y
  from-greatest k y l first g = λ x f.
      let s : IsSameClass (IsFactorization G n) x y =
      class-then (IsFactorization G n) x f.reached.0 y f.reached.1
      (class-then (IsFactorization G n) f.reached.0 first.reached.0 y
      ((class-by_places (IsFactorization G n) f.reached.0 first.reached.0 (head_of rows k) (head_of rows k)
      (class-end (IsFactorization G n) x f.reached.0 f.reached.1) (class-end (IsFactorization G n) y first.reached.0 first.reached.1) f.reached.2 first.reached.2).1
      (row-connected (IsFactorization G n) (get_or rows k []) (head_of rows k) (head_of rows k) (row-component k l) (head-contained k l) (head-contained k l)))
      (class-back (IsFactorization G n) y first.reached.0 first.reached.1)) in
      record { member = s; greatest = λ z h. g.greatest z (class-then (IsFactorization G n) y x z (class-back (IsFactorization G n) x y s) h) }

  -- the greatest vector of the first row is the greatest of all
  root-greatest : (a : List ℕ) → 0 < length rows → IsGreatestFrom G n (head_of rows 0) a → IsLexGreatest (IsFactorization G n) a
  root-greatest a l p = record { member = class-end (IsFactorization G n) (vector_of 0 l) a (p (vector_of 0 l) (first-of_row 0 l)).member; greatest = none }
    where
      none : (y : List ℕ) → IsFactorization G n y → IsLexBelow a y → ⊥
      none y f less =
          let w = row_of y f in
          let first = first-place w.0 w.2 y f w.1 w.3 w.4 in
          elim (cases_eq w.0 0) [
            | inl e ↦ (p y (subst (λ k. IsFirstPlace (IsFactorization G n) y (head_of rows k)) e first)).greatest y (class-here (IsFactorization G n) y f) less
            | inr later ↦
                let top = top-exists (IsFactorization G) (λ m. m) (length G) (numbers-family G positive) n y f in
                let b = greatest-by_first (IsFactorization G n) (length G) (λ z h. h.places) (vector_of 0 l) y a top.0 (head_of rows 0) (head_of rows w.0) (first-of_row 0 l) first
                (c.ordered 0 w.0 [] (omega arith) w.2) (p (vector_of 0 l) (first-of_row 0 l)) top.1 in
                top.1.greatest y (class-here (IsFactorization G n) y f) (lex-then top.0 a y b less)
          ]

  module _ (left : List ℕ) (some : 0 < length rows) (root : IsGreatestFrom G n (head_of rows 0) left) where
    relations-none : AreRowRelations G n rows left 0 []
    relations-none = record {
      ordered = pairs-nil (λ r s. IsLexBelow s.right r.right);
      exactly = λ r. ((λ h. absurd (contains-nil r h)), (λ h. let l = h.before in absurd (omega (arith, l))));
    }

    pub rows-none : (old : List (Relation ℕ)) → AddsRows G n rows left 0 old old
    rows-none old = ([], sym (append-nil old), relations-none)

    -- the relation of the next row was put last
    relations-pushed : (k : ℕ) (more now : List (Relation ℕ)) (s : Relation ℕ) → k + 1 < length rows → AreRowRelations G n rows left k more → s.value ≡ n → s.left ≡ left → IsGreatestFrom G n (head_of rows (k + 1)) s.right →
        now ≡ more ++ s ∷ [] → AreRowRelations G n rows left (k + 1) now
    relations-pushed k more now s l a e f g made = subst (AreRowRelations G n rows left (k + 1)) (sym made) (record {
      ordered = pairs-append (λ r t. IsLexBelow t.right r.right) more (s ∷ []) a.ordered
          (AllPairs-cons (λ r t. IsLexBelow t.right r.right) s [] (All-nil (λ t. IsLexBelow t.right s.right)) (pairs-nil (λ r t. IsLexBelow t.right r.right)))
          (λ r t h i.
          let p = (a.exactly r).0 h in
          let less : p.row + 1 < k + 1 = let b = p.before in omega (arith, b) in
          subst (λ u. IsLexBelow u.right r.right) (only t i) (rows-descend (p.row + 1) (k + 1) r.right s.right less l p.right_side g));
      exactly = λ r. (
        (λ h. elim (Contains-push_cases more s r h) [
          | inl old ↦ let p = (a.exactly r).0 old in
              record { value = p.value; left_side = p.left_side; row = p.row; before = let b = p.before in omega (arith, b); right_side = p.right_side }
          | inr same ↦ subst (IsRowRelation G n rows left (k + 1)) same (record { value = e; left_side = f; row = k; before = omega arith; right_side = g })
        ]),
        (λ h. elim (cases_lt h.row k) [
          | inl less ↦ Contains-append_left more (s ∷ []) r ((a.exactly r).1 (record { value = h.value; left_side = h.left_side; row = h.row; before = less; right_side = h.right_side }))
          | inr high ↦
              let at : h.row ≡ k = let b = h.before in omega (arith, b) in
              let right = subst (λ j. IsGreatestFrom G n (head_of rows (j + 1)) r.right) at h.right_side in
              let same = same-relation s r (e ∙ sym h.value) (f ∙ sym h.left_side) (one-from (k + 1) s.right r.right l g right) in
              subst (Contains (more ++ s ∷ [])) same (Contains-push more s)
        ]),
      );
    })
      where
        only : (t : Relation ℕ) → Contains (s ∷ []) t → s ≡ t
        only t h = elim (Contains-push_cases [] s t h) [ inl nothing ↦ absurd (contains-nil t nothing) | inr same ↦ same ]

    pub rows-pushed : (k : ℕ) (old list now : List (Relation ℕ)) (s : Relation ℕ) → k + 1 < length rows → AddsRows G n rows left k old list → s.value ≡ n → s.left ≡ left → IsGreatestFrom G n (head_of rows (k + 1)) s.right →
        now ≡ list ++ s ∷ [] → AddsRows G n rows left (k + 1) old now
    rows-pushed k old list now s l a e f g made =
        (a.0 ++ s ∷ [], made ∙ ap (λ v. v ++ s ∷ []) a.1 ∙ append_assoc old a.0 (s ∷ []), relations-pushed k a.0 (a.0 ++ s ∷ []) s l a.2 e f g refl)

    -- a relation of a row is canonical
    row-canonical : (k : ℕ) (r : Relation ℕ) → k + 1 ≡ length rows → IsRowRelation G n rows left k r → IsCanonicalRelation (IsFactorization G) r
    row-canonical k r all h =
        let l : h.row + 1 < length rows = let b = h.before in omega (arith, b, all) in
        let g = h.right_side (vector_of (h.row + 1) l) (first-of_row (h.row + 1) l) in
        let right = greatest-of_class (IsFactorization G n) (vector_of (h.row + 1) l) r.right g.member g in
        let top : IsLexGreatest (IsFactorization G n) r.left = subst (IsLexGreatest (IsFactorization G n)) (sym h.left_side) (root-greatest left some root) in
        record {
          left = subst (λ m. IsLexGreatest (IsFactorization G m) r.left) (sym h.value) top;
          right = subst (λ m. IsLexGreatest (λ z. IsSameClass (IsFactorization G m) r.right z) r.right) (sym h.value) right;
          apart = λ same.
              let s : IsSameClass (IsFactorization G n) left r.right =
              subst (λ v. IsSameClass (IsFactorization G n) v r.right) h.left_side (subst (λ m. IsSameClass (IsFactorization G m) r.left r.right) h.value same) in
              let a = (root (vector_of 0 some) (first-of_row 0 some)).member in
              let v = head-vertex 0 some in
              let w = head-vertex (h.row + 1) l in
              let joined = class-then (IsFactorization G n) v.0 left w.0 a
              (class-then (IsFactorization G n) left r.right w.0 s (class-back (IsFactorization G n) w.0 r.right g.member)) in
              let path = (class-by_places (IsFactorization G n) v.0 w.0 (head_of rows 0) (head_of rows (h.row + 1)) v.1 w.1 v.2 w.2).0 joined in
              c.apart 0 (h.row + 1) [] (omega arith) l (head_of rows (h.row + 1)) (((row-component 0 some).exactly (head_of rows (h.row + 1))).1 path) (head-contained (h.row + 1) l);
        }

    -- and a canonical relation is one of a row
    canonical-row : (k : ℕ) (r : Relation ℕ) → k + 1 ≡ length rows → r.value ≡ n → IsCanonicalRelation (IsFactorization G) r → IsRowRelation G n rows left k r
    canonical-row k r all e h =
        let top : IsLexGreatest (IsFactorization G n) r.left = subst (λ m. IsLexGreatest (IsFactorization G m) r.left) e h.left in
        let right : IsLexGreatest (λ z. IsSameClass (IsFactorization G n) r.right z) r.right = subst (λ m. IsLexGreatest (λ z. IsSameClass (IsFactorization G m) r.right z) r.right) e h.right in
        let apart : ¬ IsSameClass (IsFactorization G n) r.left r.right = subst (λ m. ¬ IsSameClass (IsFactorization G m) r.left r.right) e h.apart in
        let best = root-greatest left some root in
        let same : r.left ≡ left = one-greatest (IsFactorization G n) r.left left (top.member.places ∙ sym best.member.places) top best in
        let inside = class-end (IsFactorization G n) r.right r.right right.member in
        let w = row_of r.right inside in
        let first = first-place w.0 w.2 r.right inside w.1 w.3 w.4 in
        elim (cases_eq w.0 0) [
          | inl zero_th ↦
              let here = subst (λ j. IsFirstPlace (IsFactorization G n) r.right (head_of rows j)) zero_th first in
              let s = (root r.right here).member in
              absurd (apart (subst (λ v. IsSameClass (IsFactorization G n) v r.right) (sym same) (class-back (IsFactorization G n) r.right left s)))
          | inr later ↦
              let j : w.0 - 1 + 1 ≡ w.0 = omega arith in
              record {
                value = e;
                left_side = same;
                row = w.0 - 1;
                before = omega (arith, w.2, all);
                right_side = subst (λ i. IsGreatestFrom G n (head_of rows i) r.right) (sym j) (from-greatest w.0 r.right w.2 first right);
              }
        ]

    -- all rows were looked at
    pub rows-all : (k : ℕ) (old now : List (Relation ℕ)) → k + 1 ≡ length rows → AddsRows G n rows left k old now → AddsRelations (IsFactorization G) n old now
    rows-all k old now all a = record {
      more = a.0;
      added = a.1;
      ordered = a.2.ordered;
      exactly = λ r. (
        (λ h. let p = (a.2.exactly r).0 h in (p.value, row-canonical k r all p)),
        (λ h. (a.2.exactly r).1 (canonical-row k r all h.0 h.1)),
      );
    }
