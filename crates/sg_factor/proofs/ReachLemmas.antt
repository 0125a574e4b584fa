-- Chains of vectors, from one of a list to all: the nearest that is not reached is reached next.
use Rattle.std.proofs.Common.{◌≡◌, ◌≢◌, ℕ, zero, suc, ◌+◌, ◌-◌, ◌<◌, ◌≤◌, List, [], ◌∷◌, length, sum, min, max, refl, sym, ap, subst, ◌∙◌, inl, inr, arith}
use Rattle.std.specs.Prelude.{◌⊎◌, ◌↔◌, Contains, slice_index, slice_index_or}
use Rattle.std.proofs.lemmas.Bool.{cases_lt, cases_eq}
use Rattle.std.proofs.lemmas.List.{get_or_default}
use Rattle.std.proofs.lemmas.List.Elements.{Contains-get_or}
use Rattle.std.proofs.lemmas.List.Sums.{sum_by-cons}
use Rattle.sg_defs.specs.Vectors.{minus, meet, distance}
use Rattle.sg_nonunique.specs.Walks.{IsWalk, IsJoined}
use Rattle.sg_nonunique.specs.Catenary.{IsChained, IsCatenaryOf}
use Rattle.sg_nonunique.proofs.WalkLemmas.{joined-here, joined-step, joined-then, joined-back, joined-map}

-- ---- distances

meet-turned : (x y : List ℕ) → meet x y ≡ meet y x
meet-turned [] [] = refl
meet-turned [] (b ∷ y) = refl
meet-turned (a ∷ x) [] = refl
meet-turned (a ∷ x) (b ∷ y) = ap (λ m. m ∷ meet x y) (let e : min a b ≡ min b a = omega arith in e) ∙ ap (λ m. min b a ∷ m) (meet-turned x y)

distance-turned : (x y : List ℕ) → distance x y ≡ distance y x
distance-turned x y =
    let e = meet-turned x y in
    omega (arith, ap (λ m. sum (minus x m)) e, ap (λ m. sum (minus y m)) e)

self-excess : (x : List ℕ) → sum (minus x (meet x x)) ≡ 0
self-excess [] = refl
self-excess (a ∷ x) = omega (arith, self-excess x, sum_by-cons (λ n. n) (a - min a a) (minus x (meet x x)))

distance-self : (x : List ℕ) → distance x x ≡ 0
distance-self x = omega (arith, self-excess x)

-- ---- walks

-- a walk starts inside the set
walk-start : {X : Type 0} (V : X → Type 0) (R : X → X → Type 0) (ps : List X) (x y : X) → IsWalk V R x ps y → V x
walk-start V R [] x y w = w.0
walk-start V R (p ∷ ps) x y w = w.0

-- a walk by shorter steps is one by longer steps
joined-weaker : {X : Type 0} (V : X → Type 0) (R S : X → X → Type 0) → ((x y : X) → R x y → S x y) → (x y : X) → V y → IsJoined V R x y → IsJoined V S x y
joined-weaker V R S h x y v j = joined-map V V R S (λ z. z) (λ z m. m) (λ a b m n r. h a b r) j.0 x y v j.1

-- ---- what is reached

-- a place is reached where its number is R or more; the number of another place is its distance from the nearest that is
pub record IsReached (rows : List (List ℕ)) (R : ℕ) (near : List ℕ) (c : ℕ) : Type 0 where
  pub long : length near ≡ length rows
  pub below : (i j : ℕ) → i < length rows → j < length rows → R ≤ slice_index near i → slice_index near j < R →
      slice_index near j ≤ distance (slice_index_or rows i []) (slice_index_or rows j [])
  pub nearest : (j : ℕ) → j < length rows → slice_index near j < R →
      (i : ℕ) × (i < length rows) × (R ≤ slice_index near i) × (slice_index near j ≡ distance (slice_index_or rows i []) (slice_index_or rows j []))
  pub chained : (i j : ℕ) → i < length rows → j < length rows → R ≤ slice_index near i → R ≤ slice_index near j →
      IsJoined (Contains rows) (λ a b. distance a b ≤ c) (slice_index_or rows i []) (slice_index_or rows j [])
  pub least : (c' : ℕ) → c' < c → IsChained (Contains rows) c' → ⊥

-- a listed vector, and its place
listed : (rows : List (List ℕ)) (i : ℕ) → i < length rows → Contains rows (slice_index_or rows i [])
listed rows i l = Contains-get_or rows i [] l

place-of : (rows : List (List ℕ)) (x : List ℕ) → Contains rows x → (i : ℕ) × (i < length rows) × (slice_index_or rows i [] ≡ x)
place-of rows x h = (h.0, h.1, get_or_default rows h.0 [] x h.1 ∙ h.2)

-- the first place is reached, and of the others the distances from it are known
pub reached-first : (rows : List (List ℕ)) (R : ℕ) (near : List ℕ) → 0 < length rows → length near ≡ length rows → R ≤ slice_index near 0 →
    ((j : ℕ) → j ≢ 0 → j < length rows → (slice_index near j < R) × (slice_index near j ≡ distance (slice_index_or rows 0 []) (slice_index_or rows j []))) → IsReached rows R near 0
reached-first rows R near some long_ first others = record {
  long = long_;
  below = λ i j li lj hi hj.
      let ei = at_first i li hi in
      let o = others j (λ e. omega (arith, ap (λ k. slice_index near k) e, first, hj)) lj in
      omega (arith, o.1, ap (λ k. distance (slice_index_or rows k []) (slice_index_or rows j [])) ei);
  nearest = λ j lj hj. (0, some, first, (others j (λ e. omega (arith, ap (λ k. slice_index near k) e, first, hj)) lj).1);
  chained = λ i j li lj hi hj.
      let e : i ≡ j = at_first i li hi ∙ sym (at_first j lj hj) in
      subst (λ k. IsJoined (Contains rows) (λ a b. distance a b ≤ 0) (slice_index_or rows i []) (slice_index_or rows k [])) e
      (joined-here (Contains rows) (λ a b. distance a b ≤ 0) (slice_index_or rows i []) (listed rows i li));
  least = λ c' l h. omega arith;
}
  where
    at_first : (i : ℕ) → i < length rows → R ≤ slice_index near i → i ≡ 0
    at_first i li hi = elim (cases_eq i 0) [
      | inl same ↦ same
      | inr other ↦ absurd (omega (arith, (others i other li).0))
    ]

-- ---- one place more

module _ (rows : List (List ℕ)) (R : ℕ) (near new : List ℕ) (c next : ℕ) (h : IsReached rows R near c) (inside : next < length rows) (open_ : slice_index near next < R)
    (minimal : (j : ℕ) → j < length rows → slice_index near next ≤ slice_index near j) where
  -- from what is reached no step to the rest is shorter
  far : (i j : ℕ) → i < length rows → j < length rows → R ≤ slice_index near i → slice_index near j < R →
      slice_index near next ≤ distance (slice_index_or rows i []) (slice_index_or rows j [])
  far i j li lj hi hj = omega (arith, minimal j lj, h.below i j li lj hi hj)

  -- so no walk by shorter steps leads to the next place
  cross : (c' : ℕ) → c' < slice_index near next → (ps : List (List ℕ)) (x y : List ℕ) (i : ℕ) → i < length rows → slice_index_or rows i [] ≡ x → R ≤ slice_index near i →
      IsWalk (Contains rows) (λ a b. distance a b ≤ c') x ps y → y ≡ slice_index_or rows next [] → ⊥
  cross c' less [] x y i li e hi w end =
      let same : slice_index_or rows i [] ≡ slice_index_or rows next [] = e ∙ w.1 ∙ end in
      omega (arith, less, far i next li inside hi open_, ap (λ v. distance v (slice_index_or rows next [])) same, distance-self (slice_index_or rows next []))
  cross c' less (p ∷ ps) x y i li e hi w end =
      let q = place-of rows p (walk-start (Contains rows) (λ a b. distance a b ≤ c') ps p y w.2) in
      elim (cases_lt (slice_index near q.0) R) [
        | inl rest ↦
            omega (
              arith,
              less,
              w.1,
              far i q.0 li q.1 hi rest,
              ap (λ v. distance v (slice_index_or rows q.0 [])) e,
              ap (λ v. distance x v) q.2,
            )
        | inr reached ↦ cross c' less ps p y q.0 q.1 q.2 reached w.2 end
      ]

  module _ (many : length new ≡ length rows) (now : R ≤ slice_index new next) (kept : (j : ℕ) → j < length rows → R ≤ slice_index near j → R ≤ slice_index new j)
      (noted : (j : ℕ) → j ≢ next → j < length rows → slice_index near j < R → slice_index new j ≡ min (slice_index near j) (distance (slice_index_or rows next []) (slice_index_or rows j []))) where
    -- what is reached now was before, or is the next place
    reached-cases : (i : ℕ) → i < length rows → R ≤ slice_index new i → (i ≡ next) ⊎ (R ≤ slice_index near i)
    reached-cases i li hi = elim (cases_eq i next) [
      | inl same ↦ inl same
      | inr other ↦ elim (cases_lt (slice_index near i) R) [
        | inl rest ↦ absurd (omega (arith, noted i other li rest))
        | inr before ↦ inr before
      ]
    ]

    -- what is open now was open before
    open-before : (j : ℕ) → j < length rows → slice_index new j < R → (j ≢ next) × (slice_index near j < R)
    open-before j lj hj = (
      (λ e. omega (arith, ap (λ k. slice_index new k) e, now, hj)),
      elim (cases_lt (slice_index near j) R) [ inl rest ↦ rest | inr before ↦ absurd (omega (arith, kept j lj before)) ],
    )

    abbrev Near : List ℕ → List ℕ → Type 0
    Near a b = distance a b ≤ max c (slice_index near next)

    -- to the place that the next one is nearest to
    to-start : (i : ℕ) → i < length rows → R ≤ slice_index new i → IsJoined (Contains rows) Near (slice_index_or rows i []) (slice_index_or rows (h.nearest next inside open_).0 [])
    to-start i li hi =
        let p = h.nearest next inside open_ in
        let start = slice_index_or rows p.0 [] in
        let step : distance (slice_index_or rows next []) start ≤ max c (slice_index near next) = omega (arith, p.3, distance-turned start (slice_index_or rows next [])) in
        elim (reached-cases i li hi) [
          | inl same ↦ subst (λ k. IsJoined (Contains rows) Near (slice_index_or rows k []) start) (sym same)
              (joined-step (Contains rows) Near (slice_index_or rows next []) start (listed rows next inside) (listed rows p.0 p.1) step)
          | inr before ↦ joined-weaker (Contains rows) (λ a b. distance a b ≤ c) Near (λ a b r. omega arith) (slice_index_or rows i []) start (listed rows p.0 p.1) (h.chained i p.0 li p.1 before p.2)
        ]

    -- and from it
    chain : (i j : ℕ) → i < length rows → j < length rows → R ≤ slice_index new i → R ≤ slice_index new j →
        IsJoined (Contains rows) Near (slice_index_or rows i []) (slice_index_or rows j [])
    chain i j li lj hi hj =
        let p = h.nearest next inside open_ in
        let start = slice_index_or rows p.0 [] in
        let w = to-start j lj hj in
        joined-then (Contains rows) Near (slice_index_or rows i []) start (slice_index_or rows j []) (to-start i li hi)
        (joined-back (Contains rows) Near (λ a b r. omega (arith, r, distance-turned a b)) w.0 (slice_index_or rows j []) start (listed rows p.0 p.1) w.1)

    pub reached-more : IsReached rows R new (max c (slice_index near next))
    reached-more = record {
      long = many;
      below = λ i j li lj hi hj.
          let o = open-before j lj hj in
          let n = noted j o.0 lj o.1 in
          elim (reached-cases i li hi) [
            | inl same ↦ omega (arith, n, ap (λ k. distance (slice_index_or rows k []) (slice_index_or rows j [])) same)
            | inr before ↦ omega (arith, n, h.below i j li lj before o.1)
          ];
      nearest = λ j lj hj.
          let o = open-before j lj hj in
          let n = noted j o.0 lj o.1 in
          elim (cases_lt (distance (slice_index_or rows next []) (slice_index_or rows j [])) (slice_index near j)) [
            | inl less ↦ (next, inside, now, omega (arith, n))
            | inr more ↦ let p = h.nearest j lj o.1 in (p.0, p.1, kept p.0 p.1 p.2, omega (arith, n, p.3))
          ];
      chained = chain;
      least = λ c' less chained_. elim (cases_lt c' c) [
        | inl small ↦ h.least c' small chained_
        | inr more ↦
            let p = h.nearest next inside open_ in
            let walk = chained_ (slice_index_or rows p.0 []) (slice_index_or rows next []) (listed rows p.0 p.1) (listed rows next inside) in
            cross c' (omega arith) walk.0 (slice_index_or rows p.0 []) (slice_index_or rows next []) p.0 p.1 refl p.2 walk.1 refl
      ];
    }

-- ---- the end

-- where each place is reached, the number is the catenary degree
pub reached-all : (rows : List (List ℕ)) (R : ℕ) (near : List ℕ) (c : ℕ) → IsReached rows R near c → ((j : ℕ) → j < length rows → R ≤ slice_index near j) → IsCatenaryOf (Contains rows) c
reached-all rows R near c h all = record {
  chained = λ x y vx vy.
      let i = place-of rows x vx in
      let j = place-of rows y vy in
      subst (λ v. IsJoined (Contains rows) (λ a b. distance a b ≤ c) v y) i.2
      (subst (λ v. IsJoined (Contains rows) (λ a b. distance a b ≤ c) (slice_index_or rows i.0 []) v) j.2 (h.chained i.0 j.0 i.1 j.1 (all i.0 i.1) (all j.0 j.1)));
  least = h.least;
}

-- no vector needs no step
pub catenary-none : (rows : List (List ℕ)) → length rows ≡ 0 → IsCatenaryOf (Contains rows) 0
catenary-none rows none = record { chained = λ x y vx. absurd (omega (arith, vx.1)); least = λ c' l. absurd (omega arith) }

-- sets with the same vectors have the same degree
pub catenary-same : (V W : List ℕ → Type 0) (c : ℕ) → ((z : List ℕ) → V z ↔ W z) → IsCatenaryOf V c → IsCatenaryOf W c
catenary-same V W c same h = record {
  chained = λ x y wx wy. move V W c (λ z v. (same z).0 v) x y ((same y).1 wy) (h.chained x y ((same x).1 wx) ((same y).1 wy));
  least = λ c' l chained_. h.least c' l (λ x y vx vy. move W V c' (λ z w. (same z).1 w) x y ((same y).0 vy) (chained_ x y ((same x).0 vx) ((same y).0 vy)));
}
  where
    move : (P Q : List ℕ → Type 0) (d : ℕ) → ((z : List ℕ) → P z → Q z) → (x y : List ℕ) → P y → IsJoined P (λ a b. distance a b ≤ d) x y → IsJoined Q (λ a b. distance a b ≤ d) x y
    move P Q d into x y v j = joined-map P Q (λ a b. distance a b ≤ d) (λ a b. distance a b ≤ d) (λ z. z) into (λ a b m n r. r) j.0 x y v j.1

-- ---- how many places are open

abbrev pub open_count : ℕ → List ℕ → ℕ
open_count R [] = 0
open_count R (d ∷ ds) = min 1 (R - d) + open_count R ds

open-fewer_or_same : (R : ℕ) (old new : List ℕ) → length new ≡ length old → ((j : ℕ) → j < length old → R ≤ slice_index old j → R ≤ slice_index new j) → open_count R new ≤ open_count R old
open-fewer_or_same R [] [] e kept = omega arith
open-fewer_or_same R [] (d ∷ new) e kept = absurd (omega arith)
open-fewer_or_same R (d ∷ old) [] e kept = absurd (omega arith)
open-fewer_or_same R (d ∷ old) (f ∷ new) e kept =
    let rest = open-fewer_or_same R old new (omega arith) (λ j l. kept (suc j) (omega arith)) in
    elim (cases_lt d R) [
      | inl open_ ↦ omega (arith, rest)
      | inr reached ↦ omega (arith, rest, kept 0 (omega arith) reached)
    ]

-- one is reached that was open
pub open-fewer : (R : ℕ) (old new : List ℕ) (next : ℕ) → length new ≡ length old → ((j : ℕ) → j < length old → R ≤ slice_index old j → R ≤ slice_index new j) →
    next < length old → slice_index old next < R → R ≤ slice_index new next → open_count R new < open_count R old
open-fewer R [] new next e kept inside open_ now = absurd (omega arith)
open-fewer R (d ∷ old) [] next e kept inside open_ now = absurd (omega arith)
open-fewer R (d ∷ old) (f ∷ new) zero e kept inside open_ now =
    let rest = open-fewer_or_same R old new (omega arith) (λ j l. kept (suc j) (omega arith)) in
    let was : d < R = open_ in
    let is : R ≤ f = now in
    omega (arith, rest)
open-fewer R (d ∷ old) (f ∷ new) (suc next) e kept inside open_ now =
    let rest = open-fewer R old new next (omega arith) (λ j l. kept (suc j) (omega arith)) (omega arith) open_ now in
    elim (cases_lt d R) [
      | inl was ↦ omega (arith, rest)
      | inr reached ↦ omega (arith, rest, kept 0 (omega arith) reached)
    ]
