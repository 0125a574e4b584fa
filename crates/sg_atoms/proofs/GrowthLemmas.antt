-- What a vector grows to, gathered place by place.
use Rattle.std.proofs.Common.{◌≡◌, ℕ, ◌+◌, ◌<◌, ◌≤◌, ℤ, pos, ◌<ℤ◌, List, [], ◌∷◌, ◌++◌, length, get_or, set, take, replicate, sym, ap, subst, ◌∙◌, inl, inr, arith}
use Rattle.std.specs.Prelude.{◌⊎◌, ◌↔◌, Contains}
use Rattle.std.proofs.lemmas.Bool.{cases_lt}
use Rattle.std.proofs.lemmas.Int.{ints}
use Rattle.std.proofs.lemmas.List.{take_more, get_or-take, length-take-le}
use Rattle.std.proofs.lemmas.List.Elements.{Contains-get_or, Contains-push, Contains-append_left, Contains-push_cases}
use Rattle.sg_defs.specs.Vectors.{plus}
use Rattle.sg_nonunique.specs.Counts.{Exceeds}
use Rattle.sg_nonunique.specs.Places.{raise, unit}
use Rattle.sg_nonunique.specs.Equations.{image_of, inner_product}
use Rattle.sg_nonunique.proofs.SumLemmas.{get_or-zeros, plus-zeros}
use Rattle.sg_nonunique.proofs.PlaceLemmas.{plus-raise}
use Rattle.sg_laws_finite.proofs.CountLemmas.{exceeds-from_listing}
use Rattle.sg_atoms.specs.Growth.{Gathers, IsFree, IsGrowth, IsGrowthAt, IsGrowthBefore, IsGrowthOf}
use Rattle.sg_atoms.specs.Matrices.{rows_of}
use Rattle.sg_atoms.specs.Sets.{AreDifferent, IsAdded}
use Rattle.sg_atoms.proofs.ProductLemmas.{solution-products}

-- a unit vector more is one more at its place
pub plus-unit : (x : List ℕ) (i : ℕ) → plus x (unit (length x) i) ≡ raise x i
plus-unit x i =
    let k = length x in
    let one : 1 ≡ get_or (replicate {A = ℕ} k 0) i 0 + 1 = omega (arith, get_or-zeros k i) in
    ap (λ n. plus x (set (replicate k 0) i n)) one ∙ plus-raise x (replicate k 0) i ∙ ap (λ v. raise v i) (plus-zeros x)

-- ---- one vector more

-- what was added is gathered, where the vector is the only one with P
pub added-gathers : (P : List ℕ → Type 0) (old new : List (List ℕ)) (v : List ℕ) → IsAdded old v new → P v → ((q : List ℕ) → P q → q ≡ v) → Gathers P old new
added-gathers P old new v (inl there) p only q = (
  (λ h. inl (subst (λ l. Contains l q) there.1 h)),
  (λ h. subst (λ l. Contains l q) (sym there.1) (elim h as (λ _. Contains old q) [ inl was ↦ was | inr r ↦ subst (Contains old) (sym (only q r)) there.0 ])),
)
added-gathers P old new v (inr fresh) p only q = (
  (λ h. elim (Contains-push_cases old v q (subst (λ l. Contains l q) fresh.1 h)) [ inl was ↦ inl was | inr e ↦ inr (subst P e p) ]),
  (λ h. subst (λ l. Contains l q) (sym fresh.1) (elim h as (λ _. Contains (old ++ v ∷ []) q) [
    | inl was ↦ Contains-append_left old (v ∷ []) q was
    | inr r ↦ subst (Contains (old ++ v ∷ [])) (sym (only q r)) (Contains-push old v)
  ])),
)

-- nothing is gathered where nothing has P
pub nothing-gathers : (P : List ℕ → Type 0) (old : List (List ℕ)) → ((q : List ℕ) → P q → ⊥) → Gathers P old old
nothing-gathers P old none q = ((λ h. inl h), (λ h. elim h [ inl was ↦ was | inr p ↦ absurd (none q p) ]))

-- a vector that has S is the one that is there to gather
pub solution-gathers : (S : List ℕ → Type 0) (old new : List (List ℕ)) (vector copy : List ℕ) → copy ≡ vector → S vector → IsAdded old copy new →
    Gathers (λ q. (q ≡ vector) × S q) old new
solution-gathers S old new vector copy is solves added =
    added-gathers (λ q. (q ≡ vector) × S q) old new copy added (is, subst S (sym is) solves) (λ q h. h.0 ∙ sym is)

-- a list of different vectors that is too long has too many
pub gathered-many : (P : List ℕ → Type 0) (old new : List (List ℕ)) (room : ℕ) → Gathers P old new → AreDifferent new → room + 1 ≤ length new →
    Exceeds (λ q. Contains old q ⊎ P q) room
gathered-many P old new room g different more =
    exceeds-from_listing (λ q. Contains old q ⊎ P q) new room (record { different = different; exactly = g }) (omega (arith, more))

-- ---- growth at a place

module _ (columns : List (List ℤ)) (atoms : List (List ℕ)) (p : List ℕ) where
  pub growth-is : (place : ℕ) (q : List ℕ) → length p ≡ length columns → IsGrowthAt columns atoms p place q → q ≡ raise p place
  growth-is place q e g = g.0.next ∙ ap (λ k. plus p (unit k place)) (sym e) ∙ plus-unit p place

  pub growth-here : (place : ℕ) → length p ≡ length columns → place < length columns →
      inner_product (image_of (rows_of columns) columns p) (get_or columns place []) <ℤ pos 0 → IsFree atoms (raise p place) → IsGrowthAt columns atoms p place (raise p place)
  growth-here place e inside back free = (
    record {
      unsolved = λ h. negative (inner_product (image_of (rows_of columns) columns p) (get_or columns place [])) (solution-products (rows_of columns) columns p (get_or columns place []) h) back;
      in_range = inside;
      next = sym (plus-unit p place) ∙ ap (λ k. plus p (unit k place)) e;
      back = back;
    },
    free,
  )
    where
      negative : (z : ℤ) → z ≡ pos 0 → z <ℤ pos 0 → ⊥
      negative z e h = omega (arith, ints, e, h)

  -- ---- place by place

  pub before-none : (q : List ℕ) → IsGrowthBefore columns atoms p 0 q → ⊥
  before-none q g = omega (arith, g.1)

  pub before-more : (old here new : List (List ℕ)) (n : ℕ) → Gathers (IsGrowthBefore columns atoms p n) old here → Gathers (IsGrowthAt columns atoms p n) here new →
      Gathers (IsGrowthBefore columns atoms p (n + 1)) old new
  before-more old here new n g h q = (
    (λ c. elim ((h q).0 c) [
      | inl was ↦ elim ((g q).0 was) [ inl first ↦ inl first | inr b ↦ inr (b.0, omega (arith, b.1), b.2) ]
      | inr now ↦ inr (n, omega arith, now)
    ]),
    (λ c. elim c [
      | inl first ↦ (h q).1 (inl ((g q).1 (inl first)))
      | inr b ↦ elim (cases_lt b.0 n) [
        | inl less ↦ (h q).1 (inl ((g q).1 (inr (b.0, less, b.2))))
        | inr more ↦ let e : b.0 ≡ n = omega (arith, more, b.1) in (h q).1 (inr (subst (λ m. IsGrowthAt columns atoms p m q) e b.2))
      ]
    ]),
  )

  pub before-all : (old new : List (List ℕ)) (n : ℕ) → length columns ≤ n → Gathers (IsGrowthBefore columns atoms p n) old new → Gathers (IsGrowth columns atoms p) old new
  before-all old new n long g q = (
    (λ c. elim ((g q).0 c) [ inl was ↦ inl was | inr b ↦ inr (b.0, b.2) ]),
    (λ c. elim c [ inl was ↦ (g q).1 (inl was) | inr b ↦ (g q).1 (inr (b.0, omega (arith, long, b.1.0.in_range), b.1)) ]),
  )

-- a set within another one has too many where it has
pub exceeds-wider : (P Q : List ℕ → Type 0) (b : ℕ) → ((q : List ℕ) → P q → Q q) → Exceeds P b → Exceeds Q b
exceeds-wider P Q b wider e = (e.0, e.1, e.2, λ k d inside. wider (get_or e.0 k d) (e.3 k d inside))

pub spent-at : (columns : List (List ℤ)) (atoms : List (List ℕ)) (p : List ℕ) (old here : List (List ℕ)) (n room : ℕ) → Gathers (IsGrowthBefore columns atoms p n) old here →
    Exceeds (λ q. Contains here q ⊎ IsGrowthAt columns atoms p n q) room → Exceeds (λ q. Contains old q ⊎ IsGrowth columns atoms p q) room
spent-at columns atoms p old here n room g = exceeds-wider (λ q. Contains here q ⊎ IsGrowthAt columns atoms p n q) (λ q. Contains old q ⊎ IsGrowth columns atoms p q) room
    (λ q c. elim c [
      | inl was ↦ elim ((g q).0 was) [ inl first ↦ inl first | inr b ↦ inr (b.0, b.2) ]
      | inr now ↦ inr (n, now)
    ])

-- a vector that leads back and is free is what there is to gather at its place
pub gathers-longer : (columns : List (List ℤ)) (atoms : List (List ℕ)) (p : List ℕ) (place : ℕ) (longer slice : List ℕ) (old new : List (List ℕ)) →
    length p ≡ length columns → place < length columns → longer ≡ raise p place → slice ≡ longer →
    inner_product (image_of (rows_of columns) columns p) (get_or columns place []) <ℤ pos 0 → IsFree atoms slice → IsAdded old longer new →
    Gathers (IsGrowthAt columns atoms p place) old new
gathers-longer columns atoms p place longer slice old new e inside is at back free added =
    let here = growth-here columns atoms p place e inside back (subst (IsFree atoms) (at ∙ is) free) in
    added-gathers (IsGrowthAt columns atoms p place) old new longer added (subst (IsGrowthAt columns atoms p place) (sym is) here)
    (λ q g. growth-is columns atoms p place q e g ∙ sym is)

-- ---- vector by vector

contains-take : {A : Type 0} (xs : List A) (n : ℕ) (x : A) → n ≤ length xs → Contains (take n xs) x → Contains xs x
contains-take xs n x l h = (h.0, omega (arith, h.1, length-take-le n xs l), sym (get_or-take n xs h.0 x (omega (arith, h.1, length-take-le n xs l))) ∙ h.2)

pub contains-nothing : (x : List ℕ) → Contains [] x → ⊥
contains-nothing x h = omega (arith, h.1)

-- the vectors in front and one more
module _ (level : List (List ℕ)) (n : ℕ) (inside : n < length level) where
  pub front-before : (x : List ℕ) → Contains (take n level) x → Contains (take (n + 1) level) x
  front-before x h = subst (λ l. Contains l x) (sym (take_more level n [] inside)) (Contains-append_left (take n level) (get_or level n [] ∷ []) x h)

  pub front-here : Contains (take (n + 1) level) (get_or level n [])
  front-here = subst (λ l. Contains l (get_or level n [])) (sym (take_more level n [] inside)) (Contains-push (take n level) (get_or level n []))

  pub front-cases : (x : List ℕ) → Contains (take (n + 1) level) x → Contains (take n level) x ⊎ (get_or level n [] ≡ x)
  front-cases x h = Contains-push_cases (take n level) (get_or level n []) x (subst (λ l. Contains l x) (take_more level n [] inside) h)

  -- what grows from one vector more
  pub growth-more : (columns : List (List ℤ)) (atoms here new : List (List ℕ)) → ((q : List ℕ) → Contains here q ↔ IsGrowthOf columns atoms (take n level) q) →
      Gathers (IsGrowth columns atoms (get_or level n [])) here new → (q : List ℕ) → Contains new q ↔ IsGrowthOf columns atoms (take (n + 1) level) q
  growth-more columns atoms here new g h q = (
    (λ c. elim ((h q).0 c) [
      | inl was ↦ let b = (g q).0 was in (b.0, front-before b.0 b.1, b.2)
      | inr now ↦ (get_or level n [], front-here, now)
    ]),
    (λ b. elim (front-cases b.0 b.1) [
      | inl was ↦ (h q).1 (inl ((g q).1 (b.0, was, b.2)))
      | inr e ↦ (h q).1 (inr (subst (λ p. IsGrowth columns atoms p q) (sym e) b.2))
    ]),
  )

  front-inside : (x : List ℕ) → Contains (take n level) x → Contains level x
  front-inside x h = contains-take level n x (omega (arith, inside)) h

  -- too many in front are too many
  pub growth-spent : (columns : List (List ℤ)) (atoms here : List (List ℕ)) (room : ℕ) → ((q : List ℕ) → Contains here q ↔ IsGrowthOf columns atoms (take n level) q) →
      Exceeds (λ q. Contains here q ⊎ IsGrowth columns atoms (get_or level n []) q) room → Exceeds (IsGrowthOf columns atoms level) room
  growth-spent columns atoms here room g = exceeds-wider (λ q. Contains here q ⊎ IsGrowth columns atoms (get_or level n []) q) (IsGrowthOf columns atoms level) room
      (λ q c. elim c [
        | inl was ↦ let b = (g q).0 was in (b.0, front-inside b.0 b.1, b.2)
        | inr now ↦ (get_or level n [], Contains-get_or level n [] inside, now)
      ])

  -- one vector more that has S or has not
  pub front-gathers : (S : List ℕ → Type 0) (old here new : List (List ℕ)) → Gathers (λ q. Contains (take n level) q × S q) old here →
      Gathers (λ q. (q ≡ get_or level n []) × S q) here new → Gathers (λ q. Contains (take (n + 1) level) q × S q) old new
  front-gathers S old here new g h q = (
    (λ c. elim ((h q).0 c) [
      | inl was ↦ elim ((g q).0 was) [ inl first ↦ inl first | inr b ↦ inr (front-before q b.0, b.1) ]
      | inr now ↦ inr (subst (Contains (take (n + 1) level)) (sym now.0) front-here, now.1)
    ]),
    (λ c. elim c [
      | inl first ↦ (h q).1 (inl ((g q).1 (inl first)))
      | inr b ↦ elim (front-cases q b.0) [
        | inl was ↦ (h q).1 (inl ((g q).1 (inr (was, b.1))))
        | inr e ↦ (h q).1 (inr (sym e, b.1))
      ]
    ]),
  )

-- before the first vector there is nothing
pub growth-none : (columns : List (List ℤ)) (atoms level : List (List ℕ)) (q : List ℕ) → Contains [] q ↔ IsGrowthOf columns atoms [] q
growth-none columns atoms level q = ((λ c. absurd (contains-nothing q c)), (λ b. absurd (contains-nothing b.0 b.1)))
