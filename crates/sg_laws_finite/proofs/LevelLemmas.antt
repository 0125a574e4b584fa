-- Lists of vectors by their first place, the greatest first.
use Rattle.std.proofs.Common.{◌≡◌, ℕ, zero, suc, ◌+◌, ◌-◌, ◌<◌, ◌≤◌, List, [], ◌∷◌, ◌++◌, length, map, refl, sym, ap, subst, ◌∙◌, inl, inr, arith}
use Rattle.std.specs.Prelude.{AllPairs, Contains}
use Rattle.std.proofs.lemmas.Bool.{cases_lt}
use Rattle.std.proofs.lemmas.List.{append_assoc, length-append, length-map}
use Rattle.std.proofs.lemmas.List.Elements.{Contains-append_left, Contains-append_right, Contains-append_cases}
use Rattle.sg_defs.specs.Vectors.{IsLexBelow}
use Rattle.sg_laws_finite.specs.Listing.{levels}
use Rattle.sg_laws_finite.proofs.ElementLemmas.{contains-nil, contains-map, from-map, pairs-nil, pairs-append, pairs-map}

-- the first vector is above the second
abbrev pub IsLexAbove : List ℕ → List ℕ → Type 0
IsLexAbove x y = IsLexBelow y x

pub levels-zero : (rest : ℕ → List (List ℕ)) → levels rest 0 ≡ []
unfolding levels
levels-zero rest = refl

pub levels-more : (rest : ℕ → List (List ℕ)) (k : ℕ) → levels rest (suc k) ≡ map (λ z. k ∷ z) (rest k) ++ levels rest k
unfolding levels
levels-more rest k = refl

-- what stands behind the first place of a listed vector
pub from-levels : (rest : ℕ → List (List ℕ)) (k : ℕ) (z : List ℕ) → Contains (levels rest k) z → (c : ℕ) × (r : List ℕ) × (c < k) × (z ≡ c ∷ r) × Contains (rest c) r
unfolding levels
from-levels rest zero z h = absurd (contains-nil z h)
from-levels rest (suc k) z h = elim (Contains-append_cases (map (λ y. k ∷ y) (rest k)) (levels rest k) z h) [
  | inl top ↦ let p = from-map (λ y. k ∷ y) (rest k) z top in (k, p.0, omega arith, p.1, p.2)
  | inr lower ↦ let p = from-levels rest k z lower in (p.0, p.1, omega (arith, p.2), p.3, p.4)
]

pub into-levels : (rest : ℕ → List (List ℕ)) (k c : ℕ) (r : List ℕ) → c < k → Contains (rest c) r → Contains (levels rest k) (c ∷ r)
unfolding levels
into-levels rest zero c r l h = absurd (omega arith)
into-levels rest (suc k) c r l h = elim (cases_lt c k) [
  | inl less ↦ Contains-append_right (map (λ y. k ∷ y) (rest k)) (levels rest k) (c ∷ r) (into-levels rest k c r less h)
  | inr more ↦
      let e : c ≡ k = omega arith in
      Contains-append_left (map (λ y. k ∷ y) (rest k)) (levels rest k) (c ∷ r)
      (subst (λ j. Contains (map (λ y. j ∷ y) (rest j)) (c ∷ r)) e (contains-map (λ y. c ∷ y) (rest c) r h))
]

pub levels-descending : (rest : ℕ → List (List ℕ)) (k : ℕ) → ((c : ℕ) → AllPairs IsLexAbove (rest c)) → AllPairs IsLexAbove (levels rest k)
unfolding levels
levels-descending rest zero p = pairs-nil IsLexAbove
levels-descending rest (suc k) p =
    pairs-append IsLexAbove (map (λ y. k ∷ y) (rest k)) (levels rest k)
    (pairs-map IsLexAbove IsLexAbove (λ y. k ∷ y) (λ x y h. inr (refl, h)) (rest k) (p k)) (levels-descending rest k p)
    (λ x y h j.
    let a = from-map (λ v. k ∷ v) (rest k) x h in
    let b = from-levels rest k y j in
    subst (λ v. IsLexBelow y v) (sym a.1) (subst (λ v. IsLexBelow v (k ∷ a.0)) (sym b.3) (inl b.2)))

-- one level is no longer than all
pub length-level : (rest : ℕ → List (List ℕ)) (k c : ℕ) → c < k → length (rest c) ≤ length (levels rest k)
unfolding levels
length-level rest zero c l = absurd (omega arith)
length-level rest (suc k) c l = elim (cases_lt c k) [
  | inl less ↦ omega (arith, length-level rest k c less, length-append (map (λ z. k ∷ z) (rest k)) (levels rest k))
  | inr more ↦
      let e : k ≡ c = omega arith in
      let f : length (rest k) ≤ length (map (λ z. k ∷ z) (rest k) ++ levels rest k) =
      omega (arith, length-append (map (λ z. k ∷ z) (rest k)) (levels rest k), length-map (rest k) (λ z. k ∷ z)) in
      subst (λ j. length (rest j) ≤ length (map (λ z. k ∷ z) (rest k) ++ levels rest k)) e f
]

-- ---- the steps of a program that lists the levels from the greatest down

-- one more level at the end of what was listed before
pub levels-step : (rest : ℕ → List (List ℕ)) (count step : ℕ) (rows new rests total : List (List ℕ)) → step < count →
    rows ++ levels rest (count - step) ≡ total → rests ≡ rest (count - 1 - step) → new ≡ rows ++ map (λ z. (count - 1 - step) ∷ z) rests →
    new ++ levels rest (count - (step + 1)) ≡ total
levels-step rest count step rows new rests total inside before is made =
    let k = count - 1 - step in
    let now : count - (step + 1) ≡ k = omega arith in
    let then : suc k ≡ count - step = omega arith in
    let level = map (λ z. k ∷ z) (rest k) in
    let a : new ≡ rows ++ level = made ∙ ap (λ zs. rows ++ map (λ z. k ∷ z) zs) is in
    let b : rows ++ levels rest (suc k) ≡ total = ap (λ j. rows ++ levels rest j) then ∙ before in
    ap (λ j. new ++ levels rest j) now ∙ ap (λ zs. zs ++ levels rest k) a ∙ append_assoc rows level (levels rest k)
    ∙ ap (λ zs. rows ++ zs) (sym (levels-more rest k)) ∙ b

-- what was listed before and one level are no more than all
pub levels-many : (rest : ℕ → List (List ℕ)) (count step b : ℕ) (rows rests total : List (List ℕ)) → step < count →
    rows ++ levels rest (count - step) ≡ total → rests ≡ rest (count - 1 - step) → b < length rows + length rests → b < length total
levels-many rest count step b rows rests total inside before is h =
    let long = length-level rest (count - step) (count - 1 - step) (omega arith) in
    omega (arith, long, ap length is, ap length before, length-append rows (levels rest (count - step)))
