-- Values of rows by their kinds.
use Rattle.std.specs.Prelude.{◌≡◌, ◌↔◌, ◌+◌, ℕ, suc, ℤ, pos, Bool, IsTrue, List, [], ◌∷◌, length, map, ◌==◌, if◌then◌else◌, Option, Some, None}
use Rattle.sg_defs.specs.Membership.{Generates}
use Rattle.sg_apery.specs.Fit.{IsFit}
use Rattle.sg_value.specs.Data.{Data, int, truth, list, ratio, fail, semigroup, semigroups, items_of, Kind}
use Rattle.sg_rows.specs.Order.{Plain, Row}

-- a row that refuses nothing by itself
abbrev pub answers : (Plain → Type 0) → Row
answers value = record { size = ⊥; bad = ⊥; limit = ⊥; many = ⊥; budget = ⊥; late = []; value = value }

-- ---- single values

-- an integer of which P holds
abbrev pub an_integer : (ℤ → Type 0) → Plain → Type 0
an_integer P d = (z : ℤ) × (d ≡ int z) × P z

-- a natural of which P holds
abbrev pub a_natural : (ℕ → Type 0) → Plain → Type 0
a_natural P d = (n : ℕ) × (d ≡ int (pos n)) × P n

-- p / q in lowest terms: an integer where q is 1
abbrev pub quotient : {H : Kind → Type 0} → ℕ → ℕ → Data H
quotient p q = if q == 1 then int (pos p) else ratio p q

-- a quotient p / q of which P holds
abbrev pub a_quotient : (ℕ → ℕ → Type 0) → Plain → Type 0
a_quotient P d = (p q : ℕ) × (d ≡ quotient p q) × P p q

-- the natural, or fail where there is none
abbrev pub natural_or_fail : {H : Kind → Type 0} → Option ℕ → Data H
natural_or_fail None = fail
natural_or_fail (Some n) = int (pos n)

-- a natural or fail, of which P holds
abbrev pub a_natural_or_fail : (Option ℕ → Type 0) → Plain → Type 0
a_natural_or_fail P d = (r : Option ℕ) × (d ≡ natural_or_fail r) × P r

-- whether P holds
abbrev pub whether : Type 0 → Plain → Type 0
whether P d = (b : Bool) × (d ≡ truth b) × (IsTrue b ↔ P)

-- a row whose value is the numerical semigroup of the naturals with P; it is too large where that is not fit
abbrev pub generates : (ℕ → Type 0) → Row
generates P =
    record (answers (λ d. (G : List ℕ) × (d ≡ semigroup G) × Generates P G)) { limit = (G : List ℕ) → Generates P G → ¬ IsFit G }

-- an entry of a list of integers, which has one
abbrev pub an_entry : (ℤ → Type 0) → List ℤ → Row
an_entry P zs = record (answers (an_integer P)) { bad = zs ≡ [] }

-- ---- lists

-- these integers as a list
abbrev pub integer_list : {H : Kind → Type 0} → List ℤ → Data H
integer_list zs = list (items_of (map int zs))

-- these naturals as a list
abbrev pub natural_list : {H : Kind → Type 0} → List ℕ → Data H
natural_list ns = list (items_of (map (λ n. int (pos n)) ns))

-- these vectors of naturals as a list of lists
abbrev pub vector_list : {H : Kind → Type 0} → List (List ℕ) → Data H
vector_list vs = list (items_of (map natural_list vs))

-- the weight of these vectors in a list: each weighs 1 more than it has places
abbrev pub weight_of_vectors : List (List ℕ) → ℕ
weight_of_vectors [] = 0
weight_of_vectors (ns ∷ vs) = suc (length ns) + weight_of_vectors vs

-- these lists of vectors as a list
abbrev pub vector_lists : {H : Kind → Type 0} → List (List (List ℕ)) → Data H
vector_lists ls = list (items_of (map vector_list ls))

-- the weight of these lists of vectors in a list: each weighs 1 more than its vectors
abbrev pub weight_of_lists : List (List (List ℕ)) → ℕ
weight_of_lists [] = 0
weight_of_lists (vs ∷ ls) = suc (weight_of_vectors vs) + weight_of_lists ls

-- what stands for these semigroups, as a list
abbrev pub semigroup_list : {H : Kind → Type 0} → List (H semigroups) → Data H
semigroup_list hs = list (items_of (map semigroup hs))

-- a list of integers, of which P holds
abbrev pub integers_with : (List ℤ → Type 0) → Plain → Type 0
integers_with P d = (zs : List ℤ) × (d ≡ integer_list zs) × P zs

-- a list of naturals, of which P holds
abbrev pub naturals_with : (List ℕ → Type 0) → Plain → Type 0
naturals_with P d = (ns : List ℕ) × (d ≡ natural_list ns) × P ns

-- a list of vectors, of which P holds
abbrev pub vectors_with : (List (List ℕ) → Type 0) → Plain → Type 0
vectors_with P d = (vs : List (List ℕ)) × (d ≡ vector_list vs) × P vs

-- a list of lists of vectors, of which P holds
abbrev pub vector_lists_with : (List (List (List ℕ)) → Type 0) → Plain → Type 0
vector_lists_with P d = (ls : List (List (List ℕ))) × (d ≡ vector_lists ls) × P ls

-- a list of semigroups by their minimal lists, of which P holds
abbrev pub semigroups_with : (List (List ℕ) → Type 0) → Plain → Type 0
semigroups_with P d = (L : List (List ℕ)) × (d ≡ semigroup_list L) × P L
