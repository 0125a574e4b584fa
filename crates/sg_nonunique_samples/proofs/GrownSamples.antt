-- Nothing else grows, for the vectors [2] and [3].
use Rattle.std.proofs.Common.{◌≡◌, ℕ, zero, suc, ◌<◌, List, [], ◌∷◌, get_or, refl, sym, subst, inl, inr, arith}
use Rattle.std.specs.Prelude.{pos, ◌<ℤ◌, ⊤, All, AllPairs, Contains, slice_index_or}
use Rattle.std.proofs.lemmas.Int.{ints}
use Rattle.std.proofs.lemmas.List.Elements.{All-nil, All-cons, All-contains}
use Rattle.std.proofs.lemmas.List.Kept.{AllPairs-cons}
use Rattle.sg_defs.specs.Vectors.{plus, IsLexBelow, ListsAscending}
use Rattle.sg_nonunique.specs.Equations.{image_of, inner_product, pair_columns, GrowsTo, IsGrown}
use Rattle.sg_nonunique.specs.Places.{unit}
use Rattle.sg_nonunique.specs.Walks.{IsWalk}
use Rattle.sg_nonunique.proofs.OrderLemmas.{lex-then}
use Rattle.sg_laws_finite.proofs.ElementLemmas.{pairs-nil}
use Rattle.sg_nonunique_samples.proofs.EquationSamples.{columns, solves}
use Rattle.sg_nonunique_samples.proofs.GrownPairs.{pairs, not_free, all-grown, IsFree}

-- what a step from p leads to is one of the pairs
abbrev StaysAt : List ℕ → Type 0
StaysAt p = (q : List ℕ) → GrowsTo 1 columns p q → Contains pairs q

after-0001 : StaysAt (0 ∷ 0 ∷ 0 ∷ 1 ∷ [])
after-0001 q g = at g.place g.in_range g.next g.back g.free
  where
    at : (k : ℕ) → k < 4 → q ≡ plus (0 ∷ 0 ∷ 0 ∷ 1 ∷ []) (unit 4 k) → inner_product (image_of 1 columns (0 ∷ 0 ∷ 0 ∷ 1 ∷ [])) (slice_index_or columns k []) <ℤ pos 0 → IsFree q → Contains pairs q
    at zero l e back free = subst (Contains pairs) (sym e) (9, omega arith, refl)
    at (suc zero) l e back free = subst (Contains pairs) (sym e) (3, omega arith, refl)
    at (suc (suc zero)) l e back free = absurd (omega (arith, ints, back))
    at (suc (suc (suc zero))) l e back free = absurd (omega (arith, ints, back))
    at (suc (suc (suc (suc k)))) l e back free = absurd (omega arith)

after-0010 : StaysAt (0 ∷ 0 ∷ 1 ∷ 0 ∷ [])
after-0010 q g = at g.place g.in_range g.next g.back g.free
  where
    at : (k : ℕ) → k < 4 → q ≡ plus (0 ∷ 0 ∷ 1 ∷ 0 ∷ []) (unit 4 k) → inner_product (image_of 1 columns (0 ∷ 0 ∷ 1 ∷ 0 ∷ [])) (slice_index_or columns k []) <ℤ pos 0 → IsFree q → Contains pairs q
    at zero l e back free = subst (Contains pairs) (sym e) (10, omega arith, refl)
    at (suc zero) l e back free = subst (Contains pairs) (sym e) (4, omega arith, refl)
    at (suc (suc zero)) l e back free = absurd (omega (arith, ints, back))
    at (suc (suc (suc zero))) l e back free = absurd (omega (arith, ints, back))
    at (suc (suc (suc (suc k)))) l e back free = absurd (omega arith)

after-0100 : StaysAt (0 ∷ 1 ∷ 0 ∷ 0 ∷ [])
after-0100 q g = at g.place g.in_range g.next g.back g.free
  where
    at : (k : ℕ) → k < 4 → q ≡ plus (0 ∷ 1 ∷ 0 ∷ 0 ∷ []) (unit 4 k) → inner_product (image_of 1 columns (0 ∷ 1 ∷ 0 ∷ 0 ∷ [])) (slice_index_or columns k []) <ℤ pos 0 → IsFree q → Contains pairs q
    at zero l e back free = absurd (omega (arith, ints, back))
    at (suc zero) l e back free = absurd (omega (arith, ints, back))
    at (suc (suc zero)) l e back free = subst (Contains pairs) (sym e) (4, omega arith, refl)
    at (suc (suc (suc zero))) l e back free = subst (Contains pairs) (sym e) (3, omega arith, refl)
    at (suc (suc (suc (suc k)))) l e back free = absurd (omega arith)

after-0101 : StaysAt (0 ∷ 1 ∷ 0 ∷ 1 ∷ [])
after-0101 q g = absurd (g.unsolved (solves 0 1 0 1 refl))

after-0110 : StaysAt (0 ∷ 1 ∷ 1 ∷ 0 ∷ [])
after-0110 q g = at g.place g.in_range g.next g.back g.free
  where
    at : (k : ℕ) → k < 4 → q ≡ plus (0 ∷ 1 ∷ 1 ∷ 0 ∷ []) (unit 4 k) → inner_product (image_of 1 columns (0 ∷ 1 ∷ 1 ∷ 0 ∷ [])) (slice_index_or columns k []) <ℤ pos 0 → IsFree q → Contains pairs q
    at zero l e back free = absurd (omega (arith, ints, back))
    at (suc zero) l e back free = absurd (omega (arith, ints, back))
    at (suc (suc zero)) l e back free = subst (Contains pairs) (sym e) (5, omega arith, refl)
    at (suc (suc (suc zero))) l e back free = absurd (not_free 0 1 1 1 0 1 0 1 q e (omega arith) (omega arith) (omega arith) (omega arith) (omega arith) refl (omega arith) free)
    at (suc (suc (suc (suc k)))) l e back free = absurd (omega arith)

after-0120 : StaysAt (0 ∷ 1 ∷ 2 ∷ 0 ∷ [])
after-0120 q g = at g.place g.in_range g.next g.back g.free
  where
    at : (k : ℕ) → k < 4 → q ≡ plus (0 ∷ 1 ∷ 2 ∷ 0 ∷ []) (unit 4 k) → inner_product (image_of 1 columns (0 ∷ 1 ∷ 2 ∷ 0 ∷ [])) (slice_index_or columns k []) <ℤ pos 0 → IsFree q → Contains pairs q
    at zero l e back free = absurd (not_free 1 1 2 0 1 0 1 0 q e (omega arith) (omega arith) (omega arith) (omega arith) (omega arith) refl (omega arith) free)
    at (suc zero) l e back free = subst (Contains pairs) (sym e) (6, omega arith, refl)
    at (suc (suc zero)) l e back free = absurd (omega (arith, ints, back))
    at (suc (suc (suc zero))) l e back free = absurd (omega (arith, ints, back))
    at (suc (suc (suc (suc k)))) l e back free = absurd (omega arith)

after-0220 : StaysAt (0 ∷ 2 ∷ 2 ∷ 0 ∷ [])
after-0220 q g = at g.place g.in_range g.next g.back g.free
  where
    at : (k : ℕ) → k < 4 → q ≡ plus (0 ∷ 2 ∷ 2 ∷ 0 ∷ []) (unit 4 k) → inner_product (image_of 1 columns (0 ∷ 2 ∷ 2 ∷ 0 ∷ [])) (slice_index_or columns k []) <ℤ pos 0 → IsFree q → Contains pairs q
    at zero l e back free = absurd (omega (arith, ints, back))
    at (suc zero) l e back free = absurd (omega (arith, ints, back))
    at (suc (suc zero)) l e back free = subst (Contains pairs) (sym e) (7, omega arith, refl)
    at (suc (suc (suc zero))) l e back free = absurd (not_free 0 2 2 1 0 1 0 1 q e (omega arith) (omega arith) (omega arith) (omega arith) (omega arith) refl (omega arith) free)
    at (suc (suc (suc (suc k)))) l e back free = absurd (omega arith)

after-0230 : StaysAt (0 ∷ 2 ∷ 3 ∷ 0 ∷ [])
after-0230 q g = absurd (g.unsolved (solves 0 2 3 0 refl))

after-1000 : StaysAt (1 ∷ 0 ∷ 0 ∷ 0 ∷ [])
after-1000 q g = at g.place g.in_range g.next g.back g.free
  where
    at : (k : ℕ) → k < 4 → q ≡ plus (1 ∷ 0 ∷ 0 ∷ 0 ∷ []) (unit 4 k) → inner_product (image_of 1 columns (1 ∷ 0 ∷ 0 ∷ 0 ∷ [])) (slice_index_or columns k []) <ℤ pos 0 → IsFree q → Contains pairs q
    at zero l e back free = absurd (omega (arith, ints, back))
    at (suc zero) l e back free = absurd (omega (arith, ints, back))
    at (suc (suc zero)) l e back free = subst (Contains pairs) (sym e) (10, omega arith, refl)
    at (suc (suc (suc zero))) l e back free = subst (Contains pairs) (sym e) (9, omega arith, refl)
    at (suc (suc (suc (suc k)))) l e back free = absurd (omega arith)

after-1001 : StaysAt (1 ∷ 0 ∷ 0 ∷ 1 ∷ [])
after-1001 q g = at g.place g.in_range g.next g.back g.free
  where
    at : (k : ℕ) → k < 4 → q ≡ plus (1 ∷ 0 ∷ 0 ∷ 1 ∷ []) (unit 4 k) → inner_product (image_of 1 columns (1 ∷ 0 ∷ 0 ∷ 1 ∷ [])) (slice_index_or columns k []) <ℤ pos 0 → IsFree q → Contains pairs q
    at zero l e back free = subst (Contains pairs) (sym e) (11, omega arith, refl)
    at (suc zero) l e back free = absurd (not_free 1 1 0 1 0 1 0 1 q e (omega arith) (omega arith) (omega arith) (omega arith) (omega arith) refl (omega arith) free)
    at (suc (suc zero)) l e back free = absurd (omega (arith, ints, back))
    at (suc (suc (suc zero))) l e back free = absurd (omega (arith, ints, back))
    at (suc (suc (suc (suc k)))) l e back free = absurd (omega arith)

after-1010 : StaysAt (1 ∷ 0 ∷ 1 ∷ 0 ∷ [])
after-1010 q g = absurd (g.unsolved (solves 1 0 1 0 refl))

after-2001 : StaysAt (2 ∷ 0 ∷ 0 ∷ 1 ∷ [])
after-2001 q g = at g.place g.in_range g.next g.back g.free
  where
    at : (k : ℕ) → k < 4 → q ≡ plus (2 ∷ 0 ∷ 0 ∷ 1 ∷ []) (unit 4 k) → inner_product (image_of 1 columns (2 ∷ 0 ∷ 0 ∷ 1 ∷ [])) (slice_index_or columns k []) <ℤ pos 0 → IsFree q → Contains pairs q
    at zero l e back free = absurd (omega (arith, ints, back))
    at (suc zero) l e back free = absurd (omega (arith, ints, back))
    at (suc (suc zero)) l e back free = absurd (not_free 2 0 1 1 1 0 1 0 q e (omega arith) (omega arith) (omega arith) (omega arith) (omega arith) refl (omega arith) free)
    at (suc (suc (suc zero))) l e back free = subst (Contains pairs) (sym e) (12, omega arith, refl)
    at (suc (suc (suc (suc k)))) l e back free = absurd (omega arith)

after-2002 : StaysAt (2 ∷ 0 ∷ 0 ∷ 2 ∷ [])
after-2002 q g = at g.place g.in_range g.next g.back g.free
  where
    at : (k : ℕ) → k < 4 → q ≡ plus (2 ∷ 0 ∷ 0 ∷ 2 ∷ []) (unit 4 k) → inner_product (image_of 1 columns (2 ∷ 0 ∷ 0 ∷ 2 ∷ [])) (slice_index_or columns k []) <ℤ pos 0 → IsFree q → Contains pairs q
    at zero l e back free = subst (Contains pairs) (sym e) (13, omega arith, refl)
    at (suc zero) l e back free = absurd (not_free 2 1 0 2 0 1 0 1 q e (omega arith) (omega arith) (omega arith) (omega arith) (omega arith) refl (omega arith) free)
    at (suc (suc zero)) l e back free = absurd (omega (arith, ints, back))
    at (suc (suc (suc zero))) l e back free = absurd (omega (arith, ints, back))
    at (suc (suc (suc (suc k)))) l e back free = absurd (omega arith)

after-3002 : StaysAt (3 ∷ 0 ∷ 0 ∷ 2 ∷ [])
after-3002 q g = absurd (g.unsolved (solves 3 0 0 2 refl))

all-stay : All StaysAt pairs
all-stay = All-cons StaysAt (0 ∷ 0 ∷ 0 ∷ 1 ∷ []) ((0 ∷ 0 ∷ 1 ∷ 0 ∷ []) ∷ (0 ∷ 1 ∷ 0 ∷ 0 ∷ []) ∷ (0 ∷ 1 ∷ 0 ∷ 1 ∷ []) ∷ (0 ∷ 1 ∷ 1 ∷ 0 ∷ []) ∷ (0 ∷ 1 ∷ 2 ∷ 0 ∷ []) ∷ (0 ∷ 2 ∷ 2 ∷ 0 ∷ []) ∷ (0 ∷ 2 ∷ 3 ∷ 0 ∷ []) ∷ (1 ∷ 0 ∷ 0 ∷ 0 ∷ []) ∷ (1 ∷ 0 ∷ 0 ∷ 1 ∷ []) ∷ (1 ∷ 0 ∷ 1 ∷ 0 ∷ []) ∷ (2 ∷ 0 ∷ 0 ∷ 1 ∷ []) ∷ (2 ∷ 0 ∷ 0 ∷ 2 ∷ []) ∷ (3 ∷ 0 ∷ 0 ∷ 2 ∷ []) ∷ []) after-0001
    (All-cons StaysAt (0 ∷ 0 ∷ 1 ∷ 0 ∷ []) ((0 ∷ 1 ∷ 0 ∷ 0 ∷ []) ∷ (0 ∷ 1 ∷ 0 ∷ 1 ∷ []) ∷ (0 ∷ 1 ∷ 1 ∷ 0 ∷ []) ∷ (0 ∷ 1 ∷ 2 ∷ 0 ∷ []) ∷ (0 ∷ 2 ∷ 2 ∷ 0 ∷ []) ∷ (0 ∷ 2 ∷ 3 ∷ 0 ∷ []) ∷ (1 ∷ 0 ∷ 0 ∷ 0 ∷ []) ∷ (1 ∷ 0 ∷ 0 ∷ 1 ∷ []) ∷ (1 ∷ 0 ∷ 1 ∷ 0 ∷ []) ∷ (2 ∷ 0 ∷ 0 ∷ 1 ∷ []) ∷ (2 ∷ 0 ∷ 0 ∷ 2 ∷ []) ∷ (3 ∷ 0 ∷ 0 ∷ 2 ∷ []) ∷ []) after-0010
    (All-cons StaysAt (0 ∷ 1 ∷ 0 ∷ 0 ∷ []) ((0 ∷ 1 ∷ 0 ∷ 1 ∷ []) ∷ (0 ∷ 1 ∷ 1 ∷ 0 ∷ []) ∷ (0 ∷ 1 ∷ 2 ∷ 0 ∷ []) ∷ (0 ∷ 2 ∷ 2 ∷ 0 ∷ []) ∷ (0 ∷ 2 ∷ 3 ∷ 0 ∷ []) ∷ (1 ∷ 0 ∷ 0 ∷ 0 ∷ []) ∷ (1 ∷ 0 ∷ 0 ∷ 1 ∷ []) ∷ (1 ∷ 0 ∷ 1 ∷ 0 ∷ []) ∷ (2 ∷ 0 ∷ 0 ∷ 1 ∷ []) ∷ (2 ∷ 0 ∷ 0 ∷ 2 ∷ []) ∷ (3 ∷ 0 ∷ 0 ∷ 2 ∷ []) ∷ []) after-0100
    (All-cons StaysAt (0 ∷ 1 ∷ 0 ∷ 1 ∷ []) ((0 ∷ 1 ∷ 1 ∷ 0 ∷ []) ∷ (0 ∷ 1 ∷ 2 ∷ 0 ∷ []) ∷ (0 ∷ 2 ∷ 2 ∷ 0 ∷ []) ∷ (0 ∷ 2 ∷ 3 ∷ 0 ∷ []) ∷ (1 ∷ 0 ∷ 0 ∷ 0 ∷ []) ∷ (1 ∷ 0 ∷ 0 ∷ 1 ∷ []) ∷ (1 ∷ 0 ∷ 1 ∷ 0 ∷ []) ∷ (2 ∷ 0 ∷ 0 ∷ 1 ∷ []) ∷ (2 ∷ 0 ∷ 0 ∷ 2 ∷ []) ∷ (3 ∷ 0 ∷ 0 ∷ 2 ∷ []) ∷ []) after-0101
    (All-cons StaysAt (0 ∷ 1 ∷ 1 ∷ 0 ∷ []) ((0 ∷ 1 ∷ 2 ∷ 0 ∷ []) ∷ (0 ∷ 2 ∷ 2 ∷ 0 ∷ []) ∷ (0 ∷ 2 ∷ 3 ∷ 0 ∷ []) ∷ (1 ∷ 0 ∷ 0 ∷ 0 ∷ []) ∷ (1 ∷ 0 ∷ 0 ∷ 1 ∷ []) ∷ (1 ∷ 0 ∷ 1 ∷ 0 ∷ []) ∷ (2 ∷ 0 ∷ 0 ∷ 1 ∷ []) ∷ (2 ∷ 0 ∷ 0 ∷ 2 ∷ []) ∷ (3 ∷ 0 ∷ 0 ∷ 2 ∷ []) ∷ []) after-0110
    (All-cons StaysAt (0 ∷ 1 ∷ 2 ∷ 0 ∷ []) ((0 ∷ 2 ∷ 2 ∷ 0 ∷ []) ∷ (0 ∷ 2 ∷ 3 ∷ 0 ∷ []) ∷ (1 ∷ 0 ∷ 0 ∷ 0 ∷ []) ∷ (1 ∷ 0 ∷ 0 ∷ 1 ∷ []) ∷ (1 ∷ 0 ∷ 1 ∷ 0 ∷ []) ∷ (2 ∷ 0 ∷ 0 ∷ 1 ∷ []) ∷ (2 ∷ 0 ∷ 0 ∷ 2 ∷ []) ∷ (3 ∷ 0 ∷ 0 ∷ 2 ∷ []) ∷ []) after-0120
    (All-cons StaysAt (0 ∷ 2 ∷ 2 ∷ 0 ∷ []) ((0 ∷ 2 ∷ 3 ∷ 0 ∷ []) ∷ (1 ∷ 0 ∷ 0 ∷ 0 ∷ []) ∷ (1 ∷ 0 ∷ 0 ∷ 1 ∷ []) ∷ (1 ∷ 0 ∷ 1 ∷ 0 ∷ []) ∷ (2 ∷ 0 ∷ 0 ∷ 1 ∷ []) ∷ (2 ∷ 0 ∷ 0 ∷ 2 ∷ []) ∷ (3 ∷ 0 ∷ 0 ∷ 2 ∷ []) ∷ []) after-0220
    (All-cons StaysAt (0 ∷ 2 ∷ 3 ∷ 0 ∷ []) ((1 ∷ 0 ∷ 0 ∷ 0 ∷ []) ∷ (1 ∷ 0 ∷ 0 ∷ 1 ∷ []) ∷ (1 ∷ 0 ∷ 1 ∷ 0 ∷ []) ∷ (2 ∷ 0 ∷ 0 ∷ 1 ∷ []) ∷ (2 ∷ 0 ∷ 0 ∷ 2 ∷ []) ∷ (3 ∷ 0 ∷ 0 ∷ 2 ∷ []) ∷ []) after-0230
    (All-cons StaysAt (1 ∷ 0 ∷ 0 ∷ 0 ∷ []) ((1 ∷ 0 ∷ 0 ∷ 1 ∷ []) ∷ (1 ∷ 0 ∷ 1 ∷ 0 ∷ []) ∷ (2 ∷ 0 ∷ 0 ∷ 1 ∷ []) ∷ (2 ∷ 0 ∷ 0 ∷ 2 ∷ []) ∷ (3 ∷ 0 ∷ 0 ∷ 2 ∷ []) ∷ []) after-1000
    (All-cons StaysAt (1 ∷ 0 ∷ 0 ∷ 1 ∷ []) ((1 ∷ 0 ∷ 1 ∷ 0 ∷ []) ∷ (2 ∷ 0 ∷ 0 ∷ 1 ∷ []) ∷ (2 ∷ 0 ∷ 0 ∷ 2 ∷ []) ∷ (3 ∷ 0 ∷ 0 ∷ 2 ∷ []) ∷ []) after-1001
    (All-cons StaysAt (1 ∷ 0 ∷ 1 ∷ 0 ∷ []) ((2 ∷ 0 ∷ 0 ∷ 1 ∷ []) ∷ (2 ∷ 0 ∷ 0 ∷ 2 ∷ []) ∷ (3 ∷ 0 ∷ 0 ∷ 2 ∷ []) ∷ []) after-1010
    (All-cons StaysAt (2 ∷ 0 ∷ 0 ∷ 1 ∷ []) ((2 ∷ 0 ∷ 0 ∷ 2 ∷ []) ∷ (3 ∷ 0 ∷ 0 ∷ 2 ∷ []) ∷ []) after-2001
    (All-cons StaysAt (2 ∷ 0 ∷ 0 ∷ 2 ∷ []) ((3 ∷ 0 ∷ 0 ∷ 2 ∷ []) ∷ []) after-2002
    (All-cons StaysAt (3 ∷ 0 ∷ 0 ∷ 2 ∷ []) ([]) after-3002
    (All-nil StaysAt))))))))))))))

walk-stays : (ps : List (List ℕ)) (x y : List ℕ) → Contains pairs x → IsWalk (λ _. ⊤) (GrowsTo 1 columns) x ps y → Contains pairs y
walk-stays [] x y c w = subst (Contains pairs) w.1 c
walk-stays (p ∷ ps) x y c w = walk-stays ps p y (All-contains StaysAt pairs x all-stay c p w.1) w.2

unit-listed : (j : ℕ) → j < 4 → Contains pairs (unit 4 j)
unit-listed zero l = (8, omega arith, refl)
unit-listed (suc zero) l = (2, omega arith, refl)
unit-listed (suc (suc zero)) l = (1, omega arith, refl)
unit-listed (suc (suc (suc zero))) l = (0, omega arith, refl)
unit-listed (suc (suc (suc (suc j)))) l = absurd (omega arith)

-- ---- their order

-- each is below the next
abbrev Climbs : List ℕ → List (List ℕ) → Type 0
Climbs x [] = ⊤
Climbs x (y ∷ ys) = IsLexBelow x y × Climbs y ys

first-below : (x : List ℕ) (ys : List (List ℕ)) → Climbs x ys → All (IsLexBelow x) ys
first-below x [] h = All-nil (IsLexBelow x)
first-below x (y ∷ ys) h = All-cons (IsLexBelow x) y ys h.0 (λ k d l. lex-then x y (get_or ys k d) h.0 (first-below y ys h.1 k d l))

ascends : (x : List ℕ) (ys : List (List ℕ)) → Climbs x ys → AllPairs IsLexBelow (x ∷ ys)
ascends x [] h = AllPairs-cons IsLexBelow x [] (All-nil (IsLexBelow x)) (pairs-nil IsLexBelow)
ascends x (y ∷ ys) h = AllPairs-cons IsLexBelow x (y ∷ ys) (first-below x (y ∷ ys) h) (ascends y ys h.1)

pub grown-pairs : ListsAscending (IsGrown 1 (pair_columns ((2 ∷ []) ∷ (3 ∷ []) ∷ []))) pairs
grown-pairs = record {
  ascending = ascends (0 ∷ 0 ∷ 0 ∷ 1 ∷ []) ((0 ∷ 0 ∷ 1 ∷ 0 ∷ []) ∷ (0 ∷ 1 ∷ 0 ∷ 0 ∷ []) ∷ (0 ∷ 1 ∷ 0 ∷ 1 ∷ []) ∷ (0 ∷ 1 ∷ 1 ∷ 0 ∷ []) ∷ (0 ∷ 1 ∷ 2 ∷ 0 ∷ []) ∷ (0 ∷ 2 ∷ 2 ∷ 0 ∷ []) ∷ (0 ∷ 2 ∷ 3 ∷ 0 ∷ []) ∷ (1 ∷ 0 ∷ 0 ∷ 0 ∷ []) ∷ (1 ∷ 0 ∷ 0 ∷ 1 ∷ []) ∷ (1 ∷ 0 ∷ 1 ∷ 0 ∷ []) ∷ (2 ∷ 0 ∷ 0 ∷ 1 ∷ []) ∷ (2 ∷ 0 ∷ 0 ∷ 2 ∷ []) ∷ (3 ∷ 0 ∷ 0 ∷ 2 ∷ []) ∷ [])
      (inr (refl, inr (refl, inl (omega arith))), (inr (refl, inl (omega arith)), (inr (refl, inr (refl, inr (refl, inl (omega arith)))), (inr (refl, inr (refl, inl (omega arith))), (inr (refl, inr (refl, inl (omega arith))), (inr (refl, inl (omega arith)), (inr (refl, inr (refl, inl (omega arith))), (inl (omega arith), (inr (refl, inr (refl, inr (refl, inl (omega arith)))), (inr (refl, inr (refl, inl (omega arith))), (inl (omega arith), (inr (refl, inr (refl, inr (refl, inl (omega arith)))), (inl (omega arith), tt)))))))))))));
  exactly = λ p. ((λ c. All-contains (IsGrown 1 columns) pairs p all-grown c), (λ g. walk-stays g.2.0 (unit 4 g.0) p (unit-listed g.0 g.1) g.2.1));
}
