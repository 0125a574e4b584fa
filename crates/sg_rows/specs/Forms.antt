-- Rows over the arguments of a call, by the kinds that they take. A row that takes semigroups or ideals says which
-- attributes it asks for at once: each of every semigroup, and of the ambient of every ideal, from left to right.
use Rattle.std.specs.Prelude.{ℕ, ℤ, List, [], ◌∷◌}
use Rattle.sg_value.specs.Data.{Items}
use Rattle.sg_value.specs.Plain.{Things, RelativeIdeal}
use Rattle.sg_rows.specs.Asks.{Attribute, asked_of, nothing}
use Rattle.sg_rows.specs.Order.{Plain, Row, Case}
use Rattle.sg_rows.specs.Kinds.{as_integers, as_semigroup, as_ideal, one, two, three, fitted, list_or_integers, two_integers, three_integers, two_semigroups, two_ideals, semigroup_and_integer, integer_then_semigroup, integer_then_ideal, list_then_semigroup}

-- ---- of all arguments of a call

-- one list of integers
abbrev pub of_list : Items Things → (List ℤ → Row) → Case
of_list args row = fitted (one as_integers args) nothing row

-- one list of integers, or integers
abbrev pub of_list_or_integers : Items Things → (List ℤ → Row) → Case
of_list_or_integers args row = fitted (list_or_integers args) nothing row

abbrev pub of_two_integers : Items Things → (ℤ → ℤ → Row) → Case
of_two_integers args row = fitted (two two_integers args) nothing (λ p. row p.0 p.1)

abbrev pub of_three_integers : Items Things → (ℤ → ℤ → ℤ → Row) → Case
of_three_integers args row = fitted (three three_integers args) nothing (λ p. row p.0 p.1.0 p.1.1)

abbrev pub of_semigroup : List Attribute → Items Things → (List ℕ → Row) → Case
of_semigroup letters args row = fitted (one as_semigroup args) (λ G. asked_of letters (G ∷ [])) row

-- a semigroup and an integer, in either order
abbrev pub of_semigroup_and_integer : List Attribute → Items Things → (List ℕ → ℤ → Row) → Case
of_semigroup_and_integer letters args row = fitted (two semigroup_and_integer args) (λ p. asked_of letters (p.0 ∷ [])) (λ p. row p.0 p.1)

-- a semigroup and then an integer
abbrev pub of_semigroup_then_integer : List Attribute → Items Things → (List ℕ → ℤ → Row) → Case
of_semigroup_then_integer letters args row = fitted (two (λ a b. integer_then_semigroup b a) args) (λ p. asked_of letters (p.1 ∷ [])) (λ p. row p.1 p.0)

abbrev pub of_two_semigroups : List Attribute → Items Things → (List ℕ → List ℕ → Row) → Case
of_two_semigroups letters args row = fitted (two two_semigroups args) (λ p. asked_of letters (p.0 ∷ p.1 ∷ [])) (λ p. row p.0 p.1)

abbrev pub of_ideal : List Attribute → Items Things → (RelativeIdeal → Row) → Case
of_ideal letters args row = fitted (one as_ideal args) (λ I. asked_of letters (I.ambient ∷ [])) row

abbrev pub of_two_ideals : List Attribute → Items Things → (RelativeIdeal → RelativeIdeal → Row) → Case
of_two_ideals letters args row = fitted (two two_ideals args) (λ p. asked_of letters (p.0.ambient ∷ p.1.ambient ∷ [])) (λ p. row p.0 p.1)

-- a list of integers and then a semigroup
abbrev pub of_list_then_semigroup : List Attribute → Items Things → (List ℤ → List ℕ → Row) → Case
of_list_then_semigroup letters args row = fitted (two list_then_semigroup args) (λ p. asked_of letters (p.1 ∷ [])) (λ p. row p.0 p.1)

-- ---- of two operands, in the written order

abbrev pub on_two_ideals : List Attribute → Plain → Plain → (RelativeIdeal → RelativeIdeal → Row) → Case
on_two_ideals letters a b row = fitted (two_ideals a b) (λ p. asked_of letters (p.0.ambient ∷ p.1.ambient ∷ [])) (λ p. row p.0 p.1)

-- an integer and a semigroup or an ideal
abbrev pub on_integer_and_semigroup : List Attribute → Plain → Plain → (ℤ → List ℕ → Row) → Case
on_integer_and_semigroup letters a b row = fitted (integer_then_semigroup a b) (λ p. asked_of letters (p.1 ∷ [])) (λ p. row p.0 p.1)

abbrev pub on_integer_and_ideal : List Attribute → Plain → Plain → (ℤ → RelativeIdeal → Row) → Case
on_integer_and_ideal letters a b row = fitted (integer_then_ideal a b) (λ p. asked_of letters (p.1.ambient ∷ [])) (λ p. row p.0 p.1)

-- a list of integers and a semigroup
abbrev pub on_list_and_semigroup : List Attribute → Plain → Plain → (List ℤ → List ℕ → Row) → Case
on_list_and_semigroup letters a b row = fitted (list_then_semigroup a b) (λ p. asked_of letters (p.1 ∷ [])) (λ p. row p.0 p.1)
