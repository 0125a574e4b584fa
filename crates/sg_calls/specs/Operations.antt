-- The rows of the operators.
use Rattle.std.specs.Prelude.{◌≡◌, ℕ, ℤ, pos, ◌+ℤ◌, ◌-ℤ◌, ◌*ℤ◌, ◌≤ℤ◌, ◌<ℤ◌, [], ◌∷◌}
use Rattle.sg_defs.specs.Membership.{IsIntegerMember}
use Rattle.sg_value.specs.Data.{int}
use Rattle.sg_rows.specs.Asks.{apery_table, nothing}
use Rattle.sg_rows.specs.Order.{Plain, Case, unfit, fits}
use Rattle.sg_rows.specs.Alternatives.{or_else}
use Rattle.sg_rows.specs.Entries.{IsEntry}
use Rattle.sg_rows.specs.Forms.{on_integer_and_semigroup, on_integer_and_ideal, on_list_and_semigroup, on_two_ideals}
use Rattle.sg_rows.specs.Kinds.{given, fitted, as_integer, as_list, two_integers}
use Rattle.sg_rows.specs.Values.{answers, an_integer, whether}
use Rattle.sg_rows_ideals.specs.Rows.{generated_row, member_row, multiple_row, pair_row, translate_row}
use Rattle.sg_rows_ideals.specs.declared.pairs.Pair.TheVariants.{Difference, Sum}
use Rattle.sg_calls.specs.Remainders.{IsRemainder}
use Rattle.sg_calls.specs.declared.operator.Operator.{Operator}
use Rattle.sg_calls.specs.declared.operator.Operator.TheVariants.{Plus, Less, Times, Mod, Eq, Ne, Lt, Le, Gt, Ge, Member}

-- what the row of an operator on integers says of them
abbrev pub calculation : Operator → ℤ → ℤ → Case
calculation Plus x y = fits [] (answers (λ d. d ≡ int (x +ℤ y)))
calculation Less x y = fits [] (answers (λ d. d ≡ int (x -ℤ y)))
calculation Times x y = fits [] (answers (λ d. d ≡ int (x *ℤ y)))
calculation Mod x y = fits [] (record (answers (an_integer (IsRemainder x y))) { bad = y ≡ pos 0 })
calculation Lt x y = fits [] (answers (whether (x <ℤ y)))
calculation Le x y = fits [] (answers (whether (x ≤ℤ y)))
calculation Gt x y = fits [] (answers (whether (y <ℤ x)))
calculation Ge x y = fits [] (answers (whether (y ≤ℤ x)))
calculation _ x y = unfit

abbrev pub of_integers : Operator → Plain → Plain → Case
of_integers op a b = given (two_integers a b) (λ p. calculation op p.0 p.1)

-- whether a list has the value as an entry, or a semigroup or an ideal the integer as a member
abbrev pub membership : Plain → Plain → Case
membership a b =
    or_else (fitted (as_list b) nothing (λ ds. answers (whether (IsEntry a ds))))
    (or_else (on_integer_and_semigroup (apery_table ∷ []) a b (λ x G. answers (whether (IsIntegerMember G x)))) (on_integer_and_ideal (apery_table ∷ []) a b member_row))

-- the sums of an integer and an ideal, or the ideal that a list of integers generates over a semigroup
abbrev pub moved_or_generated : Plain → Plain → Case
moved_or_generated a b = or_else (on_integer_and_ideal (apery_table ∷ []) a b translate_row) (on_list_and_semigroup (apery_table ∷ []) a b generated_row)

-- the sum of two integers, of two ideals, of an integer and an ideal, or the ideal of a list over a semigroup
abbrev pub addition : Plain → Plain → Case
addition a b = or_else (of_integers Plus a b) (or_else (on_two_ideals (apery_table ∷ []) a b (pair_row Sum)) (moved_or_generated a b))

-- the difference of two integers, or of two ideals
abbrev pub subtraction : Plain → Plain → Case
subtraction a b = or_else (of_integers Less a b) (on_two_ideals (apery_table ∷ []) a b (pair_row Difference))

-- the product of two integers, or of an integer and an ideal
abbrev pub multiplication : Plain → Plain → Case
multiplication a b = or_else (of_integers Times a b) (on_integer_and_ideal (apery_table ∷ []) a b multiple_row)

-- what the row of an operator says of its operands, within a budget of steps that none counts yet
abbrev pub operation : ℕ → Operator → Plain → Plain → Case
operation budget Eq a b = fits [] (answers (whether (a ≡ b)))
operation budget Ne a b = fits [] (answers (whether (a ≡ b → ⊥)))
operation budget Member a b = membership a b
operation budget Plus a b = addition a b
operation budget Less a b = subtraction a b
operation budget Times a b = multiplication a b
operation budget Mod a b = of_integers Mod a b
operation budget Lt a b = of_integers Lt a b
operation budget Le a b = of_integers Le a b
operation budget Gt a b = of_integers Gt a b
operation budget Ge a b = of_integers Ge a b

-- what the row of the minus sign says of its operand
abbrev pub negation : Plain → Case
negation a = fitted (as_integer a) nothing (λ x. answers (λ d. d ≡ int (pos 0 -ℤ x)))
