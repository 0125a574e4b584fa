-- The arguments of a call over a store, where they are of the kinds that are wanted.
use Rattle.std.specs.Prelude.{ℕ, ℤ, List, Option}
use Rattle.sg_value.specs.Known.{Known, named}
use Rattle.sg_value.specs.Plain.{RelativeIdeal, plain, plain_of_all}
use Rattle.sg_value.specs.declared.value.Value.{Value}
use Rattle.sg_rows.specs.Kinds.{as_semigroup, as_ideal, one, two_semigroups, two_ideals, semigroup_and_integer, integer_then_semigroup, integer_then_ideal, list_then_semigroup}

abbrev pub the_semigroup : Known → List Value → Option (List ℕ)
the_semigroup known args = one as_semigroup (plain_of_all (named known) args)

abbrev pub the_ideal : Known → List Value → Option RelativeIdeal
the_ideal known args = one as_ideal (plain_of_all (named known) args)

-- in either order
abbrev pub the_semigroup_and_integer : Known → Value → Value → Option (List ℕ × ℤ)
the_semigroup_and_integer known a b = semigroup_and_integer (plain (named known) a) (plain (named known) b)

abbrev pub the_integer_and_semigroup : Known → Value → Value → Option (ℤ × List ℕ)
the_integer_and_semigroup known a b = integer_then_semigroup (plain (named known) a) (plain (named known) b)

abbrev pub the_semigroups : Known → Value → Value → Option (List ℕ × List ℕ)
the_semigroups known a b = two_semigroups (plain (named known) a) (plain (named known) b)

abbrev pub the_list_and_semigroup : Known → Value → Value → Option (List ℤ × List ℕ)
the_list_and_semigroup known a b = list_then_semigroup (plain (named known) a) (plain (named known) b)

abbrev pub the_integer_and_ideal : Known → Value → Value → Option (ℤ × RelativeIdeal)
the_integer_and_ideal known a b = integer_then_ideal (plain (named known) a) (plain (named known) b)

abbrev pub the_ideals : Known → Value → Value → Option (RelativeIdeal × RelativeIdeal)
the_ideals known a b = two_ideals (plain (named known) a) (plain (named known) b)
