-- What rows make, before it is in any store, and what rows tell.
use Rattle.std.specs.Prelude.{◌<◌, ◌^◌, ℕ, pos, List, All, EachIndex, slice_index, Result, Ok, Err, ⊤}
use Rattle.sg_lawful.specs.Lawful.{IsLawfulList, IsLawfulIdeal}
use Rattle.sg_value.specs.Data.{int, truth, ratio, fail, semigroup, ideal}
use Rattle.sg_rows.specs.Order.{Plain, Row, IsReplyOf, Passes}
use Rattle.sg_rows.specs.Values.{integer_list, natural_list, semigroup_list, vector_list, vector_lists}
use Rattle.sg_rows.specs.declared.fault.CallFault.{CallFault}
use Rattle.sg_rows.specs.declared.fault.CallFault.TheVariants.{Script, Memory}
use Rattle.sg_rows.specs.declared.made.Made.{Made}
use Rattle.sg_rows.specs.declared.made.Made.TheVariants.{Integer, Natural, Truth, Ratio, Fail, Integers, Naturals, Vectors, VectorLists, Semigroup, Semigroups, Ideal}

-- the plain value that was made
abbrev pub datum : Made → Plain
datum (Integer z) = int z
datum (Natural n) = int (pos n)
datum (Truth b) = truth b
datum (Ratio r) = ratio r.num r.den
datum Fail = fail
datum (Integers zs) = integer_list zs
datum (Naturals ns) = natural_list ns
datum (Vectors vs) = vector_list vs
datum (VectorLists ls) = vector_lists ls
datum (Semigroup G) = semigroup G
datum (Semigroups L) = semigroup_list L
datum (Ideal G I) = ideal (record { ambient = G; generators = I })

-- each natural is below 2^63
abbrev pub AreWithinBits : List ℕ → Type 0
AreWithinBits ns = EachIndex ns (λ k. slice_index ns k < 2 ^ 63)

-- naturals are below 2^63, and semigroups and ideals such as a store takes
abbrev pub IsSound : Made → Type 0
IsSound (Natural n) = n < 2 ^ 63
IsSound (Naturals ns) = AreWithinBits ns
IsSound (Vectors vs) = All AreWithinBits vs
IsSound (VectorLists ls) = All (All AreWithinBits) ls
IsSound (Semigroup G) = IsLawfulList G
IsSound (Semigroups L) = All IsLawfulList L
IsSound (Ideal G I) = IsLawfulIdeal G I
IsSound _ = ⊤

-- the row refuses nothing by itself, and this is its value
pub record Gives (row : Row) (d : Plain) : Type 0 where
  pub passes : Passes row
  pub value : row.value d

-- a function told the row's value, or its first refusal
abbrev pub Tells : Result Made CallFault → Row → Type 0
Tells (Ok m) row = Gives row (datum m) × IsSound m
Tells (Err (Script e)) row = IsReplyOf row (Err e)
Tells (Err (Memory e)) row = ⊤
