-- A value as plain data, with the places of its things.
use Rattle.std.specs.Prelude.{List, map}
use Rattle.sg_value.specs.Data.{int, truth, text, list, ratio, fail, semigroup, ideal, Items, items_of}
use Rattle.sg_value.specs.Places.{Places, Stored}
use Rattle.sg_value.specs.declared.value.Value.{Value}
use Rattle.sg_value.specs.declared.value.Value.TheVariants as V

-- a list is seen as its entries' data
abbrev pub contents : Value → Stored
contents (V.Int z) = int z
contents (V.Bool b) = truth b
contents (V.Text bs) = text bs.value
contents (V.List ds) = list ds
contents (V.Ratio r) = ratio r.num r.den
contents V.Fail = fail
contents (V.Sem id) = semigroup id
contents (V.Ideal id) = ideal id

abbrev pub contents_of_all : List Value → Items Places
contents_of_all vs = items_of (map contents vs)
