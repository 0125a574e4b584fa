-- Each list in a list is less deep than the list.
use Rattle.std.specs.Prelude.{◌≤◌, max, List, [], ◌∷◌}
use native.Mathlib.Omega.{arith}
use denote.Param.Weighed.{most}
use Rattle.sg_value.specs.Data.{depth_of, depth_of_all}
use Rattle.sg_value.specs.Contents.{contents, contents_of_all}
use Rattle.sg_value.specs.declared.value.Value.{Value}
use Rattle.sg_value.specs.declared.value.Value.TheVariants as V
use Rattle.sg_value.specs.declared.items.Items.TheDeep.{deep-Value}

-- a value is as deep as its contents
deep-contents : (v : Value) → deep-Value v ≤ depth_of (contents v)
deep-contents (V.Int z) = omega arith
deep-contents (V.Bool b) = omega arith
deep-contents (V.Text bs) = omega arith
deep-contents (V.List ds) = omega arith
deep-contents (V.Ratio r) = omega arith
deep-contents V.Fail = omega arith
deep-contents (V.Sem id) = omega arith
deep-contents (V.Ideal id) = omega arith

most_deep : (vs : List Value) → most deep-Value vs ≤ depth_of_all (contents_of_all vs)
most_deep [] = omega arith
most_deep (v ∷ vs) = omega (arith, deep-contents v, most_deep vs)

-- the entries are no deeper than all of them together
pub depths_fall : (vs : List Value) → max (max (most deep-Value vs) 0) 0 ≤ depth_of_all (contents_of_all vs)
depths_fall vs = omega (arith, most_deep vs)
