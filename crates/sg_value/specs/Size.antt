-- The weight and depth that stand beside entries.
use Rattle.std.specs.Prelude.{◌≡◌, min, ◌-◌, ◌^◌}
use Rattle.sg_value.specs.Data.{weight_of_all, depth_of_all}
use Rattle.sg_value.specs.Contents.{contents_of_all}
use Rattle.sg_value.specs.declared.items.Node.{Node}

-- they are those of the entries, 2^64 - 1 where they are more
pub record IsMeasured (n : Node) : Type 0 where
  pub weight : n.weight ≡ min (weight_of_all (contents_of_all n.entries.items)) (2 ^ 64 - 1)
  pub depth : n.depth ≡ min (depth_of_all (contents_of_all n.entries.items)) (2 ^ 64 - 1)
