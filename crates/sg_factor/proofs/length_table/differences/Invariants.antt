use Rattle.std.proofs.Common.{◌≡◌, ◌-◌, map, take}
use Rattle.std.specs.Prelude.{slice_index}
use Rattle.sg_factor.proofs.length_table.differences.Given as goal

abbrev pub invariant-loop-generator : goal.invariant-loop-generator
invariant-loop-generator l = l.coins.items ≡ map (λ g. g - slice_index l.generators 0) (take l.generator-index l.generator-items)
