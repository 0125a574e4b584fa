use Rattle.std.proofs.Common.{◌-ℤ◌}
use Rattle.sg_rows_ideals.proofs.Reaching.{above_entry, distance}
use Rattle.sg_rows_ideals.proofs.membership.is_above.Goals as goal

pub returns : goal.returns
returns c =
    above_entry c.args.table.now c.apery-entries.result.now c.abs_diff-distance.result (c.args.x -ℤ c.args.generator) c.apery-entries.ensures.semigroup c.apery-entries.ensures.entries c.apery-entries.ensures.apery
    (distance c.args.x c.args.generator c.abs_diff-distance.result c.ranges.x c.ranges.generator c.if-x-generator.false c.abs_diff-distance.ensures)
