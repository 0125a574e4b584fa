use Rattle.std.proofs.Common.{◌<◌, [], length}
use Rattle.std.specs.Prelude.{◌≡◌}
use Rattle.sg_defs.specs.Ideals.{IsIdealMember}
use Rattle.sg_ideal.specs.Faults.{AreRefused}
use Rattle.sg_lawful.specs.Generators.{AreSmall}
use Rattle.sg_rows_ideals.proofs.Served.{generated_serves}
use Rattle.sg_rows_ideals.proofs.Serving.{settles, both_ok}
use Rattle.sg_rows_ideals.proofs.generating.generated.Goals as goal

pub returns : goal.returns
returns c =
    let G = c.args.table.now in
    let zs = c.args.given.now in
    let few = 0 < length zs in
    let made = c.of_generators.result in
    settles G (IsIdealMember G zs) (¬ AreSmall zs) (zs ≡ []) (AreSmall zs × few) (AreRefused zs) (generated_serves G zs) made c.settled.result c.settled.ensures c.of_generators.ensures.made
    (both_ok made (AreSmall zs) few c.of_generators.ensures.small c.of_generators.ensures.not_empty) c.of_generators.ensures.refused
