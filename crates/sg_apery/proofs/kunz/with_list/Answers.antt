use Rattle.sg_classes.proofs.KunzLemmas.{kunz-minimal_table}
use Rattle.sg_apery.proofs.kunz.with_list.Goals as goal

pub from_parts-requires : goal.from_parts-requires
from_parts-requires c =
    rw c.in_ok-apery.ensures.items
    (kunz-minimal_table c.args.list.now c.args.generators c.requires.kunz c.requires.generated c.requires.fit c.requires.multiplicity)
