use Rattle.sg_classes.proofs.KunzLemmas.{member-made}
use Rattle.sg_tables.proofs.ClosedLemmas.{class-positive}
use Rattle.sg_tables.proofs.kunz.is_kunz_by.Goals as goal

pub needed_part-requires-clause-positive : goal.needed_part-requires-clause-positive
needed_part-requires-clause-positive c = class-positive c.args.list.now c.args.generators.now c.requires.classes c.requires.generators

pub needed_part-requires-clause-made : goal.needed_part-requires-clause-made
needed_part-requires-clause-made c = member-made c.args.list.now c.args.generators.now c.requires.classes c.requires.generators.keeps
