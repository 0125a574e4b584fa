use Rattle.sg_value.specs.Known.{named}
use Rattle.sg_calls.proofs.families.of_length.Goals as goal

pub deliver-requires : goal.deliver-requires
deliver-requires c = (c.length_of.ensures (named c.args.ids.now)).1
