use Rattle.std.proofs.Common.{arith}
use Rattle.sg_ideal.proofs.ReduceLemmas.{least-above}
use Rattle.sg_ideal.proofs.classes.least_entry.Goals as goal

pub returns : goal.returns
returns c = least-above c.args.entries.now c.loop-entry.least c.loop-entry.entry-index c.requires c.loop-entry.invariant.listed c.loop-entry.invariant.below (omega arith)
