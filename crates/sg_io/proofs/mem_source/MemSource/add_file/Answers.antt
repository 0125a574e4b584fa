use Rattle.std.proofs.Common.{None, is_ok}
use Rattle.sg_io.proofs.Found.{input_named-grown}
use Rattle.sg_io.proofs.mem_source.MemSource.add_file.Goals as goal

pub invariant_of-self-clause-has_standard : goal.invariant_of-self-clause-has_standard
invariant_of-self-clause-has_standard c =
    input_named-grown None (is_ok c.push.result) c.args.self.now.listed.items _ c.push.new.self.items c.push.ensures.items c.args.self.now.has_standard
