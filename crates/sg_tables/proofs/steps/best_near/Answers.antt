use Rattle.std.proofs.Common.{arith}
use Rattle.std.proofs.lemmas.List.Kept.{AllPairs-from_increasing}
use Rattle.sg_tables.proofs.steps.best_near.Goals as goal

pub overflow_sub-step : goal.overflow_sub-step
overflow_sub-step c = omega (arith, AllPairs-from_increasing c.args.generators.now c.requires.ascending c.args.place c.loop-next.next 0 (omega arith) (omega arith))
