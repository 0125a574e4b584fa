use Rattle.std.proofs.Common.{arith}
use Rattle.sg_tables.proofs.FoundLemmas.{needless-entry, needless-summand}
use Rattle.sg_tables.proofs.sources.least_needed.Goals as goal

pub returns-then-summands-from-eq0 : goal.returns-then-summands-from-eq0
returns-then-summands-from-eq0 c = λ G f g listed some less fits.
    needless-entry G c.args.table.now c.args.summands.now f c.args.from c.requires.after c.requires.from c.if-summands-from-eq0.true g listed some less fits

pub returns-else-summands-from-eq0 : goal.returns-else-summands-from-eq0
returns-else-summands-from-eq0 c = λ G f g listed some less fits.
    needless-summand G c.args.table.now c.args.summands.now f c.args.from c.requires.after c.requires.from (omega (arith, c.if-summands-from-eq0.false)) g listed some less fits
