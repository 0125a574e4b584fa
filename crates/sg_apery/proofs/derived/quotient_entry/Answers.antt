use Rattle.sg_apery.proofs.QuotientLemmas.{low-above, high-residue, high-above}
use Rattle.sg_apery.proofs.derived.quotient_entry.Goals as goal

pub returns-then-least-class-clause-above : goal.returns-then-least-class-clause-above
returns-then-least-class-clause-above c =
    low-above c.args.apery.now c.args.d c.args.class c.div_ceil-least.result c.requires.class c.requires.positive c.div_ceil-least.ensures c.if-least-class.true

pub returns-clause-residue : goal.returns-clause-residue
returns-clause-residue c =
    high-residue c.args.apery.now c.args.d c.args.class c.div_ceil-least.result c.requires.class c.requires.positive c.div_ceil-least.ensures c.div_ceil.result

pub returns-clause-above : goal.returns-clause-above
returns-clause-above c =
    high-above c.args.apery.now c.args.d c.args.class c.div_ceil-least.result c.requires.class c.requires.positive c.div_ceil-least.ensures c.div_ceil.result c.if-least-class.false c.div_ceil.ensures
