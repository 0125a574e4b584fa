use Rattle.std.proofs.Common.{get_or, arith}
use Rattle.sg_defs.proofs.MinimalLemmas.{first-least}
use Rattle.sg_classes.proofs.GeneratorLemmas.{entry-positive, place-contains}
use Rattle.sg_tables.proofs.FoundLemmas.{settled-all, settled-tops}
use Rattle.sg_tables.proofs.sources.lead_from.Goals as goal

pub returns-then-most-generators-clause-settled : goal.returns-then-most-generators-clause-settled
returns-then-most-generators-clause-settled c = λ e j l low.
    absurd (omega (arith, first-least c.args.generators.now c.requires.given.ascending j l, c.if-most-generators.true, c.saturating_sub-most.ensures, low))

pub lead_between-requires-clause-positive : goal.lead_between-requires-clause-positive
lead_between-requires-clause-positive c = λ k l.
    entry-positive c.args.generators.now c.requires.given.semigroup (get_or c.args.tops.now k 0) (c.requires.given.ends.part k l)

pub lead_between-requires-2-clause-positive : goal.lead_between-requires-2-clause-positive
lead_between-requires-2-clause-positive c = λ k l.
    entry-positive c.args.generators.now c.requires.given.semigroup (get_or c.args.generators.now k 0) (place-contains c.args.generators.now k l)

pub returns-then-is_stepped-clause-found : goal.returns-then-is_stepped-clause-found
returns-then-is_stepped-clause-found c = c.in_ok-led.ensures.found c.args.generators.now c.requires.given.ends.part c.requires.found

pub returns-then-is_stepped-clause-settled : goal.returns-then-is_stepped-clause-settled
returns-then-is_stepped-clause-settled c = λ e.
    let G = c.args.generators.now in
    let t = c.args.table.now in
    settled-tops G c.args.tops.now t c.lead_between.new.table c.args.summands.now c.lead_between.new.summands c.args.step c.args.bound c.args.from
    c.least_needed-least.result c.saturating_sub-most.result c.requires.given c.requires.found (c.in_ok-led.ensures.same e) (omega arith) (omega arith) (omega (arith, c.saturating_sub-most.ensures))
    (c.is_stepped.ensures.below c.if-is_stepped.true) (c.is_stepped.ensures.member c.if-is_stepped.true) (c.least_needed-least.ensures G c.requires.found) (c.in_ok-led.ensures.told e)

pub returns-clause-found : goal.returns-clause-found
returns-clause-found c = c.in_ok-led-2.ensures.found c.args.generators.now (λ k l. place-contains c.args.generators.now k l) c.requires.found

pub returns-clause-settled : goal.returns-clause-settled
returns-clause-settled c = λ e.
    let G = c.args.generators.now in
    let t = c.args.table.now in
    settled-all G t c.lead_between-2.new.table c.lead_between-2.new.summands c.args.bound c.args.from
    c.least_needed-least.result c.saturating_sub-most.result c.requires.given.semigroup (c.in_ok-led-2.ensures.same e) (omega arith) (omega (arith, c.saturating_sub-most.ensures))
    (c.least_needed-least.ensures G c.requires.found) (c.in_ok-led-2.ensures.told e)
