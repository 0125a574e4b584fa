use Rattle.std.proofs.lemmas.List.Elements.{Contains-get_or}
use Rattle.sg_omega.proofs.ReadingLemmas.{IsReadAt, greatest-all, greatest-more, greatest-none, read-from_each}
use Rattle.sg_omega.proofs.readings.greatest_entry.Goals as goal

pub loop-v-init : goal.loop-v-init
loop-v-init c = greatest-none (IsReadAt c.args.table.now c.args.wanted.now)

pub greatest_at-requires-clause-inside : goal.greatest_at-requires-clause-inside
greatest_at-requires-clause-inside c n there = c.requires.inside n _ there (Contains-get_or c.args.values.now c.loop-v.v-index 0 c.loop-v-test.true)

pub loop-v-preserved : goal.loop-v-preserved
loop-v-preserved c =
    let R = IsReadAt c.args.table.now c.args.wanted.now in
    rw c.max-greatest.ensures (greatest-more R c.args.values.now c.loop-v.v-index c.loop-v.greatest c.greatest_at.result c.loop-v-test.true c.loop-v.invariant c.greatest_at.ensures)

pub returns : goal.returns
returns c =
    let R = IsReadAt c.args.table.now c.args.wanted.now in
    read-from_each c.args.table.now c.args.wanted.now c.args.values.now c.loop-v.greatest
    (greatest-all R c.args.values.now c.loop-v.v-index c.loop-v.greatest c.loop-v-test.false c.loop-v.invariant)
