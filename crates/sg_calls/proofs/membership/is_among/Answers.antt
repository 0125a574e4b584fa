use Rattle.std.proofs.Common.{◌≡◌, true, false, rules}
use Rattle.sg_value.specs.Known.{named}
use Rattle.sg_value.specs.Plain.{plain}
use Rattle.sg_value.proofs.Entries.{AllKnownIn-at}
use Rattle.sg_rows.proofs.EntryLemmas.{entry_found, entry_passed, entry_absent}
use Rattle.sg_calls.proofs.membership.is_among.Goals as goal

pub equal-requires-clause-right : goal.equal-requires-clause-right
equal-requires-clause-right c = AllKnownIn-at (named c.args.ids.now) c.args.entries.now c.loop-entry.entry-index c.entry-item.result c.entry-item.result c.requires.entries c.loop-entry-test.true c.entry-item.is

pub returns-then-equal : goal.returns-then-equal
returns-then-equal c =
    let names = named c.args.ids.now in
    ((λ t. entry_found names (plain names c.args.v.now) c.args.entries.now c.loop-entry.entry-index c.entry-item.result c.loop-entry-test.true c.entry-item.is c.loop-entry.invariant (c.equal.ensures.0 (search rules))), λ h. search rules)

pub loop-entry-preserved : goal.loop-entry-preserved
loop-entry-preserved c =
    let names = named c.args.ids.now in
    entry_passed names (plain names c.args.v.now) c.args.entries.now c.loop-entry.entry-index c.entry-item.result c.loop-entry-test.true c.entry-item.is c.loop-entry.invariant (λ e. let t : false ≡ true = c.if-equal.ensures.1 e in cc)

pub returns : goal.returns
returns c =
    let names = named c.args.ids.now in
    ((λ t. absurd (search rules)), λ h. absurd (entry_absent names (plain names c.args.v.now) c.args.entries.now c.loop-entry.entry-index c.loop-entry-test.false c.loop-entry.invariant h))
