use Rattle.std.proofs.Common.{◌≡◌, ◌<◌, length, sym, subst, ◌∙◌, arith}
use Rattle.std.proofs.lemmas.List.{length-set}
use Rattle.sg_defs.specs.Membership.{IsMember}
use Rattle.sg_defs.proofs.MembershipLemmas.{member-entry}
use Rattle.sg_tables.proofs.ClosingLemmas.{settled-table}
use Rattle.sg_tables.proofs.FoundLemmas.{found-listed}
use Rattle.sg_tables.proofs.filling.fill.Goals as goal

pub bounds-table-0 : goal.bounds-table-0
bounds-table-0 c = omega (arith, c.requires.long, c.requires.semigroup.positive 0 0 c.requires.semigroup.not_empty)

pub lower_all-requires : goal.lower_all-requires
lower_all-requires c = omega (arith, length-set c.args.table.now 0 0, c.requires.long, c.requires.semigroup.positive 0 0 c.requires.semigroup.not_empty)

pub settle-requires-clause-found : goal.settle-requires-clause-found
settle-requires-clause-found c =
    let some : 0 < length c.args.table.now = omega (arith, c.requires.long, c.requires.semigroup.positive 0 0 c.requires.semigroup.not_empty) in
    found-listed c.args.generators.now c.args.table.now c.lower_all.new.table c.args.summands.now some
    (subst (IsMember c.args.generators.now) (sym c.requires.long) (member-entry c.args.generators.now 0 c.requires.semigroup.not_empty)) c.requires.summands c.requires.unmarked c.requires.unreached c.lower_all.ensures

pub returns-clause-table : goal.returns-clause-table
returns-clause-table c =
    let same : length c.settle.new.table ≡ length c.args.table.now = c.settle.auto.table ∙ c.lower_all.auto.table ∙ length-set c.args.table.now 0 0 in
    settled-table c.args.generators.now c.settle.new.table c.settle.new.summands c.requires.semigroup c.in_ok-settle.ensures.found c.in_ok-settle.ensures.settled c.requires.small (omega (arith, same, c.requires.short))
