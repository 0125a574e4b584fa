use Rattle.std.proofs.Common.{◌++◌, ◌∷◌, ◌<◌, ◌-◌, ◌^◌, [], refl, inl, inr, arith}
use Rattle.sg_tables.proofs.KnownLemmas.{above-is_member, last-pushed, table_of-pushed}
use Rattle.sg_tables.proofs.few.take.Goals as goal

pub returns-then-is_above_entry-clause-taken : goal.returns-then-is_above_entry-clause-taken
returns-then-is_above_entry-clause-taken c =
    let fits : c.args.generator < 2 ^ 64 - 1 = omega arith in
    inr (refl, above-is_member c.args.minimal.now c.args.table.now c.args.generator c.requires.table fits (c.is_above_entry.ensures.0 c.if-is_above_entry.true))

pub returns-clause-table : goal.returns-clause-table
returns-clause-table c =
    let M = c.args.minimal.now in
    let g = c.args.generator in
    rw c.in_ok-push.ensures.ok (table_of-pushed M c.args.table.now c.go_round.new.table g c.requires.table
    c.go_round.ensures.long c.go_round.ensures.down c.go_round.ensures.closed (c.go_round.ensures.known (M ++ g ∷ []) (last-pushed M g)))

pub returns-clause-taken : goal.returns-clause-taken
returns-clause-taken c =
    inl (c.in_ok-push.ensures.ok, λ member. absurd (let f = c.is_above_entry.ensures.1 (c.requires.table.below c.args.generator member) in cc))
