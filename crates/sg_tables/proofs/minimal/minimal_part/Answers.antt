use Rattle.std.proofs.Common.{length, arith}
use Rattle.std.proofs.lemmas.Result.{IfOk-weaker}
use Rattle.sg_defs.specs.Membership.{IsMember, Generates}
use Rattle.sg_classes.proofs.AperyLemmas.{apery-member}
use Rattle.sg_classes.proofs.GeneratorLemmas.{entry-positive, place-contains}
use Rattle.sg_tables.specs.Minimal.{IsPartOf}
use Rattle.sg_tables.proofs.PartLemmas.{generates-part}
use Rattle.sg_tables.proofs.minimal.minimal_part.Goals as goal

pub needed_part-requires-clause-not_empty : goal.needed_part-requires-clause-not_empty
needed_part-requires-clause-not_empty c = c.requires.table.not_empty

pub needed_part-requires-clause-positive : goal.needed_part-requires-clause-positive
needed_part-requires-clause-positive c = λ k l. entry-positive c.args.entries.now c.requires.table.semigroup _ (place-contains c.args.entries.now k l)

pub needed_part-requires-clause-made : goal.needed_part-requires-clause-made
needed_part-requires-clause-made c =
    let table = c.requires.table in
    λ x h. (apery-member c.args.entries.now (length c.args.table.now) c.args.table.now table.not_empty table.modulus table.apery x).1 h

pub returns : goal.returns
returns c =
    let entries = c.args.entries.now in
    IfOk-weaker c.needed_part.result (λ part. IsPartOf c.args.table.now entries part (length entries)) (λ part. Generates (IsMember entries) part)
    (λ part h. generates-part c.args.table.now entries part (length entries) c.requires.table (omega arith) h) c.needed_part.ensures
