use Rattle.std.proofs.Common.{refl, to_z, of_z, w64}
use Rattle.sg_ideal.specs.Value.{IsIn, IsInBoth}
use Rattle.sg_ideal.proofs.FinishLemmas.{finish-made, finish-refused, pair-refused}
use Rattle.sg_ideal.proofs.pairs.intersect.Goals as goal

pub returns-clause-made : goal.returns-clause-made
returns-clause-made c =
    let I = c.args.a.now in
    let base = to_z w64 (of_z w64 c.greater-base.result) in
    finish-made I.ambient c.ambient.result.now (IsInBoth (IsIn I) (IsIn c.args.b.now)) base base c.in_ok-entries.entries.items c.deref.result.now c.ambient.ensures refl c.deref.ensures.value
    c.in_ok-entries.ensures.same c.from_classes.result c.from_classes.ensures.made

pub returns-clause-refused : goal.returns-clause-refused
returns-clause-refused c =
    let I = c.args.a.now in
    let J = c.args.b.now in
    let base = to_z w64 (of_z w64 c.greater-base.result) in
    pair-refused I J (IsInBoth (IsIn I) (IsIn J)) c.from_classes.result (c.if-not-is_paired.ensures.0 refl)
    (finish-refused I.ambient c.ambient.result.now (IsInBoth (IsIn I) (IsIn J)) base base c.in_ok-entries.entries.items c.deref.result.now c.ambient.ensures refl c.deref.ensures.value
    c.in_ok-entries.ensures.same c.from_classes.result c.from_classes.ensures.refused)
