use Rattle.std.proofs.Common.{get_or, refl, sym, subst, arith}
use Rattle.sg_tables.specs.Minimal.{IsSpare}
use Rattle.sg_tables.proofs.PartLemmas.{part-none, part-push, part-skip}
use Rattle.sg_tables.proofs.SumLemmas.{spare-bounded}
use Rattle.sg_tables.proofs.minimal.part_within.Goals as goal
use Rattle.sg_tables.proofs.minimal.part_within.Goals.{then-not-is_spare+in_ok-push, else-not-is_spare}

pub loop-entry-init : goal.loop-entry-init
loop-entry-init c = rw c.new-part.ensures (part-none c.args.table.now c.args.entries.now)

pub is_spare-requires-clause-bounded : goal.is_spare-requires-clause-bounded
is_spare-requires-clause-bounded c spare =
    let table = c.args.table.now in
    let entries = c.args.entries.now in
    let w = get_or entries c.loop-entry.entry-index 0 in
    let here : IsSpare table c.loop-entry.part w = subst (λ m. IsSpare table m w) c.as_slice.ensures spare in
    spare-bounded table entries c.loop-entry.part c.args.bounds.now c.loop-entry.entry-index w c.requires.positive c.requires.made c.loop-entry.invariant c.requires.bounds here

pub loop-entry-preserved : goal.loop-entry-preserved
loop-entry-preserved c =
    let entries = c.args.entries.now in
    let n = c.loop-entry.entry-index in
    let before = c.loop-entry.part in
    elim c.if-not-is_spare.branch [
      | then-not-is_spare+in_ok-push w ↦
          rw (w.part-is, w.in_ok-push.ensures.ok)
          (part-push c.args.table.now entries before n c.requires.ascending (omega arith) (c.requires.positive n (omega arith)) (λ h. absurd (let f = w.if-not-is_spare.ensures.1 (subst (λ m. IsSpare c.args.table.now m (get_or entries n 0)) (sym c.as_slice.ensures) h) in cc)) c.loop-entry.invariant)
      | else-not-is_spare w ↦ rw w.part-is (part-skip c.args.table.now entries before n (subst (λ m. IsSpare c.args.table.now m (get_or entries n 0)) c.as_slice.ensures (w.if-not-is_spare.ensures.0 refl)) c.loop-entry.invariant)
    ]
