use Rattle.std.proofs.Common.{refl}
use Rattle.sg_ideal.proofs.HeadLemmas.{collects-push, collects-skip}
use Rattle.sg_ideal.proofs.GenerateLemmas.{multiplicity-listed}
use Rattle.sg_ideal.proofs.heads.class_heads.Goals as goal
use Rattle.sg_ideal.proofs.heads.class_heads.Goals.{then-is_free+in_ok-push, else-is_free}

pub loop-entry-preserved : goal.loop-entry-preserved
loop-entry-preserved c =
    let G = c.args.semigroup.now in
    let t = c.args.entries.now in
    let n = c.loop-entry.entry-index in
    let listed = multiplicity-listed G t c.requires in
    elim c.if-is_free.branch [
      | then-is_free+in_ok-push w ↦
          rw (w.list-is, w.in_ok-push.ensures.items)
          (collects-push G t c.requires listed n c.loop-entry.list.items c.loop-entry-test.true (w.if-is_free.ensures.0 refl) c.loop-entry.invariant)
      | else-is_free w ↦
          rw w.list-is
          (collects-skip G t c.requires listed n c.loop-entry.list.items c.loop-entry-test.true (λ p. absurd (let f = w.if-is_free.ensures.1 p in cc)) c.loop-entry.invariant)
    ]
