use Rattle.std.proofs.Common.{◌≡◌, length, drop, sym, subst, ◌∙◌}
use Rattle.std.proofs.lemmas.List.{take_at}
use Rattle.std.proofs.lemmas.Result.{IfOk-weaker}
use Rattle.sg_defs.specs.Membership.{Generates}
use Rattle.sg_defs.specs.Closures.{IsArfClosure}
use Rattle.sg_closure.specs.Marks.{IsIn, IsAbove, AreGeneratorMarks}
use Rattle.sg_closure.proofs.ArfLemmas.{steps-above, steps-closure}
use Rattle.sg_closure.proofs.arf.arf_closure.Goals as goal

pub marked_table-requires-clause-above : goal.marked_table-requires-clause-above
marked_table-requires-clause-above c =
    let G = c.args.table.now in
    let marks = c.mark_steps.new.marks in
    let start = subst (AreGeneratorMarks G) (sym c.deref_mut.ensures.value) c.in_ok-marks.ensures in
    let same : c.deref.result.now ≡ marks = c.deref.ensures.value ∙ take_at marks (drop (length marks) c.in_ok-marks.marks.items) c.in_ok-marks.marks.len
    (c.mark_steps.ensures.length ∙ c.deref_mut.ensures.len) in
    subst (IsAbove G) (sym same) (steps-above G c.deref_mut.result.now marks start c.mark_steps.ensures.keeps c.mark_steps.ensures.steps)

pub returns : goal.returns
returns c =
    let G = c.args.table.now in
    let marks = c.mark_steps.new.marks in
    let start = subst (AreGeneratorMarks G) (sym c.deref_mut.ensures.value) c.in_ok-marks.ensures in
    let same : c.deref.result.now ≡ marks = c.deref.ensures.value ∙ take_at marks (drop (length marks) c.in_ok-marks.marks.items) c.in_ok-marks.marks.len
    (c.mark_steps.ensures.length ∙ c.deref_mut.ensures.len) in
    IfOk-weaker c.marked_table.result (λ M. Generates (IsIn c.deref.result.now) M) (λ M. IsArfClosure G M)
    (λ M g. steps-closure G c.deref_mut.result.now marks start c.mark_steps.ensures.keeps c.mark_steps.ensures.steps c.mark_steps.ensures.least M
    (subst (λ x. Generates (IsIn x) M) same g)) c.marked_table.ensures.generated
