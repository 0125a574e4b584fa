use Rattle.std.proofs.Common.{ap, refl}
use Rattle.sg_value.specs.Plain.{contents}
use Rattle.sg_eval.specs.Folded.{gathered_at}
use Rattle.sg_eval.proofs.FoldSteps.{on_ok_then, gathered_one, gathered_none, those_at, count_at, those_none, count_none, nothing_at}
use Rattle.sg_eval.proofs.folding.gather.Goals as goal

pub returns-then-is_true : goal.returns-then-is_true
returns-then-is_true c =
    let vs = c.args.gathered.now.items in
    on_ok_then c.put-then-is_true.result _ _ (λ is. gathered_one c.args.fold vs c.put-then-is_true.new.values.items (contents c.args.entry.now) (contents c.args.entry.now) (contents c.args.value) _ is c.in_ok-try_clone-in-ThoseTrue.ensures
    (those_at c.args.fold (contents c.args.entry.now) (contents c.args.value) c.in-ThoseTrue.is c.if-is_true.ensures)) c.put-then-is_true.ensures

pub returns-then-is_true-2 : goal.returns-then-is_true-2
returns-then-is_true-2 c =
    let vs = c.args.gathered.now.items in
    on_ok_then c.put-then-is_true-2.result _ _ (λ is. gathered_one c.args.fold vs c.put-then-is_true-2.new.values.items (contents c.args.value) (contents c.args.entry.now) (contents c.args.value) c.args.value is refl
    (count_at c.args.fold (contents c.args.entry.now) (contents c.args.value) c.in-CountTrue.is c.if-is_true-2.ensures)) c.put-then-is_true-2.ensures

pub returns-in-EachValue : goal.returns-in-EachValue
returns-in-EachValue c =
    let vs = c.args.gathered.now.items in
    on_ok_then c.put.result _ _ (λ is. gathered_one c.args.fold vs c.put.new.values.items (contents c.args.value) (contents c.args.entry.now) (contents c.args.value) c.args.value is refl
    (ap (λ f. gathered_at f (contents c.args.entry.now) (contents c.args.value)) c.in-EachValue.is)) c.put.ensures

pub returns-else-is_true : goal.returns-else-is_true
returns-else-is_true c = gathered_none c.args.fold _ (contents c.args.entry.now) (contents c.args.value) (those_none c.args.fold (contents c.args.entry.now) (contents c.args.value) c.in-ThoseTrue.is c.if-is_true.ensures)

pub returns-else-is_true-2 : goal.returns-else-is_true-2
returns-else-is_true-2 c = gathered_none c.args.fold _ (contents c.args.entry.now) (contents c.args.value) (count_none c.args.fold (contents c.args.entry.now) (contents c.args.value) c.in-CountTrue.is c.if-is_true-2.ensures)

pub returns-in-AllTrue : goal.returns-in-AllTrue
returns-in-AllTrue c = gathered_none c.args.fold _ (contents c.args.entry.now) (contents c.args.value) (nothing_at c.args.fold (contents c.args.entry.now) (contents c.args.value) c.in-AllTrue.is)
