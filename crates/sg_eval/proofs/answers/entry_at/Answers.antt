use Rattle.std.proofs.Common.{◌≡◌, ◌-◌, suc, ap, ◌∙◌, arith}
use Rattle.sg_value.specs.Plain.{contents_of_all}
use Rattle.sg_meaning.specs.Entries.{entry_at}
use Rattle.sg_eval.proofs.Placed.{entry_zero, entry_past, entry_there}
use Rattle.sg_eval.proofs.answers.entry_at.Goals as goal

pub returns-then-place-eq0 : goal.returns-then-place-eq0
returns-then-place-eq0 c = ap (entry_at (contents_of_all c.args.entries.now)) c.if-place-eq0.true ∙ entry_zero (contents_of_all c.args.entries.now)

pub returns-then-index-entries : goal.returns-then-index-entries
returns-then-index-entries c =
    let k = c.args.place - 1 in
    let next : c.args.place ≡ suc k = omega (arith, c.if-place-eq0.false) in
    ap (entry_at (contents_of_all c.args.entries.now)) next ∙ entry_past c.args.entries.now k (omega (arith, c.if-index-entries.true))

pub returns : goal.returns
returns c =
    let k = c.args.place - 1 in
    let next : c.args.place ≡ suc k = omega (arith, c.if-place-eq0.false) in
    ap (entry_at (contents_of_all c.args.entries.now)) next ∙ entry_there c.args.entries.now k c.index-entries-index.result (omega (arith, c.if-index-entries.false)) c.index-entries-index.is
