use Rattle.std.proofs.Common.{◌+◌, ◌≡◌, drop, ap, sym, ◌∙◌, subst}
use Rattle.std.proofs.lemmas.List.{drop_all}
use Rattle.sg_value.specs.Plain.{contents_of_all}
use Rattle.sg_value.specs.Data.{join}
use Rattle.sg_rows.proofs.EntryLemmas.{contents_of_all-drop}
use Rattle.sg_value.proofs.Joins.{join-none}
use Rattle.sg_rows_lists.proofs.Joining.{copied_more}
use Rattle.sg_rows_lists.proofs.concatenation.add_copies.Goals as goal

pub loop-entry-preserved : goal.loop-entry-preserved
loop-entry-preserved c =
    let vs = c.args.entries.now in
    let i = c.loop-entry.entry-index in
    let v = c.entry-item.result in
    let copies = c.loop-entry.copies.items in
    let rest = contents_of_all (drop (i + 1) vs) in
    let all = join (contents_of_all c.args.copies.now.items) (contents_of_all vs) in
    let seen = ap (join (contents_of_all copies)) (sym (contents_of_all-drop vs i v c.loop-entry-test.true c.entry-item.is)) ∙ c.loop-entry.invariant in
    subst (λ items. join (contents_of_all items) rest ≡ all) (sym c.in_ok-push.ensures.items) (copied_more copies v c.in_ok-try_clone.field-0 rest all c.in_ok-try_clone.ensures seen)

pub returns : goal.returns
returns c =
    let copies = contents_of_all c.loop-entry.copies.items in
    sym (join-none copies) ∙ (ap (λ vs. join copies (contents_of_all vs)) (sym (drop_all c.loop-entry.entry-index c.args.entries.now c.loop-entry-test.false)) ∙ c.loop-entry.invariant)
