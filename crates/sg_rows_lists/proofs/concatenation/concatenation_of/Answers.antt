use Rattle.std.proofs.Common.{Ok, Err, ap, ◌∙◌}
use Rattle.sg_value.specs.Known.{named}
use Rattle.sg_value.specs.Plain.{contents_of_all, plain_of_all}
use Rattle.sg_rows_lists.specs.Concatenations.{concatenation_of}
use Rattle.sg_rows_lists.proofs.Concatenations.{of_copy, of_none, of_fault}
use Rattle.sg_rows_lists.proofs.concatenation.concatenation_of.Goals as goal

pub returns-in_default : goal.returns-in_default
returns-in_default c = λ store known.
    of_none store c.args.lists.now c.in_ok-from_vec.field-0 c.in_default.ensures.cases (c.in_ok-from_vec.ensures ∙ ap contents_of_all c.new.ensures.items) known

pub returns-in_err-concatenate_onto : goal.returns-in_err-concatenate_onto
returns-in_err-concatenate_onto c = λ store known.
    let e = c.in_err-concatenate_onto.field-0.0 in
    of_fault store (concatenation_of (plain_of_all (named store) c.args.lists.now)) c.from_residual-in_err-concatenate_onto.result e c.from_residual-in_err-concatenate_onto.ensures.1
    (of_copy (Err e) store c.in_ok-value.value c.in-Some.first.now c.in-Some.others.now c.args.lists.now c.in_ok-value.ensures c.in-Some.ensures.cases.0 (c.in_err-concatenate_onto.ensures.reply store) known)

pub returns : goal.returns
returns c = λ store known.
    of_copy (Ok c.concatenate_onto.new.value) store c.in_ok-value.value c.in-Some.first.now c.in-Some.others.now c.args.lists.now c.in_ok-value.ensures c.in-Some.ensures.cases.0 (c.in_ok-concatenate_onto.ensures.reply store) known
