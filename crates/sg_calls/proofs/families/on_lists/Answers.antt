use Rattle.std.proofs.Common.{sym, subst}
use Rattle.sg_value.specs.Known.{named}
use Rattle.sg_value.specs.Plain.{plain_of_all}
use Rattle.sg_rows.specs.Replies.{Replies}
use Rattle.sg_rows_lists.specs.Lists as lists
use Rattle.sg_calls.proofs.families.on_lists.Goals as goal

pub returns-in-OfList-clause-reply : goal.returns-in-OfList-clause-reply
returns-in-OfList-clause-reply c =
    subst (λ k. Replies c.of_list.result c.of_list.new.ids (lists.case_of k (plain_of_all (named c.args.ids.now) c.args.args.now))) (sym c.in-OfList.is) c.of_list.ensures.reply

pub returns-in-OfListOrIntegers-clause-reply : goal.returns-in-OfListOrIntegers-clause-reply
returns-in-OfListOrIntegers-clause-reply c =
    subst (λ k. Replies c.of_list_or_integers.result c.of_list_or_integers.new.ids (lists.case_of k (plain_of_all (named c.args.ids.now) c.args.args.now))) (sym c.in-OfListOrIntegers.is)
    c.of_list_or_integers.ensures.reply

pub returns-in-Concatenation-clause-reply : goal.returns-in-Concatenation-clause-reply
returns-in-Concatenation-clause-reply c =
    subst (λ k. Replies c.concatenation_of.result c.args.ids.now (lists.case_of k (plain_of_all (named c.args.ids.now) c.args.args.now))) (sym c.in-Concatenation.is) (c.concatenation_of.ensures c.args.ids.now c.requires)
