use Rattle.std.proofs.Common.{sym, subst}
use Rattle.sg_value.specs.Known.{named}
use Rattle.sg_value.specs.Plain.{plain_of_all}
use Rattle.sg_rows.specs.Replies.{Replies}
use Rattle.sg_rows_constructors.specs.Makers as makers
use Rattle.sg_calls.proofs.families.on_makers.Goals as goal

pub returns-in-OfList-clause-reply : goal.returns-in-OfList-clause-reply
returns-in-OfList-clause-reply c =
    subst (λ k. Replies c.of_list.result c.of_list.new.ids (makers.case_of k (plain_of_all (named c.args.store.now.ids) c.args.args.now))) (sym c.in-OfList.is) c.of_list.ensures.reply

pub returns-in-OfListOrIntegers-clause-reply : goal.returns-in-OfListOrIntegers-clause-reply
returns-in-OfListOrIntegers-clause-reply c =
    subst (λ k. Replies c.of_list_or_integers.result c.of_list_or_integers.new.ids (makers.case_of k (plain_of_all (named c.args.store.now.ids) c.args.args.now))) (sym c.in-OfListOrIntegers.is)
    c.of_list_or_integers.ensures.reply
