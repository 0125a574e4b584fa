use Rattle.std.proofs.Common.{◌≡◌, List, Result, Ok, Err, refl, sym, subst}
use Rattle.sg_value.specs.Known.{named}
use Rattle.sg_value.specs.Data.{list}
use Rattle.sg_value.specs.Plain.{AllKnown, AllKnownIn, plain, plain_of_all}
use Rattle.sg_value.specs.declared.value.Value.{Value}
use Rattle.sg_value.specs.declared.value.Value.TheVariants as value
use Rattle.sg_rows.specs.Order.{IsReplyOf}
use Rattle.sg_rows.specs.Values.{answers}
use Rattle.sg_rows.specs.Replies.{Replies}
use Rattle.sg_rows.specs.declared.fault.CallFault.{CallFault}
use Rattle.sg_rows.specs.declared.fault.CallFault.TheVariants.{Script}
use Rattle.sg_rows.specs.declared.fault.Fault.TheVariants.{Depth, TooLarge}
use Rattle.sg_meaning.specs.Expressions.{ask}
use Rattle.sg_eval.specs.Outcomes.{Evaluates}
use Rattle.sg_eval.specs.State.{State}
use Rattle.sg_meaning.specs.Queries.{lists}
use Rattle.sg_eval.proofs.Evaluating.{evaluates_told, plain_of_all_later}
use Rattle.sg_eval.proofs.Measured.{listing, too_deep, too_heavy, within_limits}
use Rattle.sg_eval.proofs.answers.list_of.Goals as goal

-- a list that was asked for
listed_so : (r : Result Value CallFault) (vs : List Value) (s : State) → AllKnownIn (named s.names) vs → Replies r s.names (listing s.names vs) → Evaluates plain AllKnown r s s (λ names. ask (lists (plain_of_all names vs)))
listed_so r vs s is_known h =
    evaluates_told r s (listing s.names vs) (λ names. lists (plain_of_all names vs))
    (λ final later t g. (subst (λ ds. IsReplyOf (answers (λ d. d ≡ list ds)) t) (sym (plain_of_all_later s.names final vs later is_known)) g, refl)) h

pub returns-then-depth-gt-NESTING_LIMIT : goal.returns-then-depth-gt-NESTING_LIMIT
returns-then-depth-gt-NESTING_LIMIT c = λ s is_known.
    listed_so (Err (Script Depth)) c.args.values.items s is_known (too_deep s.names c.args.values.items c.in_ok-from_vec.field-0 c.in_ok-from_vec.ensures c.depth.result c.depth.ensures c.if-depth-gt-NESTING_LIMIT.true)

pub returns-then-weight-gt-WEIGHT_LIMIT : goal.returns-then-weight-gt-WEIGHT_LIMIT
returns-then-weight-gt-WEIGHT_LIMIT c = λ s is_known.
    listed_so (Err (Script TooLarge)) c.args.values.items s is_known
    (too_heavy s.names c.args.values.items c.in_ok-from_vec.field-0 c.in_ok-from_vec.ensures c.depth.result c.weight.result c.depth.ensures c.if-depth-gt-NESTING_LIMIT.false c.weight.ensures c.if-weight-gt-WEIGHT_LIMIT.true)

pub returns : goal.returns
returns c = λ s is_known.
    listed_so (Ok (value.List c.in_ok-from_vec.field-0)) c.args.values.items s is_known
    (within_limits s.names c.args.values.items c.in_ok-from_vec.field-0 c.in_ok-from_vec.ensures c.depth.result c.weight.result c.depth.ensures c.if-depth-gt-NESTING_LIMIT.false c.weight.ensures c.if-weight-gt-WEIGHT_LIMIT.false is_known)
