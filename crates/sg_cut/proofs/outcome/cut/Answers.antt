use Rattle.std.proofs.Common.{◌≡◌, ◌<◌, arith, sym, subst, length, eqb-true, ◌∙◌}
use Rattle.std.proofs.lemmas.Bool.{eqb-false}
use Rattle.sg_cut.specs.declared.limits.TheConstants.{STATEMENT_LIMIT}
use Rattle.sg_cut.specs.Cut.{Begins}
use Rattle.sg_cut.proofs.Outcomes.{is_unfinished, no_end_behind_window, same_outcome, statement_in_window, too_long_in_window, waits_behind_ignored, waits_inside}
use Rattle.sg_cut.proofs.outcome.cut.Goals as goal

pub returns-then-whole-clause-outcome : goal.returns-then-whole-clause-outcome
returns-then-whole-clause-outcome c =
    let held = c.args.held.now in
    let empty : length c.split_at.result.1.now ≡ 0 = eqb-true _ 0 (sym c.is_empty.ensures ∙ c.if-is_empty.true) in
    let at_end : c.ignored_len-begin.result ≡ length held = omega (arith, empty, c.split_at.ensures.back_len) in
    record { complete = c.if-whole.true; nothing_left = subst (λ n. Begins held n) at_end c.ignored_len-begin.ensures }

pub returns-then-whole-clause-only : goal.returns-then-whole-clause-only
returns-then-whole-clause-only c = λ other d. same_outcome _ _ other _ d (returns-then-whole-clause-outcome c)

pub returns-else-whole-clause-outcome : goal.returns-else-whole-clause-outcome
returns-else-whole-clause-outcome c =
    let held = c.args.held.now in
    let empty : length c.split_at.result.1.now ≡ 0 = eqb-true _ 0 (sym c.is_empty.ensures ∙ c.if-is_empty.true) in
    let at_end : c.ignored_len-begin.result ≡ length held = omega (arith, empty, c.split_at.ensures.back_len) in
    waits_behind_ignored held c.args.whole c.if-whole.false (subst (λ n. Begins held n) at_end c.ignored_len-begin.ensures)

pub returns-else-whole-clause-only : goal.returns-else-whole-clause-only
returns-else-whole-clause-only c = λ other d. same_outcome _ _ other _ d (returns-else-whole-clause-outcome c)

pub returns-in-Some-clause-outcome : goal.returns-in-Some-clause-outcome
returns-in-Some-clause-outcome c =
    statement_in_window c.args.held.now _ _ c.ignored_len-begin.result _ c.ignored_len-begin.ensures c.split_at.ensures.back c.split_at-2.ensures.front c.in-Some.size (omega (arith, c.min.ensures)) c.in-Some.ensures

pub returns-in-Some-clause-only : goal.returns-in-Some-clause-only
returns-in-Some-clause-only c = λ other d. same_outcome _ _ other _ d (returns-in-Some-clause-outcome c)

pub returns-in-None-clause-outcome : goal.returns-in-None-clause-outcome
returns-in-None-clause-outcome c =
    too_long_in_window c.args.held.now _ _ c.ignored_len-begin.result _ c.ignored_len-begin.ensures c.split_at.ensures.back c.split_at-2.ensures.front (omega (arith, c.min.ensures)) c.if-window-eq-STATEMENT_LIMIT.true c.in-None.ensures

pub returns-in-None-clause-only : goal.returns-in-None-clause-only
returns-in-None-clause-only c = λ other d. same_outcome _ _ other _ d (returns-in-None-clause-outcome c)

pub returns-in-None-2-clause-outcome : goal.returns-in-None-2-clause-outcome
returns-in-None-2-clause-outcome c =
    let held = c.args.held.now in
    let more = c.split_at.ensures.back_len in
    let sized = c.split_at-2.ensures.front_len in
    let less : length c.split_at.result.1.now < STATEMENT_LIMIT = omega (arith, c.min.ensures, sized, c.if-window-eq-STATEMENT_LIMIT.false) in
    let none = no_end_behind_window held _ _ c.ignored_len-begin.result _ c.ignored_len-begin.ensures c.split_at.ensures.back c.split_at-2.ensures.front (omega (arith, c.min.ensures, less)) c.in-None.ensures in
    let some = eqb-false (length c.split_at.result.1.now) 0 (sym c.is_empty.ensures ∙ c.if-is_empty.false) in
    is_unfinished held c.args.whole c.ignored_len-begin.result c.if-whole-2.true c.ignored_len-begin.ensures (omega (arith, more, some)) (omega (arith, more, less)) none

pub returns-in-None-2-clause-only : goal.returns-in-None-2-clause-only
returns-in-None-2-clause-only c = λ other d. same_outcome _ _ other _ d (returns-in-None-2-clause-outcome c)

pub returns-in-None-3-clause-outcome : goal.returns-in-None-3-clause-outcome
returns-in-None-3-clause-outcome c =
    let held = c.args.held.now in
    let more = c.split_at.ensures.back_len in
    let sized = c.split_at-2.ensures.front_len in
    let less : length c.split_at.result.1.now < STATEMENT_LIMIT = omega (arith, c.min.ensures, sized, c.if-window-eq-STATEMENT_LIMIT.false) in
    let none = no_end_behind_window held _ _ c.ignored_len-begin.result _ c.ignored_len-begin.ensures c.split_at.ensures.back c.split_at-2.ensures.front (omega (arith, c.min.ensures, less)) c.in-None.ensures in
    waits_inside held c.args.whole c.ignored_len-begin.result c.if-whole-2.false c.ignored_len-begin.ensures (omega (arith, more, less)) none

pub returns-in-None-3-clause-only : goal.returns-in-None-3-clause-only
returns-in-None-3-clause-only c = λ other d. same_outcome _ _ other _ d (returns-in-None-3-clause-outcome c)
