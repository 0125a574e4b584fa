use Rattle.std.proofs.Common.{Ok, not, refl, sym, subst}
use Rattle.sg_value.specs.Plain.{plain}
use Rattle.sg_eval.specs.Folded.{goes_on}
use Rattle.sg_eval.specs.Outcomes.{Evaluates}
use Rattle.sg_meaning.specs.Process.{gives}
use Rattle.sg_eval.specs.Truths.{itself, no_semigroup}
use Rattle.sg_eval.proofs.Deciding.{decided_exit, decided_then}
use Rattle.sg_eval.proofs.Evaluating.{evaluates_gives}
use Rattle.sg_eval.proofs.FoldSteps.{goes_exit, goes_then}
use Rattle.sg_eval.proofs.folding.goes_on.Goals as goal

pub returns-in_err-decide-in-AnyTrue : goal.returns-in_err-decide-in-AnyTrue
returns-in_err-decide-in-AnyTrue c = λ s.
    subst (λ o. Evaluates itself no_semigroup c.from_residual.result s s (λ names. goes_on o (plain names c.args.value.now))) (sym c.in-AnyTrue.is)
    (decided_exit itself no_semigroup c.args.value.now s (λ names b. gives (not b)) c.from_residual.result _ c.from_residual.ensures.1 (c.in_err-decide-in-AnyTrue.ensures s))

pub returns-in-AllTrue : goal.returns-in-AllTrue
returns-in-AllTrue c = λ s.
    subst (λ o. Evaluates itself no_semigroup c.decide.result s s (λ names. goes_on o (plain names c.args.value.now))) (sym c.in-AllTrue.is) (c.decide.ensures s)

pub returns-in_ok-decide-in-AnyTrue : goal.returns-in_ok-decide-in-AnyTrue
returns-in_ok-decide-in-AnyTrue c = λ s.
    let b = c.in_ok-decide-in-AnyTrue.field-0 in
    subst (λ o. Evaluates itself no_semigroup (Ok (not b)) s s (λ names. goes_on o (plain names c.args.value.now))) (sym c.in-AnyTrue.is)
    (decided_then itself no_semigroup c.args.value.now s (λ names d. gives (not d)) s b (Ok (not b)) (c.in_ok-decide-in-AnyTrue.ensures s) (evaluates_gives itself no_semigroup (not b) s (λ names. not b) tt (λ final later. refl)))

pub returns-in_err-decide-in-ThoseTrue : goal.returns-in_err-decide-in-ThoseTrue
returns-in_err-decide-in-ThoseTrue c = λ s.
    goes_exit c.args.fold c.args.value.now s c.in-ThoseTrue.is c.from_residual-in_err-decide-in-ThoseTrue.result _ c.from_residual-in_err-decide-in-ThoseTrue.ensures.1 (c.in_err-decide-in-ThoseTrue.ensures s)

pub returns-in_ok-decide-in-ThoseTrue : goal.returns-in_ok-decide-in-ThoseTrue
returns-in_ok-decide-in-ThoseTrue c = λ s. goes_then c.args.fold c.args.value.now s c.in-ThoseTrue.is c.in_ok-decide-in-ThoseTrue.field-0 (c.in_ok-decide-in-ThoseTrue.ensures s)
