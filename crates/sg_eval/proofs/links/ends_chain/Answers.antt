use Rattle.std.proofs.Common.{Ok, not, refl, sym, subst}
use Rattle.sg_value.specs.Plain.{plain}
use Rattle.sg_eval.specs.Linked.{ends_chain}
use Rattle.sg_eval.specs.Outcomes.{Evaluates}
use Rattle.sg_meaning.specs.Process.{gives}
use Rattle.sg_eval.specs.Truths.{itself, no_semigroup}
use Rattle.sg_eval.proofs.Deciding.{decided_exit, decided_then}
use Rattle.sg_eval.proofs.Evaluating.{evaluates_gives}
use Rattle.sg_eval.proofs.links.ends_chain.Goals as goal

pub returns-in_err-decide-in-And : goal.returns-in_err-decide-in-And
returns-in_err-decide-in-And c = λ s.
    subst (λ o. Evaluates itself no_semigroup c.from_residual.result s s (λ names. ends_chain o (plain names c.args.left.now))) (sym c.in-And.is)
    (decided_exit itself no_semigroup c.args.left.now s (λ names b. gives (not b)) c.from_residual.result _ c.from_residual.ensures.1 (c.in_err-decide-in-And.ensures s))

pub returns-in-Or : goal.returns-in-Or
returns-in-Or c = λ s.
    subst (λ o. Evaluates itself no_semigroup c.decide.result s s (λ names. ends_chain o (plain names c.args.left.now))) (sym c.in-Or.is) (c.decide.ensures s)

pub returns-in_ok-decide-in-And : goal.returns-in_ok-decide-in-And
returns-in_ok-decide-in-And c = λ s.
    let b = c.in_ok-decide-in-And.field-0 in
    subst (λ o. Evaluates itself no_semigroup (Ok (not b)) s s (λ names. ends_chain o (plain names c.args.left.now))) (sym c.in-And.is)
    (decided_then itself no_semigroup c.args.left.now s (λ names d. gives (not d)) s b (Ok (not b)) (c.in_ok-decide-in-And.ensures s) (evaluates_gives itself no_semigroup (not b) s (λ names. not b) tt (λ final later. refl)))
