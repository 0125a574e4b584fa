use Rattle.std.proofs.Common.{sym, subst}
use Rattle.sg_value.specs.Known.{named}
use Rattle.sg_eval.specs.Folded.{listed_if}
use Rattle.sg_eval.specs.Given.{plain_if, known_if}
use Rattle.sg_eval.specs.Outcomes.{Evaluates, plain_items, known_items}
use Rattle.sg_meaning.specs.Process.{gives}
use Rattle.sg_eval.proofs.folding.entries_if.Goals as goal

pub returns-in-Some : goal.returns-in-Some
returns-in-Some c = λ s is_known.
    subst (λ o. Evaluates plain_items known_items c.entries.result s s (λ names. listed_if (plain_if names o) (λ ds. gives ds))) (sym c.in-Some.is)
    (c.entries.ensures s (subst (known_if (named s.names)) c.in-Some.is is_known))
