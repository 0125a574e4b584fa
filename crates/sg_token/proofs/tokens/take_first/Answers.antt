use Rattle.std.proofs.Common.{◌≡◌, ◌∷◌, Some, drop, length, sym, ap, ◌∙◌, subst}
use Rattle.sg_token.specs.Steps.{IsFirst}
use Rattle.sg_token.specs.Symbols.{symbol_before, spelling_of_symbol}
use Rattle.sg_token.specs.declared.token.Token.TheVariants as token
use Rattle.sg_token.proofs.StepLemmas.{first-blank, first-comment, first-run, first-string, first-symbol}
use Rattle.sg_token.proofs.tokens.take_first.Goals as goal

pub returns-in-Blank : goal.returns-in-Blank
returns-in-Blank c = rw c.requires (first-blank c.args.first c.args.after.now (sym c.begun_by.ensures ∙ c.in-Blank.is))

pub returns-in-Comment : goal.returns-in-Comment
returns-in-Comment c = rw (c.requires, c.after_comment.ensures) (first-comment c.args.first c.args.after.now (sym c.begun_by.ensures ∙ c.in-Comment.is))

pub returns-in_ok-token-in-Run : goal.returns-in_ok-token-in-Run
returns-in_ok-token-in-Run c =
    rw c.requires (first-run c.args.first c.args.after.now _ _ (sym c.begun_by.ensures ∙ c.in-Run.is) (rw c.requires at c.in_ok-token-in-Run.ensures))

pub returns-in_ok-bytes-in-Quote : goal.returns-in_ok-bytes-in-Quote
returns-in_ok-bytes-in-Quote c =
    rw c.requires (first-string c.args.first c.args.after.now _ _ (sym c.begun_by.ensures ∙ c.in-Quote.is) c.in_ok-bytes-in-Quote.ensures.strings c.in_ok-bytes-in-Quote.ensures.shorter)

pub returns-in-Some : goal.returns-in-Some
returns-in-Some c =
    let first = c.args.first in
    let after = c.args.after.now in
    let s = c.in-Some.symbol in
    let taken = first-symbol first after s (sym c.begun_by.ensures ∙ c.in-Symbol.is) (ap symbol_before (sym c.requires) ∙ sym c.in-Some.ensures.symbol) in
    let left : drop (length (spelling_of_symbol s)) (first ∷ after) ≡ c.split_at.result.1.now =
    ap (λ x. drop (length x) (first ∷ after)) (sym c.spelling.ensures) ∙ (ap (drop (length c.spelling.result.now)) (sym c.requires) ∙ sym c.split_at.ensures.back) in
    rw c.requires (subst (λ r. IsFirst (first ∷ after) (Some (token.Symbol s)) r) left taken)
