use Rattle.std.proofs.Common.{◌≡◌, [], append-nil, sym, subst}
use Rattle.std.proofs.lemmas.List.{nil_from_length}
use Rattle.sg_token.specs.Tokens.{FallsInto, at_end}
use Rattle.sg_token.proofs.tokens.read_tokens.Goals as goal

pub returns-clause-tokens : goal.returns-clause-tokens
returns-clause-tokens c =
    let nothing : c.loop-first.rest.now ≡ [] = nil_from_length c.loop-first.rest.now c.in_default.ensures.cases in
    let end : FallsInto c.loop-first.rest.now [] = subst (λ text. FallsInto text []) (sym nothing) at_end in
    subst (λ ts. FallsInto c.args.text.now ts) (append-nil c.loop-first.found.items) (c.loop-first.invariant.joins [] end)
