use Rattle.std.proofs.Common.{◌<◌, [], length, get_or, sym, ap, subst, ◌∙◌}
use Rattle.std.proofs.lemmas.List.{get_or_default}
use Rattle.sg_betti.proofs.canonical.head.Goals as goal

pub first_place-requires : goal.first_place-requires
first_place-requires c =
    let r = c.index-rows-k.result in
    subst (λ v. 0 < length v) (sym c.index-rows-k.is) (c.requires.not_empty c.args.k r c.requires.inside)

pub returns : goal.returns
returns c =
    let r = c.index-rows-k.result in
    c.first_place.ensures ∙ ap (λ v. get_or v 0 0) (c.index-rows-k.is ∙ get_or_default c.args.rows.now c.args.k r [] c.requires.inside)
