use Rattle.std.proofs.Common.{◌≡◌, subst, sym}
use Rattle.std.specs.Ordering.{MatchOrdering}
use Rattle.sg_defs.specs.Vectors.{IsLexBelow}
use Rattle.sg_nat.proofs.OrderLemmas.{lex_ranked}
use Rattle.sg_nat.proofs.vectors.lex_cmp.Goals as goal

pub returns : goal.returns
returns c =
    let x = c.args.a.now in
    let y = c.args.b.now in
    subst (λ o. MatchOrdering o (IsLexBelow x y) (x ≡ y) (IsLexBelow y x)) (sym c.cmp.ensures) (lex_ranked x y c.requires)
