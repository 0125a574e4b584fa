use Rattle.std.proofs.Common.{◌≡◌, ◌∙◌, length, sym, ap, subst, arith}
use Rattle.sg_classes.proofs.KunzLemmas.{class-semigroup}
use Rattle.sg_tables.specs.Found.{AreFound, AreSettled}
use Rattle.sg_tables.proofs.SettledLemmas.{found-classes, kunz-settled, kunz-kept}
use Rattle.sg_tables.proofs.kunz.is_settled.Goals as goal

pub settle-requires-clause-semigroup : goal.settle-requires-clause-semigroup
settle-requires-clause-semigroup c = class-semigroup c.args.list.now c.args.generators.now c.requires.classes c.requires.generators.keeps c.requires.generators.adds_none

pub settle-requires-clause-found : goal.settle-requires-clause-found
settle-requires-clause-found c =
    subst (λ t. AreFound c.args.generators.now t c.args.summands.now) (sym c.requires.copy)
    (found-classes c.args.list.now c.args.generators.now c.args.summands.now c.requires.classes c.requires.generators c.requires.long c.requires.unmarked)

pub returns : goal.returns
returns c =
    let list = c.args.list.now in
    let D = c.args.generators.now in
    let u = c.settle.new.table in
    let s = c.settle.new.summands in
    let f = c.in_ok-settle.ensures.found in
    let long : length u ≡ length list = c.settle.auto.table ∙ ap length c.requires.copy in (
      (λ h.
          let e : u ≡ list = c.are_same.ensures.0 h in
          kunz-settled list D s c.requires.classes c.requires.generators (subst (λ t. AreFound D t s) e f) (subst (λ t. AreSettled D t s) e c.in_ok-settle.ensures.settled)),
      (λ k. c.are_same.ensures.1 (kunz-kept list D u s k c.requires.generators f long (λ i l. omega (arith, c.type_inv.list i)))),
    )
