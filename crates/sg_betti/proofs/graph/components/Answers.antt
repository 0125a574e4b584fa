use Rattle.std.proofs.Common.{◌+◌, length, sym, ap, subst, ◌∙◌, arith}
use Rattle.sg_defs.specs.Membership.{IsFactorization}
use Rattle.sg_betti.proofs.GraphLemmas.{AreFirstComponents, components-all, components-are_classes, components-none, components-passed, components-pushed}
use Rattle.sg_betti.proofs.SearchLemmas.{vertex-inside}
use Rattle.sg_betti.proofs.graph.components.Goals as goal
use Rattle.sg_betti.proofs.graph.components.Goals.{then-is_new+in_ok-row+in_ok-push, else-is_new}

pub loop-root-init : goal.loop-root-init
loop-root-init c = subst (AreFirstComponents (IsFactorization c.args.t.now c.args.n) 0) (sym c.new-rows.ensures) (components-none (IsFactorization c.args.t.now c.args.n))

pub is_new-requires : goal.is_new-requires
is_new-requires c = omega (arith, c.loop-root-test.true, c.len-places.ensures, ap length c.generators.ensures.same)

pub component-requires : goal.component-requires
component-requires c = (rw c.if-is_new.true at c.is_new.ensures).0

pub loop-root-preserved : goal.loop-root-preserved
loop-root-preserved c =
    let V = IsFactorization c.args.t.now c.args.n in
    let root = c.loop-root.root in
    let rows = c.loop-root.rows in
    elim c.if-is_new.branch [
      | then-is_new+in_ok-row+in_ok-push w ↦
          let p = rw w.if-is_new.true at c.is_new.ensures in
          components-pushed V root rows c.loop-root.invariant p.0 p.1 w.in_ok-row.row w.in_ok-row.ensures c.if-is_new.rows (w.rows-is ∙ w.in_ok-push.ensures.ok)
      | else-is_new w ↦
          let p = rw w.if-is_new.false at c.is_new.ensures in
          subst (AreFirstComponents V (root + 1)) (sym w.rows-is) (components-passed V root rows c.loop-root.invariant p)
    ]

pub returns-clause-components : goal.returns-clause-components
returns-clause-components c =
    let G = c.args.t.now in
    components-all (IsFactorization G c.args.n) c.loop-root.root c.loop-root.rows
    (λ i v. let inside = vertex-inside G c.args.n i v in omega (arith, inside, c.loop-root-test.false, c.len-places.ensures, ap length c.generators.ensures.same)) c.loop-root.invariant

pub returns-clause-classes : goal.returns-clause-classes
returns-clause-classes c = λ above.
    let G = c.args.t.now in
    components-are_classes G c.args.n c.loop-root.rows above (components-all (IsFactorization G c.args.n) c.loop-root.root c.loop-root.rows
    (λ i v. let inside = vertex-inside G c.args.n i v in omega (arith, inside, c.loop-root-test.false, c.len-places.ensures, ap length c.generators.ensures.same)) c.loop-root.invariant)
