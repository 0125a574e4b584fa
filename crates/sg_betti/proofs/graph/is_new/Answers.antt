use Rattle.std.proofs.Common.{◌≡◌, Bool, true, false, sym, ◌∙◌}
use Rattle.std.specs.Prelude.{MatchBool}
use Rattle.std.proofs.lemmas.Bool.{false≢true}
use Rattle.sg_defs.specs.Membership.{IsFactorization}
use Rattle.sg_laws_families.specs.PlaceGraph.{IsVertex}
use Rattle.sg_betti.specs.Components.{IsInSomeRow}
use Rattle.sg_betti.proofs.graph.is_new.Goals as goal

-- what is known where the first test was met
both : (P Q : Type 0) (r : Bool) → P → MatchBool r (¬ Q) Q → MatchBool r (P × ¬ Q) (P → Q)
both P Q true p h = (p, h)
both P Q false p h = λ _. h

-- and where it was not
neither : (P Q : Type 0) (r : Bool) → r ≡ false → (P → ⊥) → MatchBool r (P × ¬ Q) (P → Q)
neither P Q true e none = absurd (false≢true (sym e))
neither P Q false e none = λ p. absurd (none p)

pub returns-then-is_vertex : goal.returns-then-is_vertex
returns-then-is_vertex c =
    both (IsVertex (IsFactorization c.args.t.now c.args.n) c.args.place) (IsInSomeRow c.args.rows.now c.args.place) c.is_missing.result (c.is_vertex.ensures.0 c.if-is_vertex.true) c.is_missing.ensures

pub returns-else-is_vertex : goal.returns-else-is_vertex
returns-else-is_vertex c =
    neither (IsVertex (IsFactorization c.args.t.now c.args.n) c.args.place) (IsInSomeRow c.args.rows.now c.args.place) c.is_vertex.result c.if-is_vertex.false
    (λ v. false≢true (sym c.if-is_vertex.false ∙ c.is_vertex.ensures.1 v))
