use Rattle.std.proofs.Common.{sym, subst}
use Rattle.std.specs.Prelude.{Contains}
use Rattle.sg_defs.specs.Membership.{IsFactorization}
use Rattle.sg_nonunique.specs.Catenary.{IsCatenaryOf}
use Rattle.sg_factor.specs.Nearness.{AreComparable}
use Rattle.sg_factor.proofs.ReachLemmas.{catenary-same}
use Rattle.sg_factor.proofs.elements.catenary_of_natural.Goals as goal

pub catenary_of-requires : goal.catenary_of-requires
catenary_of-requires c = subst AreComparable (sym c.as_slice.ensures) c.in_ok-rows.ensures.comparable

pub returns-clause-catenary : goal.returns-clause-catenary
returns-clause-catenary c =
    catenary-same (Contains c.in_ok-rows.rows) (IsFactorization c.args.t.now c.args.n) c.in_ok-degree.degree c.in_ok-rows.ensures.listed.exactly
    (subst (λ rows. IsCatenaryOf (Contains rows) c.in_ok-degree.degree) c.as_slice.ensures c.in_ok-degree.ensures)
