use Rattle.std.proofs.Common.{sym, subst}
use Rattle.sg_tame.specs.Nearest.{AreAllOf}
use Rattle.sg_tame.proofs.degree.raised_over.Goals as goal

pub raised_by-requires : goal.raised_by-requires
raised_by-requires c = subst (AreAllOf c.args.t.now c.args.v) (sym c.as_slice.ensures) (record { listed = c.in_ok-rows.ensures.listed; comparable = c.in_ok-rows.ensures.comparable })
