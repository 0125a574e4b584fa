use Rattle.std.proofs.Common.{ℕ, ◌<◌, slice_index}
use Rattle.sg_tables.specs.Closed.{IsClosedUnder}
use Rattle.sg_tables.specs.Spread.{IsSpread}
use Rattle.sg_tables.proofs.kunz.is_closed_under_each.Given as goal

abbrev pub invariant-loop-generator : goal.invariant-loop-generator
invariant-loop-generator l = record {
  spread : IsSpread l.list l.spread;
  closed : (k : ℕ) → k < l.generator-index → IsClosedUnder l.list (slice_index l.generators k);
}
