use Rattle.std.proofs.Common.{refl}
use Rattle.sg_defs.proofs.MinimalLemmas.{first-least}
use Rattle.sg_laws_families.proofs.DifferenceLemmas.{min_delta-none, min_delta-some}
use Rattle.sg_degrees.proofs.laws.least_deltas_are_common_divisors.Goals as goal

pub returns-clause-none : goal.returns-clause-none
returns-clause-none c G s m h = min_delta-none G s (first-least G m.ascending) 0 h refl

pub returns-clause-some : goal.returns-clause-some
returns-clause-some c G g s m positive h = min_delta-some G s (first-least G m.ascending) g h positive
