use Rattle.std.proofs.Common.{ℕ, List, length, ◌≡◌}
use Rattle.sg_ideal.specs.Classes.{IsKept}
use Rattle.sg_ideal.proofs.GatherLemmas.{IsGathered}
use Rattle.sg_ideal.proofs.fold.gather.Given as goal

abbrev pub invariant-loop-generator : goal.invariant-loop-generator
invariant-loop-generator l = (t : List ℕ) × IsKept l.a.ambient l.a.generators t × (length t ≡ l.count) × IsGathered l.a t l.generator-index l.count l.list.items
