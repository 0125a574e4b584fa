-- Values as truth values.
use Rattle.std.specs.Prelude.{Bool, Option, Some, None, ⊤}
use Rattle.sg_value.specs.Data.{Data, int, truth, text, list, ratio, fail, semigroup, ideal, Kind}
use Rattle.sg_value.specs.Plain.{Named}

abbrev pub as_truth : {H : Kind → Type 0} → Data H → Option Bool
as_truth (truth b) = Some b
as_truth (int z) = None
as_truth (text bs) = None
as_truth (list ds) = None
as_truth (ratio p q) = None
as_truth fail = None
as_truth (semigroup h) = None
as_truth (ideal h) = None

-- a truth value stands for itself
abbrev pub itself : Named → Bool → Bool
itself names b = b

abbrev pub no_semigroup : Named → Bool → Type 0
no_semigroup names b = ⊤
