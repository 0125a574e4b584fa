-- What is true of all values.
use Rattle.std.specs.Prelude.{◌≡◌, ◌↔◌}
use Rattle.sg_value.specs.Plain.{Named, contents, plain, AllKnown, AreDistinct, IsKept}
use Rattle.sg_value.specs.declared.value.Value.{Value}

-- where places are distinct, values with the same plain value have the same contents, and the other way round
abbrev pub EqualityOverOneStore : Type 0
EqualityOverOneStore = (names : Named) (v w : Value) → AreDistinct names → AllKnown names v → AllKnown names w →
    (contents v ≡ contents w) ↔ (plain names v ≡ plain names w)

-- as the known places grow in number, a value keeps its plain value
abbrev pub PlainValuesStay : Type 0
PlainValuesStay = (old new : Named) (v : Value) → IsKept old new → AllKnown old v → AllKnown new v × (plain new v ≡ plain old v)
