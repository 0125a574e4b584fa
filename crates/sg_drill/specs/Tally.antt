-- What a tally took.
use Rattle.std.specs.Prelude.{◌≡◌, ℕ, ◌≤◌, true, List, refl}
use Rattle.std.proofs.Common.{arith}
use Rattle.sg_io.specs.Faults.{last_count}
use Rattle.sg_drill.specs.declared.tally.Tally.{Tally}

-- the bytes that it took
abbrev pub printed : Tally → List ℕ
printed t = t.bytes.items

-- its count of faults, which is 0, is a number of 64 bits
pub tally_count_fits : (t : Tally) → 0 ≤ last_count
tally_count_fits t = omega arith

-- it is sure, and has not failed
pub tally_sure_means : (t : Tally) → true ≡ true → ◌≡◌ {A = ℕ} 0 0
tally_sure_means t e = refl
