-- What a sink took that takes one byte a call.
use Rattle.std.specs.Prelude.{◌≡◌, ℕ, ◌≤◌, true, List, refl}
use Rattle.std.proofs.Common.{arith}
use Rattle.sg_io.specs.Faults.{last_count}
use Rattle.sgps_breaks.specs.declared.drip.Drip.{Drip}

-- the bytes that it took
abbrev pub dripped : Drip → List ℕ
dripped d = d.bytes.items

-- its count of faults, which is 0, is a number of 64 bits
pub drip_count_fits : (d : Drip) → 0 ≤ last_count
drip_count_fits d = omega arith

-- it is sure, and has not failed
pub drip_sure_means : (d : Drip) → true ≡ true → ◌≡◌ {A = ℕ} 0 0
drip_sure_means d e = refl
