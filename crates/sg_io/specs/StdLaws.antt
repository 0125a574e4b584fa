-- The laws of the traits, of a source and a sink that are never sure and tell nothing.
use Rattle.std.specs.Prelude.{◌≡◌, ◌≤◌, true, false}
use Rattle.std.proofs.Common.{arith}
use Rattle.sg_io.specs.Faults.{last_count}

-- a count of none is a number of 64 bits
pub none_missing : 0 ≤ last_count
none_missing = omega arith

-- what holds where false is true
pub never : {A : Type 0} → false ≡ true → A
never h = absurd (cc)
