-- What is known of a source over a real file or standard input.
use Rattle.std.specs.Prelude.{ℕ, Bool, is_some}
use Rattle.sg_io.specs.declared.std_source.StdSource.{StdSource}

-- whether an input was begun
abbrev pub is_begun : StdSource → Bool
is_begun s = is_some s.input

-- how often it failed
abbrev pub fault_count : StdSource → ℕ
fault_count s = s.faults
