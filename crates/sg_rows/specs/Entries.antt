-- Entries of lists of values.
use Rattle.std.specs.Prelude.{◌≡◌, ◌⊎◌, ℕ, suc}
use Rattle.sg_value.specs.Data.{Data, Items, none, item, Kind}
pub use Rattle.sg_value.specs.Data.{join}

-- how many entries there are
abbrev pub entry_count : {H : Kind → Type 0} → Items H → ℕ
entry_count none = 0
entry_count (item d ds) = suc (entry_count ds)

-- d is an entry
abbrev pub IsEntry : {H : Kind → Type 0} → Data H → Items H → Type 0
IsEntry d none = ⊥
IsEntry d (item e es) = (d ≡ e) ⊎ IsEntry d es
