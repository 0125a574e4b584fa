-- What a record puts onto the two sinks.
use Rattle.std.specs.Prelude.{◌≡◌, ℕ, List, [], ◌∷◌, Option}
use Rattle.std.specs.Io.KnownBytes.{append_known}
use Rattle.sg_play.specs.Record.{Record, out, err}

-- what the two sinks have taken, as far as they tell it
pub record Sinks : Type 0 where
  pub on_out : Option (List ℕ)
  pub on_err : Option (List ℕ)

-- the bytes of a record marked out, in their order
abbrev pub out_bytes : Record → List ℕ
out_bytes [] = []
out_bytes ((out, b) ∷ r) = b ∷ out_bytes r
out_bytes ((err, b) ∷ r) = out_bytes r

-- the bytes marked err, in their order
abbrev pub err_bytes : Record → List ℕ
err_bytes [] = []
err_bytes ((out, b) ∷ r) = err_bytes r
err_bytes ((err, b) ∷ r) = b ∷ err_bytes r

-- `out` gained the bytes marked out and `err` those marked err, and neither gained more
pub record Wrote (old new : Sinks) (r : Record) : Type 0 where
  pub out_gained : new.on_out ≡ append_known old.on_out (out_bytes r)
  pub err_gained : new.on_err ≡ append_known old.on_err (err_bytes r)
