-- What a buffer holds.
use Rattle.std.specs.Prelude.{◌≡◌, ℕ, List, [], ◌++◌, length, Result, Ok, Err}
use Rattle.sg_io.specs.declared.source.Failed.{Failed}

-- a text, and what is held behind it
pub record Held : Type 0 where
  pub text : List ℕ
  pub rest : List ℕ

abbrev pub holding : List ℕ → List ℕ → Held
holding text rest = record { text = text; rest = rest }

-- a read gave these bytes, which are held behind the others now
abbrev pub Reads : Result ℕ Failed → List ℕ → Held → Held → Type 0
Reads (Ok n) got old new = (length got ≡ n) × (new ≡ holding old.text (old.rest ++ got))
Reads (Err e) got old new = (got ≡ []) × (new ≡ old)
