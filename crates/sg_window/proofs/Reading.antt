-- A read that failed.
use Rattle.std.proofs.Common.{◌≡◌, ℕ, List, [], Option, None, Some, Result, Ok, Err, refl}
use Rattle.std.specs.Prelude.{IsErr}
use Rattle.std.specs.Io.KnownBytes.{prepend_known}
use Rattle.sg_io.specs.declared.source.Failed.{Failed}
use Rattle.sg_window.specs.Held.{Held, Reads}

-- it gave nothing
pub reads_none : (r : Result ℕ Failed) (old new : Held) → IsErr r → new ≡ old → Reads r [] old new
reads_none (Ok n) old new e same = absurd (cc)
reads_none (Err f) old new e same = (refl, same)

-- no bytes before what is left
pub prepend-nil : (left : Option (List ℕ)) → left ≡ prepend_known [] left
prepend-nil None = refl
prepend-nil (Some xs) = refl
