-- What a call answers where a text has a part, or has none.
use Rattle.std.specs.Prelude.{◌≡◌, List, Option, None, Some, Result, Ok, Err}
use denote.Ref.{Bor}
use Rattle.sg_token.specs.declared.token.TokenFault.{TokenFault}
use Rattle.sg_token.specs.declared.token.TokenFault.TheVariants.{Syntax, Memory}

-- no part is there where the fault is Syntax
abbrev pub IsFault : {A : Type 0} → TokenFault → Option A → Type 0
IsFault Syntax wanted = wanted ≡ None
IsFault (Memory cause) wanted = Unit {0}

-- the answer is the wanted part, or Syntax where there is none
abbrev pub IsAnswer : {A : Type 0} → Result A TokenFault → Option A → Type 0
IsAnswer (Ok found) wanted = wanted ≡ Some found
IsAnswer (Err fault) wanted = IsFault fault wanted

-- the same for a part and the text after it
abbrev pub IsSplit : {A B : Type 0} → Result (A × Bor (List B)) TokenFault → Option (A × List B) → Type 0
IsSplit (Ok found) wanted = wanted ≡ Some (found.0, found.1.now)
IsSplit (Err fault) wanted = IsFault fault wanted
