-- Taking tokens off the front of a text.
use Rattle.std.specs.Prelude.{◌≡◌, ℕ, ◌<◌, List, ◌∷◌, length, Option, None, Some, Result, Ok, Err}
use denote.Ref.{Bor}
use Rattle.sg_token.specs.Tokens.{FallsInto}
use Rattle.sg_token.specs.declared.token.Token.{Token}
use Rattle.sg_token.specs.declared.token.TokenFault.{TokenFault}
use Rattle.sg_token.specs.declared.token.TokenFault.TheVariants.{Syntax, Memory}

-- the tokens after one, or after none
abbrev pub prefixed : Option Token → List Token → List Token
prefixed None tokens = tokens
prefixed (Some token) tokens = token ∷ tokens

-- the text has just the tokens of the rest behind this one
pub record IsFirst (text : List ℕ) (token : Option Token) (rest : List ℕ) : Type 0 where
  pub joins : (tokens : List Token) → FallsInto rest tokens → FallsInto text (prefixed token tokens)
  pub only : (tokens : List Token) → FallsInto text tokens → (others : List Token) × (tokens ≡ prefixed token others) × FallsInto rest others
  pub shorter : length rest < length text

-- the text falls into no tokens, where the fault is Syntax
abbrev pub IsTorn : List ℕ → TokenFault → Type 0
IsTorn text Syntax = (tokens : List Token) → FallsInto text tokens → ⊥
IsTorn text (Memory cause) = Unit {0}

-- what the text begins with was taken, or no tokens are there
abbrev pub Takes : List ℕ → Result (Option Token × Bor (List ℕ)) TokenFault → Type 0
Takes text (Ok found) = IsFirst text found.0 found.1.now
Takes text (Err fault) = IsTorn text fault
