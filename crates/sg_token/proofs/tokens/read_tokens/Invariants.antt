use Rattle.std.proofs.Common.{◌≡◌, ◌++◌, List, length}
use Rattle.sg_token.specs.Tokens.{FallsInto}
use Rattle.sg_token.specs.declared.token.Token.{Token}
use Rattle.sg_token.proofs.tokens.read_tokens.Given as goal

abbrev pub decreases-loop-first : goal.decreases-loop-first
decreases-loop-first l = length l.rest

-- the tokens of the whole are those so far and then those of the rest
abbrev pub invariant-loop-first : goal.invariant-loop-first
invariant-loop-first l = record {
  joins : (ts : List Token) → FallsInto l.rest ts → FallsInto l.fn.text (l.found.items ++ ts);
  only : (ts : List Token) → FallsInto l.fn.text ts → (us : List Token) × (ts ≡ l.found.items ++ us) × FallsInto l.rest us;
}
