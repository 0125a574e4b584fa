use Rattle.std.proofs.Common.{◌≡◌, ◌+◌, ◌≤◌, length}
use Rattle.sg_token.specs.declared.symbol.Symbol.TheVariants as symbol
use Rattle.sg_token.specs.declared.token.Token.TheVariants as token
use Rattle.sg_expression.specs.Grammar.{times}
use Rattle.sg_expression.proofs.front.count_minus.Given as goal

abbrev pub decreases-loop-after : goal.decreases-loop-after
decreases-loop-after l = length l.rest

-- the signs so far stand before the rest
abbrev pub invariant-loop-after : goal.invariant-loop-after
invariant-loop-after l = record {
  front : l.tokens ≡ times l.count (token.Symbol symbol.Minus) l.rest;
  room : l.count + length l.rest ≤ length l.tokens;
}
