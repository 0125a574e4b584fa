use Rattle.std.proofs.Common.{◌≡◌, ◌+◌, ◌≤◌, length}
use Rattle.sg_token.specs.declared.token.Token.TheVariants as token
use Rattle.sg_token.specs.declared.word.Word.TheVariants as word
use Rattle.sg_expression.specs.Grammar.{times}
use Rattle.sg_expression.proofs.front.count_not.Given as goal

abbrev pub decreases-loop-after : goal.decreases-loop-after
decreases-loop-after l = length l.rest

-- the signs so far stand before the rest
abbrev pub invariant-loop-after : goal.invariant-loop-after
invariant-loop-after l = record {
  front : l.tokens ≡ times l.count (token.Word word.Not) l.rest;
  room : l.count + length l.rest ≤ length l.tokens;
}
