use Rattle.std.proofs.Common.{◌≡◌, ◌≤◌, length}
use Rattle.sg_token.specs.Strings.{string_at, with_bytes}
use Rattle.sg_token.proofs.quoted.take_string.Given as goal

abbrev pub decreases-loop-first : goal.decreases-loop-first
decreases-loop-first l = length l.rest

-- the whole stands for the bytes so far and then for what the rest stands for
abbrev pub invariant-loop-first : goal.invariant-loop-first
invariant-loop-first l = record {
  stands : string_at l.fn.text ≡ with_bytes l.bytes (string_at l.rest);
  shorter : length l.rest ≤ length l.fn.text;
}
