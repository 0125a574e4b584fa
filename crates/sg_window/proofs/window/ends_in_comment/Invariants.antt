use Rattle.std.proofs.Common.{◌≡◌, drop}
use Rattle.std.specs.Prelude.{fold}
use Rattle.sg_window.specs.Comments.{in_comment, ends_in_comment}
use Rattle.sg_window.proofs.window.ends_in_comment.Given as goal

-- the bytes that are left decide, from where the comment stands
abbrev pub invariant-loop-byte : goal.invariant-loop-byte
invariant-loop-byte l = fold in_comment l.goes_on (drop l.byte-index l.bytes) ≡ ends_in_comment l.bytes
