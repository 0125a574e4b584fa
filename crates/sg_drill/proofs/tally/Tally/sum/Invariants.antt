use Rattle.std.proofs.Common.{◌≡◌, ◌*◌, ◌≤◌, take, sum}
use Rattle.sg_drill.proofs.tally.Tally.sum.Given as goal

abbrev pub invariant-loop-byte : goal.invariant-loop-byte
invariant-loop-byte l = record { so_far : l.sum ≡ sum (take l.byte-index l.self.bytes.items); small : l.sum ≤ 255 * l.byte-index }
