use Rattle.std.proofs.Common.{◌≡◌, ℕ, ◌+◌, ◌<◌, drop, pos, ◌+ℤ◌, ℤ, List, length, get_or, to_z, arith}
use Rattle.std.proofs.lemmas.Int.{ints}
use Rattle.std.proofs.lemmas.List.{at_drop_more}
use mir.Syntax.{w128}
use Rattle.sg_rows_lists.specs.Integers.{total}
use Rattle.sg_rows_lists.proofs.sums.total.Goals as goal

-- one entry more
total_more : (zs : List ℤ) (i : ℕ) (s t : ℤ) → i < length zs → (s +ℤ total (drop i zs)) ≡ t → ((s +ℤ get_or zs i (pos 0)) +ℤ total (drop (i + 1) zs)) ≡ t
total_more zs i s t within so_far = let e : total (drop i zs) ≡ get_or zs i (pos 0) +ℤ total (drop (i + 1) zs) = at_drop_more total zs i (pos 0) within in omega (arith, ints)

pub loop-z-preserved : goal.loop-z-preserved
loop-z-preserved c =
    let step = total_more c.args.zs.now c.loop-z.z-index (to_z w128 c.loop-z.sum-bits) (total c.args.zs.now) c.loop-z-test.true c.loop-z.invariant.rest in
    record {
      rest = omega (arith, ints, step);
      low = omega (arith, ints);
      high = omega (arith, ints);
    }
