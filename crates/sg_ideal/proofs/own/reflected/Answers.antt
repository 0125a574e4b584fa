use Rattle.std.proofs.Common.{◌≡◌, ℕ, ◌+◌, ◌-◌, ◌<◌, ◌++◌, ◌∷◌, [], List, length, get_or, sym, ap, subst, ℤ, pos, ◌-ℤ◌, to_z, of_z, w64, arith}
use Rattle.std.proofs.lemmas.Int.{ints}
use Rattle.std.proofs.lemmas.List.{length_push}
use Rattle.sg_ideal.proofs.OwnLemmas.{reflected-push}
use Rattle.sg_ideal.proofs.own.reflected.Goals as goal

pub loop-place-preserved : goal.loop-place-preserved
loop-place-preserved c =
    let l = c.args.numbers.now in
    let r = c.loop-place.list in
    let k = c.loop-place.place in
    let h = to_z w64 (of_z w64 c.args.highest) in
    let read = get_or l (length l - 1 - k) (pos 0) in
    let x = to_z w64 (of_z w64 (h -ℤ to_z w64 (of_z w64 read))) in
    let inside : length l - 1 - k < length l = let t = c.loop-place-test.true in omega arith in
    let low = c.requires.low (length l - 1 - k) inside in
    let high = c.requires.high (length l - 1 - k) inside in
    let e : x ≡ h -ℤ read = omega (arith, ints, low, high) in
    let pushed : c.push.new.self ≡ r ++ x ∷ [] = c.in_ok-push.ensures.ok in
    record {
      long = omega (arith, ap length pushed, length_push r x);
      entries = subst (λ (m : List ℤ). (i : ℕ) → i < k + 1 → get_or m i (pos 0) ≡ h -ℤ get_or l (length l - 1 - i) (pos 0)) (sym pushed)
          (reflected-push h l r k x c.loop-place.invariant.long e c.loop-place.invariant.entries);
    }
