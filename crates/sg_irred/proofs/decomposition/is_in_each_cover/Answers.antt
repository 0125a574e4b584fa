use Rattle.std.proofs.Common.{◌≡◌, ◌≤◌, nat_abs, length, get_or, refl, arith, pos, to_z, of_z, w64}
use Rattle.std.proofs.lemmas.Int.{ints}
use Rattle.sg_irred.proofs.ChoiceLemmas.{first-more, first-all, each-at}
use Rattle.sg_irred.proofs.decomposition.is_in_each_cover.Goals as goal

pub returns-then-not-is_in_cover : goal.returns-then-not-is_in_cover
returns-then-not-is_in_cover c =
    let G = c.args.table.now in
    let ks = c.args.given.now in
    let h = c.args.h in
    let i = c.loop-k.k-index in
    let k = to_z w64 (of_z w64 (get_or ks i (pos 0))) in
    let low = (c.requires.given i c.loop-k-test.true).0 in
    let high = (c.requires.given i c.loop-k-test.true).1 in
    let same : k ≡ get_or ks i (pos 0) = omega (arith, ints, low, high) in
    let natural : h ≡ pos (nat_abs (to_z w64 (of_z w64 h))) = omega (arith, ints) in
    ((λ t. absurd cc), (λ all. c.if-not-is_in_cover.ensures.1 (each-at G ks h k i (nat_abs (to_z w64 (of_z w64 h))) all c.loop-k-test.true same natural)))

pub loop-k-preserved : goal.loop-k-preserved
loop-k-preserved c =
    let G = c.args.table.now in
    let ks = c.args.given.now in
    let h = to_z w64 (of_z w64 c.args.h) in
    let i = c.loop-k.k-index in
    let k = to_z w64 (of_z w64 (get_or ks i (pos 0))) in
    let low = (c.requires.given i c.loop-k-test.true).0 in
    let high = (c.requires.given i c.loop-k-test.true).1 in
    let same : k ≡ get_or ks i (pos 0) = omega (arith, ints, low, high) in
    let natural : h ≡ pos (nat_abs h) = omega (arith, ints) in
    first-more G ks h k i (nat_abs h) c.loop-k.invariant same natural (c.if-not-is_in_cover.ensures.0 refl)

pub returns : goal.returns
returns c =
    let ks = c.args.given.now in
    let h = to_z w64 (of_z w64 c.args.h) in
    let back : h ≡ c.args.h = omega (arith, ints) in
    let whole : length ks ≤ c.loop-k.k-index = omega arith in
    ((λ t. first-all c.args.table.now ks c.args.h h c.loop-k.k-index c.loop-k.invariant whole back), (λ all. refl))
