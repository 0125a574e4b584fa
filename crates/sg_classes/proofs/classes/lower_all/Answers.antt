use Rattle.std.proofs.Common.{◌≡◌, ◌+◌, ◌%◌, length, get_or, min, set, sym, ap, subst, arith}
use Rattle.sg_classes.specs.Classes.{IsLoweredBy}
use Rattle.sg_classes.proofs.LoweredLemmas.{lowered-more}
use Rattle.sg_classes.proofs.classes.lower_all.Goals as goal

pub loop-place-preserved : goal.loop-place-preserved
loop-place-preserved c =
    let list = c.args.list.now in
    let old = c.args.table.now in
    let now = c.loop-place.table in
    let p = c.loop-place.place in
    let h = c.loop-place.invariant in
    let class = get_or list p 0 % length now in
    let e : class ≡ get_or list p 0 % length old = ap (λ n. get_or list p 0 % n) h.long in
    let v : c.min.result ≡ min (get_or now class 0) (get_or list p 0) = omega (arith, c.min.ensures) in
    subst (λ x. IsLoweredBy list old (set now class x) (p + 1)) (sym v) (lowered-more list old now p class c.requires e h)
