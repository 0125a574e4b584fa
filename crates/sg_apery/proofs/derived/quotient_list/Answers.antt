use Rattle.std.proofs.Common.{◌≡◌, ℕ, ◌*◌, ◌%◌, ◌≤◌, ◌↔◌, length, arith}
use Rattle.std.proofs.lemmas.List.{length_push}
use Rattle.sg_classes.specs.Classes.{IsAboveEntry}
use Rattle.sg_classes.proofs.GeneratorLemmas.{each-push}
use Rattle.sg_apery.proofs.QuotientLemmas.{quotient-classes}
use Rattle.sg_apery.proofs.derived.quotient_list.Goals as goal

pub loop-class-preserved : goal.loop-class-preserved
loop-class-preserved c =
    let before = c.loop-class.invariant in
    let old = c.loop-class.list.items in
    let apery = c.args.apery.now in
    let v = c.quotient_entry.result in
    let n = c.loop-class.class in
    rw c.in_ok-push.ensures.items (record {
      long = omega (arith, length_push old v, before.long);
      residue = each-push (λ i w. w % length apery ≡ i) old v n before.long before.residue c.quotient_entry.ensures.residue;
      above = λ i x l e. each-push (λ i w. (x : ℕ) → x % length apery ≡ i → (w ≤ x) ↔ IsAboveEntry apery (c.args.d * x)) old v n before.long
          (λ i l x. before.above i x l) c.quotient_entry.ensures.above i l x e;
    })

pub returns-clause-classes : goal.returns-clause-classes
returns-clause-classes c =
    let h = c.loop-class.invariant in
    quotient-classes c.args.apery.now c.loop-class.list.items c.args.d c.requires.not_empty c.requires.zero (omega (arith, h.long))
    (λ i l. h.residue i (omega arith)) (λ i x l. h.above i x (omega arith))
