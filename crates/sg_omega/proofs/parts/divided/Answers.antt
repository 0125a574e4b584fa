use Rattle.std.proofs.Common.{ℕ, refl}
use Rattle.sg_omega.specs.Lengths.{IsInAperySet, IsLowered}
use Rattle.sg_omega.proofs.PartLemmas.{kept-none, kept-push, kept-skip, kept-all}
use Rattle.sg_omega.proofs.parts.divided.Goals as goal
use Rattle.sg_omega.proofs.parts.divided.Goals.{then-is_lowered+in_ok-push, else-is_lowered+in_ok-push-2}

pub loop-v-init : goal.loop-v-init
loop-v-init c = record {
  inside = rw c.new.ensures.items (kept-none (λ (v : ℕ). IsInAperySet c.args.t.now v c.args.generator));
  outside = rw c.new-2.ensures.items (kept-none (λ (v : ℕ). IsLowered c.args.t.now v c.args.generator));
}

pub loop-v-preserved : goal.loop-v-preserved
loop-v-preserved c =
    let P : ℕ → Type 0 = λ v. IsInAperySet c.args.t.now v c.args.generator in
    let Q : ℕ → Type 0 = λ v. IsLowered c.args.t.now v c.args.generator in
    let xs = c.args.values.now in
    let i = c.loop-v.v-index in
    let before = c.loop-v.parts in
    elim c.if-is_lowered.branch [
      | then-is_lowered+in_ok-push w ↦
          let low = w.if-is_lowered.ensures.0 refl in
          record {
            inside = rw w.parts-is (kept-skip P xs i before.inside.items c.loop-v-test.true (λ set. set low.0 low.1 low.2) c.loop-v.invariant.inside);
            outside = rw (w.parts-is, w.in_ok-push.ensures.items) (kept-push Q xs i before.outside.items c.loop-v-test.true low c.loop-v.invariant.outside);
          }
      | else-is_lowered+in_ok-push-2 w ↦
          record {
            inside = rw (w.parts-is, w.in_ok-push-2.ensures.items)
                (kept-push P xs i before.inside.items c.loop-v-test.true (λ y e member. absurd (let f = w.if-is_lowered.ensures.1 (y, e, member) in cc)) c.loop-v.invariant.inside);
            outside = rw w.parts-is (kept-skip Q xs i before.outside.items c.loop-v-test.true (λ low. absurd (let f = w.if-is_lowered.ensures.1 low in cc)) c.loop-v.invariant.outside);
          }
    ]

pub returns-clause-inside : goal.returns-clause-inside
returns-clause-inside c =
    let P : ℕ → Type 0 = λ v. IsInAperySet c.args.t.now v c.args.generator in
    kept-all P c.args.values.now c.loop-v.v-index c.loop-v.parts.inside.items c.loop-v-test.false c.loop-v.invariant.inside

pub returns-clause-outside : goal.returns-clause-outside
returns-clause-outside c =
    let P : ℕ → Type 0 = λ v. IsLowered c.args.t.now v c.args.generator in
    kept-all P c.args.values.now c.loop-v.v-index c.loop-v.parts.outside.items c.loop-v-test.false c.loop-v.invariant.outside
