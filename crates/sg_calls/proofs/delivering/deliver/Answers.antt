use Rattle.std.proofs.Common.{◌≡◌, ◌↔◌, ◌<◌, ◌≤◌, ℕ, Bool, false, IsTrue, Ok, Err, sym, ◌∙◌, subst, arith}
use Rattle.std.proofs.lemmas.Bool.{false≢true}
use native.Mathlib.Decide.{dec_le}
use Rattle.sg_value.specs.declared.limits.TheConstants.{WEIGHT_LIMIT}
use Rattle.sg_rows.specs.declared.fault.CallFault.TheVariants.{Script}
use Rattle.sg_rows.specs.declared.fault.Fault.TheVariants.{TooLarge}
use Rattle.sg_calls.specs.Delivered.{IsDelivered, weight_made}
use Rattle.sg_calls.proofs.MadeValues.{heavy_replies, value_replies}
use Rattle.sg_calls.proofs.delivering.deliver.Goals as goal

-- a weight that is not too heavy
light : (b : Bool) (n : ℕ) → (IsTrue b ↔ (WEIGHT_LIMIT ≤ n)) → b ≡ false → n < WEIGHT_LIMIT
light b n h is = by (dec_le WEIGHT_LIMIT n)
  where
    by : Dec (WEIGHT_LIMIT ≤ n) → n < WEIGHT_LIMIT
    by (yes le) = absurd (false≢true (sym is ∙ h.1 le))
    by (no gt) = omega arith

pub returns-in-Ok-clause-delivered : goal.returns-in-Ok-clause-delivered
returns-in-Ok-clause-delivered c =
    let store = c.args.ids.now in
    subst (λ t. IsDelivered t store (Err (Script TooLarge))) (sym c.in-Ok.is) (heavy_replies store c.in-Ok.made (c.is_too_heavy.ensures.0 c.if-is_too_heavy.true))

pub returns-in_ok-value_of-in-Ok-2-clause-delivered : goal.returns-in_ok-value_of-in-Ok-2-clause-delivered
returns-in_ok-value_of-in-Ok-2-clause-delivered c =
    let store = c.value_of.new.ids in
    let v = c.in_ok-value_of-in-Ok-2.field-0 in
    let few = light c.is_too_heavy.result (weight_made c.in-Ok.made) c.is_too_heavy.ensures c.if-is_too_heavy.false in
    subst (λ t. IsDelivered t store (Ok v)) (sym c.in-Ok.is) (value_replies store c.in-Ok.made v c.in_ok-value_of-in-Ok-2.ensures.value few)
