-- Truth values, and signs before operands.
use Rattle.std.proofs.Common.{◌≡◌, ◌+◌, ℕ, zero, suc, Bool, true, false, not, Result, Ok, Err, IsErrAnd, refl, ap, sym, ◌∙◌, subst, arith}
use Rattle.sg_value.specs.Known.{named}
use Rattle.std.proofs.Math.Path.{fun_ext}
use Rattle.sg_value.specs.Data.{int, truth, text, list, ratio, fail, semigroup, ideal, data_map, EachThing}
use Rattle.sg_value.specs.Plain.{Named, AllKnown, IsKnown, plain, thing_at}
use Rattle.sg_value.specs.declared.value.Value.{Value}
use Rattle.sg_value.specs.declared.value.Value.TheVariants as value
use Rattle.sg_rows.specs.Order.{Plain}
use Rattle.sg_rows.specs.declared.fault.CallFault.{CallFault}
use Rattle.sg_rows.proofs.Replying.{contents-Bool}
use Rattle.sg_meaning.specs.Expressions.{decided, turned}
use Rattle.sg_eval.specs.Outcomes.{Evaluates}
use Rattle.sg_meaning.specs.Process.{Process, gives, refuses, reads, asks, sets, writes, ◌>>=◌}
use Rattle.sg_eval.specs.State.{State}
use Rattle.sg_eval.specs.Truths.{itself, no_semigroup}
use Rattle.sg_eval.proofs.Evaluating.{evaluates_then, evaluates_exit, evaluates_gives, evaluates_as}

-- a truth value, handed on
pub decided_bind : {A : Type 0} (d : Plain) (f : Bool → Process A) → decided d (λ b. gives b) >>= f ≡ decided d f
decided_bind (truth b) f = refl
decided_bind (int z) f = refl
decided_bind (text bs) f = refl
decided_bind (list ds) f = refl
decided_bind (ratio p q) f = refl
decided_bind fail f = refl
decided_bind (semigroup h) f = refl
decided_bind (ideal h) f = refl

module _ {Y B : Type 0} (view : Named → Y → B) (known : Named → Y → Type 0) (v : Value) (s : State) (f : Named → Bool → Process B) where
  -- a value that is no truth value
  pub decided_exit : (r : Result Y CallFault) (e : CallFault) → IsErrAnd r (λ y. y ≡ e) → Evaluates itself no_semigroup (Err e) s s (λ names. decided (plain names v) (λ b. gives b))
      → Evaluates view known r s s (λ names. decided (plain names v) (f names))
  decided_exit r e failed h =
      evaluates_as view known r s s (λ names. decided (plain names v) (λ b. gives b) >>= f names) (λ names. decided (plain names v) (f names)) (λ names. decided_bind (plain names v) (f names))
      (evaluates_exit itself no_semigroup view known r e s s (λ names. decided (plain names v) (λ b. gives b)) f failed h)

  -- a truth value, and what comes of it
  pub decided_then : (s1 : State) (b : Bool) (r : Result Y CallFault) → Evaluates itself no_semigroup (Ok b) s s (λ names. decided (plain names v) (λ c. gives c)) → Evaluates view known r s s1 (λ names. f names b)
      → Evaluates view known r s s1 (λ names. decided (plain names v) (f names))
  decided_then s1 b r h g =
      evaluates_as view known r s s1 (λ names. decided (plain names v) (λ c. gives c) >>= f names) (λ names. decided (plain names v) (f names)) (λ names. decided_bind (plain names v) (f names))
      (evaluates_then itself no_semigroup view known b r s s s1 (λ names. decided (plain names v) (λ c. gives c)) f h g)

-- a truth value at once
pub evaluates_truth : (b c : Bool) (s : State) → b ≡ c → Evaluates plain AllKnown (Ok (value.Bool b)) s s (λ names. gives (truth c))
evaluates_truth b c s same =
    evaluates_gives plain AllKnown (value.Bool b) s (λ names. truth c) (subst (EachThing (IsKnown (named s.names))) (sym (contents-Bool b)) tt)
    (λ final later. ap (data_map (thing_at (named final))) (contents-Bool b) ∙ ap truth same)

not_not : (b : Bool) → not (not b) ≡ b
not_not true = refl
not_not false = refl

-- turned an even number of times
pub turned_even : (n k : ℕ) (b : Bool) → n ≡ k + k → turned n b ≡ b
turned_even zero k b is = refl
turned_even (suc zero) k b is = absurd (omega (arith, is))
turned_even (suc (suc m)) zero b is = absurd (omega (arith, is))
turned_even (suc (suc m)) (suc k) b is = turned_even m k (not (not b)) (omega (arith, is)) ∙ not_not b

-- turned an odd number of times
pub turned_odd : (n k : ℕ) (b : Bool) → n ≡ suc (k + k) → turned n b ≡ not b
turned_odd zero k b is = absurd (omega (arith, is))
turned_odd (suc m) k b is = turned_even m k (not b) (omega (arith, is))
