-- The faults of modular and proportionally modular semigroups.
use Rattle.std.proofs.Common.{ℕ, ◌↔◌, inl, inr, arith}
use Rattle.sg_classes.proofs.EntryLemmas.{too_large-iff}
use Rattle.sg_small.specs.Modular.{AreModular, IsModular, IsProportional}
use Rattle.sg_small.proofs.ModularLemmas.{modular-proportional}
use Rattle.sg_apery.specs.Fit.{IsSizeFault}
use Rattle.sg_apery.specs.Modular.{IsModularRefused, IsProportionalRefused}
use Rattle.sg_apery.specs.declared.fault.TableFault.{TableFault}
use Rattle.sg_apery.specs.declared.fault.TableFault.TheVariants.{BadArgument, TooLarge, Memory}

-- the faults of a semigroup of accepted numbers
pub proportional-faults : (a b c : ℕ) (Q : ℕ → Type 0) → AreModular a b c → ((n : ℕ) → IsProportional a b c n ↔ Q n) → (f : TableFault) → IsSizeFault Q f → IsProportionalRefused a b c f
proportional-faults a b c Q h same BadArgument p = absurd p
proportional-faults a b c Q h same TooLarge p = inr (h, too_large-iff (IsProportional a b c) Q same p)
proportional-faults a b c Q h same (Memory e) p = tt

-- the faults of a modular semigroup
pub modular-faults : (a b : ℕ) (f : TableFault) → IsProportionalRefused a b 1 f → IsModularRefused a b f
modular-faults a b BadArgument h = (
  h.0,
  elim h.1 [
    | inl p ↦ inl p
    | inr q ↦ elim q [
      | inl r ↦ inr r
      | inr r ↦ absurd (omega arith)
    ]
  ],
)
modular-faults a b TooLarge h = elim h [
  | inl p ↦ inl p
  | inr q ↦ inr (q.0, too_large-iff (IsModular a b) (IsProportional a b 1) (modular-proportional a b) q.1)
]
modular-faults a b (Memory e) h = tt
