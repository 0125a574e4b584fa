-- Ideals that calls made, as what rows tell.
use Rattle.std.proofs.Common.{ℕ, ℤ, List, Result, Ok, Err, inl, inr, refl, ap, sym, subst}
use Rattle.std.specs.Prelude.{IfOk, IfErr, OnOk, ◌⊎◌}
use Rattle.sg_defs.specs.Ideals.{RelativeIdeal}
use Rattle.sg_ideal.specs.Value.{HasLargeGenerator, IsIdealOf}
use Rattle.sg_ideal.specs.declared.fault.IdealFault.{IdealFault}
use Rattle.sg_ideal.specs.declared.fault.IdealFault.TheVariants as made_of
use Rattle.sg_laws_ideals.proofs.SizeDecisions.{large_generator-none}
use Rattle.sg_value.specs.Data.{ideal}
use Rattle.sg_rows.specs.Order.{Row}
use Rattle.sg_rows.specs.Made.{Tells}
use Rattle.sg_rows.specs.declared.made.Made.{Made}
use Rattle.sg_rows.specs.declared.fault.CallFault.{CallFault}
use Rattle.sg_rows.specs.declared.fault.CallFault.TheVariants.{Script, Memory}
use Rattle.sg_rows_ideals.specs.Settled.{IsIdealMade, IsSettled, IsWantOfMemory}
use Rattle.sg_rows_ideals.specs.Rows.{an_ideal, over}

pub both_ok : {A E : Type 0} (r : Result A E) (P Q : Type 0) → OnOk r P → OnOk r Q → OnOk r (P × Q)
both_ok (Ok a) P Q p q = (p, q)
both_ok (Err e) P Q p q = tt

-- how a call that makes the ideal of the integers with P serves a row: R says when it refuses
pub record Serves (G : List ℕ) (P : ℤ → Type 0) (accepted : Type 0) (R : IdealFault → Type 0) (size bad : Type 0) : Type 0 where
  pub good : accepted → (¬ size) × (¬ bad)
  pub refused : R made_of.BadArgument → (¬ size) × bad
  pub large : R made_of.TooLarge → size ⊎ ((¬ size) × (¬ bad) × HasLargeGenerator G P)

module _ (G : List ℕ) (P : ℤ → Type 0) (size bad : Type 0) where
  abbrev row : Row
  row = record (an_ideal G P) { size = size; bad = bad }

  -- an ideal that was made
  pub told : (J : RelativeIdeal) (m : Made) → IsIdealMade J m → IsIdealOf G P J → (¬ size) × (¬ bad) → Tells (Ok m) row
  told J m h made good =
      subst (λ x. Tells (Ok x) row) (sym h.0) (
        record {
          passes = record { size = good.0; bad = good.1; limit = λ l. l J.generators made.generates made.small; many = λ n. n; budget = λ n. n };
          value = (J.generators, ap (λ A. ideal (over A J.generators)) made.ambient, made.generates);
        },
        h.1,
      )

  no_memory : (e : CallFault) → IsWantOfMemory e → Tells (Err e) row
  no_memory (Script e) h = absurd h
  no_memory (Memory e) h = tt

  module _ (accepted : Type 0) (R : IdealFault → Type 0) (serves : Serves G P accepted R size bad) where
    -- the reply of a row that such a call serves
    pub settles : (made : Result RelativeIdeal IdealFault) (r : Result Made CallFault) → IsSettled made r → IfOk made (IsIdealOf G P) → OnOk made accepted → IfErr made R → Tells r row
    settles (Ok J) (Ok m) h made ok refused = told J m h made (serves.good ok)
    settles (Ok J) (Err e) h made ok refused = no_memory e h
    settles (Err made_of.BadArgument) r h made ok refused =
        let bad = serves.refused refused in
        subst (λ s. Tells s row) (sym h) (inr (bad.0, inl (bad.1, refl)))
    settles (Err made_of.TooLarge) r h made ok refused = elim (serves.large refused) [
      | inl large ↦ subst (λ s. Tells s row) (sym h) (inl (large, refl))
      | inr past ↦ subst (λ s. Tells s row) (sym h) (inr (past.0, inr (past.1, inl (large_generator-none G P past.2, refl))))
    ]
    settles (Err (made_of.Memory e)) r h made ok refused = subst (λ s. Tells s row) (sym h) tt
