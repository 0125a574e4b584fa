-- Constructors as what rows tell.
use Rattle.std.proofs.Common.{◌↔◌, ℕ, List, Result, Ok, Err, inl, inr, refl, sym, subst, arith}
use Rattle.std.specs.Prelude.{IfOk, IfErr, OnOk}
use Rattle.sg_defs.specs.Membership.{Generates}
use Rattle.sg_apery.specs.Fit.{IsFit, IsPastLimits, IsTooLarge}
use Rattle.sg_apery.specs.declared.fault.TableFault.{TableFault}
use Rattle.sg_apery.specs.declared.fault.TableFault.TheVariants as table
use Rattle.sg_apery.proofs.OneListLemmas.{one-minimal_list}
use Rattle.sg_apery.proofs.DerivedLemmas.{generates-iff, too_large-iff}
use Rattle.sg_rows.specs.Order.{Row}
use Rattle.sg_rows.specs.Values.{generates}
use Rattle.sg_rows.specs.Made.{Tells}
use Rattle.sg_rows.specs.declared.made.Made.{Made}
use Rattle.sg_rows.specs.declared.fault.CallFault.{CallFault}
use Rattle.sg_rows.specs.declared.fault.CallFault.TheVariants.{Script, Memory}
use Rattle.sg_rows_constructors.specs.Settled.{IsSettled, IsSemigroupOf, IsMemory}

past_unfit : (G : List ℕ) → IsFit G → IsPastLimits G → ⊥
past_unfit G fit (inl past) = omega (arith, fit.multiplicity)
past_unfit G fit (inr large) = omega (arith, fit.small large.0 large.1, large.2)

-- a semigroup past the limits has no fit list
pub unfit : (P Q : ℕ → Type 0) → ((n : ℕ) → P n ↔ Q n) → IsTooLarge Q → (G : List ℕ) → Generates P G → IsFit G → ⊥
unfit P Q same past G generated fit =
    let large = too_large-iff P Q same past in
    past_unfit large.0 (subst IsFit (one-minimal_list P G large.0 generated large.1) fit) large.2

-- how a constructor of the naturals with Q serves a row of the naturals with P: R says when it refuses
pub record Serves (P Q : ℕ → Type 0) (accepted : Type 0) (R : TableFault → Type 0) (size bad : Type 0) : Type 0 where
  pub small : ¬ size
  pub same : (n : ℕ) → P n ↔ Q n
  pub good : (G : List ℕ) → Generates P G → accepted → ¬ bad
  pub refused : R table.BadArgument → bad
  pub large : R table.TooLarge → (¬ bad) × ((G : List ℕ) → Generates P G → ¬ IsFit G)

module _ (P Q : ℕ → Type 0) (accepted : Type 0) (R : TableFault → Type 0) (size bad : Type 0) (serves : Serves P Q accepted R size bad) where
  abbrev row : Row
  row = record (generates P) { size = size; bad = bad }

  told : (G : List ℕ) (m : Made) → IsSemigroupOf G m → Generates Q G → accepted → Tells (Ok m) row
  told G m h generated ok =
      let g = generates-iff P Q serves.same G generated in
      subst (λ x. Tells (Ok x) row) (sym h.0)
      (record { passes = record { size = serves.small; bad = serves.good G g ok; limit = λ l. l G g h.1.fit; many = λ n. n; budget = λ n. n }; value = (G, refl, g) }, h.1)

  no_memory : (e : CallFault) → IsMemory e → Tells (Err e) row
  no_memory (Script e) h = absurd h
  no_memory (Memory e) h = tt

  -- what a row tells that a constructor serves
  pub settles : (made : Result (List ℕ) TableFault) (r : Result Made CallFault) → IsSettled made r → IfOk made (λ G. Generates Q G) → OnOk made accepted → IfErr made R → Tells r row
  settles (Ok G) (Ok m) h generated ok refused = told G m h generated ok
  settles (Ok G) (Err e) h generated ok refused = no_memory e h
  settles (Err table.BadArgument) r h generated ok refused = subst (λ s. Tells s row) (sym h) (inr (serves.small, inl (serves.refused refused, refl)))
  settles (Err table.TooLarge) r h generated ok refused =
      let large = serves.large refused in
      subst (λ s. Tells s row) (sym h) (inr (serves.small, inr (large.0, inl (large.1, refl))))
  settles (Err (table.Memory e)) r h generated ok refused = subst (λ s. Tells s row) (sym h) tt
