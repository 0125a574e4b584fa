-- A decomposition of a numerical semigroup is irredundant: where it has no special gap it is that of all naturals, and else
-- the members are the covers of the chosen ones.
use Rattle.std.proofs.Common.{◌≡◌, ℕ, ◌<◌, List, [], ◌∷◌, length, refl, sym, subst, inl, inr, arith}
use Rattle.std.specs.Prelude.{◌⊎◌, ℤ}
use Rattle.sg_defs.specs.Membership.{IsNumericalSemigroup}
use Rattle.sg_defs.specs.Decomposition.{IsDecomposition, IsIrredundant}
use Rattle.sg_irred.proofs.IrredundantLemmas.{covers-irredundant, whole-irredundant, all-members, no-special}
use Rattle.sg_laws_invariants.proofs.InvariantsExist.{frobenius-exists}

none-or_some : (xs : List ℤ) → (xs ≡ []) ⊎ (0 < length xs)
none-or_some [] = inl refl
none-or_some (x ∷ xs) = inr (omega arith)

-- a decomposition is irredundant
pub decomposition-irredundant : (G : List ℕ) (L : List (List ℕ)) → IsNumericalSemigroup G → IsDecomposition G L → IsIrredundant G L
decomposition-irredundant G L s d =
    let f = frobenius-exists G s in
    elim (none-or_some d.special) [
      | inl none ↦
          let own = d.whole none in
          subst (IsIrredundant G) (sym own.1) (whole-irredundant G own.0 (all-members G f.0 f.1 (no-special G d.special d.is_special none)) own.2)
      | inr some ↦ covers-irredundant G d.special d.chosen L f.0 d.is_special d.is_chosen (d.covers some) f.1 some
    ]
