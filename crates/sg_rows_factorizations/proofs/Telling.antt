-- What functions told of rows on factorizations.
use Rattle.std.proofs.Common.{◌≡◌, ◌-◌, ◌<◌, ◌^◌, ℕ, List, length, get_or, Ok, Err, inl, inr, refl, false, arith}
use Rattle.std.specs.Prelude.{ℤ, pos, negsuc, nat_abs, ◌<ℤ◌, ◌≤ℤ◌, All, FitsSigned}
use Rattle.std.specs.Int.{w64}
use lib.Signed.{lt_z}
use mir.Val.{to_z, of_z}
use Rattle.std.proofs.lemmas.Int.{ints}
use Rattle.sg_defs.specs.Listings.{Lists}
use Rattle.sg_defs.specs.Membership.{IsIntegerMember}
use Rattle.sg_nonunique.specs.Counts.{Exceeds}
use Rattle.sg_nonunique.specs.Deltas.{IsDelta}
use Rattle.sg_nonunique.specs.Factorizations.{IsIntegerFactorization, IsLengthIn}
use Rattle.sg_nonunique.specs.Omega.{IsOmega, IsOmegaOfSemigroup}
use Rattle.sg_apery.specs.Fit.{IsNarrow}
use Rattle.sg_factor.specs.Faults.{IsRefused}
use Rattle.sg_factor.specs.Steps.{IsStepOf}
use Rattle.sg_factor.specs.declared.fault.FactorFault.{FactorFault}
use Rattle.sg_factor.specs.declared.fault.FactorFault.TheVariants as factor
use Rattle.sg_factor.specs.declared.limits.TheConstants.{LENGTH_LIMIT}
use Rattle.sg_factor.proofs.StepLemmas.{deltas-from_lengths}
use Rattle.sg_laws_invariants.proofs.SpansExist.{span-one}
use Rattle.sg_omega.specs.Limits.{IsWithinLimit}
use Rattle.sg_rows.specs.Made.{Tells, AreWithinBits}
use Rattle.sg_rows.specs.Order.{Plain, Passes}
use Rattle.sg_rows.specs.Values.{a_natural, naturals_with, vectors_with}
use Rattle.sg_rows.specs.declared.made.Made.TheVariants.{Natural, Naturals, Vectors}
use Rattle.sg_rows.proofs.Signed.{not_below, of_bits_right}
use Rattle.sg_rows_factorizations.specs.Elements.{IsPastOmega, counted, measured, omega_row, semigroup_omega_row}
use Rattle.sg_rows_factorizations.specs.Refusals.{refusal_of}

no : ⊥ → ⊥
no h = h

module _ (G : List ℕ) (x : ℤ) (narrow : IsNarrow G) where
  -- ---- rows on all factorizations

  module _ (b : ℕ) where
    -- there are too many, or memory was wanting
    pub counted_refused : (P : Plain → Type 0) (e : FactorFault) → IsRefused (Exceeds (IsIntegerFactorization G x) b) e → Tells (Err (refusal_of e)) (counted G x b P)
    counted_refused P factor.TooMany many = inr (no, inr (no, inr ((λ broad. broad narrow), inl (many, refl))))
    counted_refused P (factor.Memory e) free = tt

    module _ (few : Exceeds (IsIntegerFactorization G x) b → ⊥) where
      counted_pass : (P : Plain → Type 0) → Passes (counted G x b P)
      counted_pass P = record { size = no; bad = no; limit = λ broad. broad narrow; many = few; budget = no }

      pub tells_vectors : (P : List (List ℕ) → Type 0) (vs : List (List ℕ)) → All AreWithinBits vs → P vs → Tells (Ok (Vectors vs)) (counted G x b (vectors_with P))
      tells_vectors P vs small h = (record { passes = counted_pass (vectors_with P); value = (vs, refl, h) }, small)

      pub tells_degree : (P : ℕ → Type 0) (n : ℕ) → n < 2 ^ 63 → P n → Tells (Ok (Natural n)) (counted G x b (a_natural P))
      tells_degree P n small h = (record { passes = counted_pass (a_natural P); value = (n, refl, h) }, small)

  -- ---- rows on lengths

  pub tells_measures : (P : List ℕ → Type 0) (ns : List ℕ) → ¬ (pos LENGTH_LIMIT <ℤ x) → AreWithinBits ns → P ns → Tells (Ok (Naturals ns)) (measured G x (naturals_with P))
  tells_measures P ns low small h = (record { passes = record { size = low; bad = no; limit = λ broad. broad narrow; many = no; budget = no }; value = (ns, refl, h) }, small)

-- a number that passed the test is not past the limit
pub low : (x : ℤ) → FitsSigned w64 x → lt_z (pos LENGTH_LIMIT) (to_z w64 (of_z w64 x)) ≡ false → ¬ (pos LENGTH_LIMIT <ℤ x)
low x fits h past = let within = of_bits_right (λ y. y ≤ℤ pos LENGTH_LIMIT) x fits (not_below (pos LENGTH_LIMIT) (to_z w64 (of_z w64 x)) h) in omega (arith, ints, within, past)

-- the differences of neighbours in the list of all lengths are the deltas
pub deltas-listed : (V : List ℕ → Type 0) (lengths deltas : List ℕ) → Lists (IsLengthIn V) lengths → Lists (IsStepOf lengths) deltas → Lists (IsDelta V) deltas
deltas-listed V lengths deltas all steps =
    let same = deltas-from_lengths V lengths all in
    record { ascending = steps.ascending; exactly = λ d. ((λ there. (same d).0 ((steps.exactly d).0 there)), (λ is. (steps.exactly d).1 ((same d).1 is))) }

-- ---- omega primality

-- what is within the limit is not past it
within-not_past : (G : List ℕ) (n : ℕ) → IsWithinLimit G n → IsPastOmega G n → ⊥
within-not_past G n h k = let e = span-one G h.0 k.0 h.1 k.1 in let low = h.2 in let high = k.2 in omega (arith, e, low, high)

module _ (G : List ℕ) (narrow : IsNarrow G) (N : ℕ) (small : N < 2 ^ 63) where
  pub tells_omega : (x : ℤ) → IsIntegerMember G x → IsWithinLimit G (nat_abs x) → IsOmega G (nat_abs x) N → Tells (Ok (Natural N)) (omega_row G x)
  tells_omega (pos n) member within h = (
    record {
      passes = record { size = no; bad = λ out. out member; limit = λ l. elim l [ inl broad ↦ broad narrow | inr past ↦ within-not_past G n within past ]; many = no; budget = no };
      value = (N, refl, h);
    },
    small,
  )
  tells_omega (negsuc n) member within h = absurd member

  pub tells_semigroup_omega : IsWithinLimit G (get_or G (length G - 1) 0) → IsOmegaOfSemigroup G N → Tells (Ok (Natural N)) (semigroup_omega_row G)
  tells_semigroup_omega within h = (
    record {
      passes = record { size = no; bad = no; limit = λ l. elim l [ inl broad ↦ broad narrow | inr past ↦ within-not_past G (get_or G (length G - 1) 0) within past ]; many = no; budget = no };
      value = (N, refl, h);
    },
    small,
  )
