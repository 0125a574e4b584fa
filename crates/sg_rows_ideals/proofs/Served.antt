-- Calls that serve the rows.
use Rattle.std.proofs.Common.{◌≡◌, ℕ, ℤ, pos, negsuc, List, false, inl, inr, subst, arith}
use Rattle.std.specs.Prelude.{◌<ℤ◌, ◌≤ℤ◌, ◌<◌, ◌≢◌, [], length, unsigned_abs}
use Rattle.std.proofs.lemmas.Int.{ints}
use lib.Signed.{lt_z}
use Rattle.sg_defs.specs.Ideals.{IsIdealMember, IsInMultiple, RelativeIdeal}
use Rattle.sg_ideal.specs.Faults.{AreRefused, IsMultipleRefused, IsPairRefused, IsSizeFault}
use Rattle.sg_ideal.specs.Value.{IsIn}
use Rattle.sg_lawful.specs.Generators.{AreSmall}
use Rattle.sg_laws_ideals.proofs.SizeDecisions.{large-small}
use Rattle.sg_rows.proofs.Signed.{not_below}
use Rattle.sg_rows_ideals.proofs.Serving.{Serves}

-- generators that are given
pub generated_serves : (G : List ℕ) (zs : List ℤ) → Serves G (IsIdealMember G zs) (AreSmall zs × (0 < length zs)) (AreRefused zs) (¬ AreSmall zs) (zs ≡ [])
generated_serves G zs = record {
  good = λ h. ((λ not. not h.0), (λ e. let l = subst (λ l. 0 < length l) e h.1 in omega (arith, l)));
  refused = λ h. ((λ not. not h.0), h.1);
  large = λ h. inl (large-small zs h);
}

-- two ideals
pub pair_serves : (I J : RelativeIdeal) (P : ℤ → Type 0) → Serves I.ambient P (I.ambient ≡ J.ambient) (IsPairRefused I J P) ⊥ (I.ambient ≢ J.ambient)
pair_serves I J P = record {
  good = λ e. ((λ n. n), (λ differ. differ e));
  refused = λ differ. ((λ n. n), differ);
  large = λ h. inr ((λ n. n), (λ differ. differ h.0), h.1);
}

-- what is an ideal in any case
pub own_serves : (G : List ℕ) (P : ℤ → Type 0) → Serves G P (Unit {0}) (IsSizeFault G P) ⊥ ⊥
own_serves G P = record {
  good = λ u. ((λ n. n), (λ n. n));
  refused = λ n. absurd n;
  large = λ h. inr ((λ n. n), (λ n. n), h);
}

-- a multiple by an integer that is not below 1
abbrev MultipleServes : (I : RelativeIdeal) → ℤ → Type 0
MultipleServes I k = Serves I.ambient (IsInMultiple (unsigned_abs k) (IsIn I)) (0 < unsigned_abs k) (IsMultipleRefused (unsigned_abs k) I.ambient (IsInMultiple (unsigned_abs k) (IsIn I))) ⊥ (k <ℤ pos 1)

serves_above : (I : RelativeIdeal) (k : ℤ) → pos 1 ≤ℤ k → MultipleServes I k
serves_above I (pos m) from = record {
  good = λ positive. ((λ n. n), (λ below. omega (arith, ints, from, below)));
  refused = λ e. absurd (omega (arith, ints, from, e));
  large = λ h. inr ((λ n. n), (λ below. omega (arith, ints, from, below)), h.1);
}
serves_above I (negsuc m) from = absurd (omega (arith, ints, from))

pub multiple_serves : (I : RelativeIdeal) (k : ℤ) → lt_z k (pos 1) ≡ false → MultipleServes I k
multiple_serves I k h = serves_above I k (not_below k (pos 1) h)
