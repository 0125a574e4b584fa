-- What functions told of the row of the tame degree.
use Rattle.std.proofs.Common.{◌≡◌, ◌+◌, ◌*◌, ◌-◌, ◌<◌, ◌≤◌, ◌^◌, ℕ, List, length, get_or, sum, Ok, Err, inl, inr, refl, arith}
use Rattle.sg_defs.specs.Membership.{IsMinimal, IsNumericalSemigroup}
use Rattle.sg_defs.specs.Vectors.{value_of}
use Rattle.sg_classes.specs.Fit.{IsNarrow}
use Rattle.sg_factor.proofs.BoundLemmas.{value-at_least}
use Rattle.sg_tame.specs.Answers.{HasTooMany, IsWithinLimit}
use Rattle.sg_tame.specs.Tame.{IsTame}
use Rattle.sg_tame.specs.declared.limits.TheConstants.{TAME_LIMIT}
use Rattle.sg_tame.proofs.DegreeLemmas.{needed-below, needed-from_minimal}
use Rattle.sg_tame.proofs.DistanceLemmas.{distance-within}
use Rattle.sg_tame.proofs.TameExists.{greatest-from_tame}
use Rattle.sg_rows.specs.Made.{Tells}
use Rattle.sg_rows.specs.Order.{Admits, Bars, IsReplyOf}
use Rattle.sg_rows.specs.declared.fault.CallFault.TheVariants.{Script}
use Rattle.sg_rows.specs.declared.fault.Fault.TheVariants.{TooLarge, TooMany}
use Rattle.sg_rows.specs.declared.made.Made.TheVariants.{Natural}
use Rattle.sg_rows_tame.specs.Rows.{IsTameable, tame_row}

no : ⊥ → ⊥
no h = h

module _ (G : List ℕ) where
  -- ---- the refusal of the semigroup

  pub admits : IsTameable G → Admits (tame_row G)
  admits h = record { size = no; bad = no; limit = λ n. n h }

  pub bars : ¬ IsTameable G → Bars (tame_row G) × IsReplyOf (tame_row G) (Err TooLarge)
  bars n = (inr (inr n), inr (no, inr (no, inl (n, refl))))

  module _ (tameable : IsTameable G) where
    -- ---- the value

    pub tells_many : HasTooMany G → Tells (Err (Script TooMany)) (tame_row G)
    tells_many many = inr (no, inr (no, inr ((λ n. n tameable), inl (many, refl))))

    pub tells_degree : (N : ℕ) → N < 2 ^ 63 → IsTame G N → (HasTooMany G → ⊥) → Tells (Ok (Natural N)) (tame_row G)
    tells_degree N small h few = (record { passes = record { size = no; bad = no; limit = λ n. n tameable; many = few; budget = no }; value = (N, refl, h) }, small)

-- the tame degree is a distance of two factorizations of a number that is looked at, and these are no longer than it
pub tame-small : (G : List ℕ) → IsNumericalSemigroup G → IsMinimal G → IsTameable G → (N : ℕ) → IsTame G N → N < 2 ^ 63
tame-small G s m tameable N h =
    let r = (greatest-from_tame G s N h).reached in
    let z = r.2.0 in
    let above = r.2.1 in
    let near = r.2.2.reached in
    let v = value_of G z in
    let least = λ (y : List ℕ) (e : length y ≡ length G). value-at_least G y 1 e (λ k l. s.positive k 0 l) in
    let first : sum z ≤ v = omega (arith, least z above.places) in
    let second : sum near.0 ≤ v = omega (arith, least near.0 near.1.places, near.1.value) in
    let limit = tameable.1 in
    let below = needed-below G s m limit.0 limit.1 v (needed-from_minimal G s.positive r.0 z r.1 above) in
    let within = distance-within z near.0 v first second in
    let most = limit.2 in
    omega (arith, within, near.3, below, most)
