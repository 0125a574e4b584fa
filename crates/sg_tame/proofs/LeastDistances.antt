-- From the greatest least distance to the tame degree: each minimal vector has a least distance.
use Rattle.std.proofs.Common.{ℕ, ◌<◌, ◌≤◌, List, [], ◌∷◌, length, get_or, refl, ◌∙◌, inl, inr, ◌↔◌, arith}
use Rattle.std.specs.Prelude.{◌⊎◌, All, Contains}
use Rattle.std.proofs.lemmas.Bool.{cases_lt}
use Rattle.sg_defs.specs.Membership.{IsFactorization}
use Rattle.sg_defs.specs.Vectors.{value_of, distance}
use Rattle.sg_nonunique.specs.Places.{raise}
use Rattle.sg_nonunique.proofs.PlaceLemmas.{length-raise, raise-same, value_of-raise}
use Rattle.sg_laws_finite.specs.Listing.{all_factorizations}
use Rattle.sg_laws_finite.proofs.ElementLemmas.{contains-nil}
use Rattle.sg_laws_finite.proofs.FactorizationLemmas.{factorizations-listed}
use Rattle.sg_laws_finite.proofs.KeepLemmas.{keep, keep-exactly}
use Rattle.sg_laws_finite.proofs.SearchLemmas.{least-in}
use Rattle.sg_omega.specs.Minimal.{IsMinimalAbove}
use Rattle.sg_tame.specs.Minimal.{IsGreatestLeastDistance, IsLeastDistance}
use Rattle.sg_tame.specs.Tame.{IsTame}
use Rattle.sg_tame.proofs.MinimalLemmas.{bound-from_near, near-from_bound}

positive-decided : (i : ℕ) (y : List ℕ) → (0 < get_or y i 0) ⊎ ¬ (0 < get_or y i 0)
positive-decided i y = elim (cases_lt 0 (get_or y i 0)) [ inl some ↦ inl some | inr none ↦ inr (λ h. omega arith) ]

module _ (G : List ℕ) (positive : All (λ g. 1 ≤ g) G) where
  -- a vector that is minimal above a generator has a least distance
  pub least_distance-exists : (i : ℕ) (z : List ℕ) → i < length G → IsMinimalAbove G (get_or G i 0) z → (d : ℕ) × IsLeastDistance G i z d
  least_distance-exists i z l m = first (keep Q (positive-decided i) (all_factorizations G v)) exactly
    where
      v : ℕ
      v = value_of G z

      Q : List ℕ → Type 0
      Q y = 0 < get_or y i 0

      exactly : (y : List ℕ) → Contains (keep Q (positive-decided i) (all_factorizations G v)) y ↔ (IsFactorization G v y × Q y)
      exactly = keep-exactly Q (positive-decided i) (IsFactorization G v) (all_factorizations G v) (factorizations-listed G v positive).exactly

      first : (ys : List (List ℕ)) → ((y : List ℕ) → Contains ys y ↔ (IsFactorization G v y × Q y)) → (d : ℕ) × IsLeastDistance G i z d
      first [] is =
          let r = m.member.0 in
          let f = m.member.1 in
          let u : IsFactorization G v (raise r i) = record {
            places = length-raise r i ∙ f.places;
            value = omega (arith, value_of-raise G r i l f.places, f.value, m.value);
          } in
          absurd (contains-nil (raise r i) ((is (raise r i)).1 (u, omega (arith, raise-same r i (omega (arith, l, f.places))))))
      first (y ∷ ys) is =
          let best = least-in (distance z) y ys in
          let at = (is best.0).0 best.1 in (
            distance z best.0,
            record {
              reached = (best.0, at.0, at.1, refl);
              least = λ x f some. best.2 x ((is x).1 (f, some));
            },
          )

  pub tame-from_greatest : (N : ℕ) → IsGreatestLeastDistance G N → IsTame G N
  tame-from_greatest N h = record {
    bound = bound-from_near G N (λ i z l m.
        let d = least_distance-exists i z l m in
        let r = d.1.reached in
        (r.0, r.1, r.2, omega (arith, r.3, h.bound i d.0 z l m d.1)));
    least = λ N' less bound.
        let r = h.reached in
        let near = near-from_bound G N' bound r.0 r.2.0 r.1 r.2.1 in
        omega (arith, r.2.2.least near.0 near.1 near.2, near.3, less);
  }
