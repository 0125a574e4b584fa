-- Of the factorizations of an integer: a negative one has none.
use Rattle.std.proofs.Common.{ℕ, List, []}
use Rattle.std.specs.Prelude.{ℤ, pos, negsuc}
use Rattle.sg_defs.specs.Listings.{Lists}
use Rattle.sg_defs.specs.Membership.{IsNumericalSemigroup}
use Rattle.sg_defs.specs.Vectors.{IsLexBelow}
use Rattle.sg_nonunique.specs.Catenary.{IsCatenaryOf}
use Rattle.sg_nonunique.specs.Counts.{Exceeds}
use Rattle.sg_nonunique.specs.Deltas.{IsDelta}
use Rattle.sg_nonunique.specs.Factorizations.{AreFactorizations, IsIntegerFactorization, IsLengthIn}
use Rattle.sg_laws_invariants.specs.Decided.{Decided}
use Rattle.sg_laws_finite.specs.Listing.{all_factorizations}
use Rattle.sg_laws_finite.proofs.CountLemmas.{exceeds-decided, listing-from_descending}
use Rattle.sg_laws_finite.proofs.ElementLemmas.{contains-nil, pairs-nil}
use Rattle.sg_laws_finite.proofs.FactorizationLemmas.{factorizations-listed}
use Rattle.sg_laws_finite.proofs.SetLemmas.{lengths-listed, deltas-listed, catenary-exists}

pub integer_factorizations-listed : (G : List ℕ) (x : ℤ) → IsNumericalSemigroup G → (l : List (List ℕ)) × AreFactorizations G x l
integer_factorizations-listed G (pos n) s = (all_factorizations G n, factorizations-listed G n s.positive)
integer_factorizations-listed G (negsuc n) s = (
  [],
  record {
    descending = pairs-nil (λ x y. IsLexBelow y x);
    exactly = λ z. ((λ h. absurd (contains-nil z h)), (λ f. absurd f));
  },
)

module _ (G : List ℕ) (x : ℤ) (s : IsNumericalSemigroup G) where
  pub counts-decided : (b : ℕ) → Decided (Exceeds (IsIntegerFactorization G x) b)
  counts-decided b =
      let l = integer_factorizations-listed G x s in
      exceeds-decided (IsIntegerFactorization G x) l.0 b (listing-from_descending (IsIntegerFactorization G x) l.0 l.1)

  pub integer_lengths-listed : (l : List ℕ) × Lists (IsLengthIn (IsIntegerFactorization G x)) l
  integer_lengths-listed = let l = integer_factorizations-listed G x s in lengths-listed (IsIntegerFactorization G x) l.0 l.1

  pub integer_deltas-listed : (l : List ℕ) × Lists (IsDelta (IsIntegerFactorization G x)) l
  integer_deltas-listed = let l = integer_factorizations-listed G x s in deltas-listed (IsIntegerFactorization G x) l.0 l.1

  pub integer_catenary-exists : (c : ℕ) × IsCatenaryOf (IsIntegerFactorization G x) c
  integer_catenary-exists = let l = integer_factorizations-listed G x s in catenary-exists (IsIntegerFactorization G x) l.0 l.1
