-- What holds of the factorizations of a natural, said of an integer that is not below 0.
use Rattle.std.proofs.Common.{◌≡◌, ℕ, List, subst}
use Rattle.std.specs.Prelude.{ℤ, pos, negsuc, nat_abs, false}
use Rattle.std.specs.Int.Signed.{lt_z}
use Rattle.sg_defs.specs.Membership.{IsFactorization}
use Rattle.sg_nonunique.specs.Factorizations.{IsIntegerFactorization}

-- the set of its factorizations is that of the natural
pub natural-set : (G : List ℕ) (x y : ℤ) (K : (List ℕ → Type 0) → Type 0) → y ≡ x → lt_z y (pos 0) ≡ false → K (IsFactorization G (nat_abs y)) → K (IsIntegerFactorization G x)
natural-set G x (negsuc n) K e low h = absurd cc
natural-set G x (pos n) K e low h = subst (λ z. K (IsIntegerFactorization G z)) e h
