-- The greatest of the least lengths of classes, over all elements with two classes.
use Rattle.std.proofs.Common.{ℕ, ◌≤◌, List, length, inl, inr, arith}
use Rattle.std.specs.Prelude.{◌↔◌, All, Contains}
use Rattle.sg_defs.specs.Membership.{IsFactorization}
use Rattle.sg_nonunique.specs.Catenary.{IsCatenary}
use Rattle.sg_nonunique.specs.Classes.{HasTwoClasses}
use Rattle.sg_laws_families.specs.Bounds.{IsGreatestLeastLength}
use Rattle.sg_laws_families.proofs.ChainLemmas.{catenary-from_classes}
use Rattle.sg_laws_families.proofs.Families.{numbers-family}
use Rattle.sg_degrees.specs.Greatest.{IsGreatestOver}
use Rattle.sg_degrees.specs.Lengths.{IsLongestClass}
use Rattle.sg_degrees.proofs.BettiLemmas.{other-class}

module _ (G : List ℕ) (positive : All (λ g. 1 ≤ g) G) (values : List ℕ) (betti : (n : ℕ) → Contains values n ↔ HasTwoClasses (IsFactorization G n)) where
  -- where the elements with two classes are listed
  longest-classes : (N : ℕ) → IsGreatestOver (λ n. IsLongestClass (IsFactorization G n)) values N → IsGreatestLeastLength (IsFactorization G) N
  longest-classes N h = record {
    bound = λ n x y p q apart.
        let b = h.bound n ((betti n).1 (x, y, p, q, apart)) in
        let a = b.1.bound x p in
        (a.0, a.1, omega (arith, a.2, b.2));
    reached = elim h.reached [
      | inl none ↦ inl none
      | inr some ↦
          let n = some.0 in
          let k = some.2 in
          let other = other-class G positive n k.vector ((betti n).0 some.1) k.member in
          inr (n, k.vector, other.0, k.member, other.1, other.2, k.reached)
    ];
  }

  -- it is the catenary degree
  pub catenary-from_values : (N : ℕ) → IsGreatestOver (λ n. IsLongestClass (IsFactorization G n)) values N → IsCatenary (IsFactorization G) N
  catenary-from_values N h = catenary-from_classes (IsFactorization G) (λ n. n) (length G) (numbers-family G positive) N (longest-classes N h)
