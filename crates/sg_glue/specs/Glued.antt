-- The presentation that is glued from those of the two parts of a gluing.
use Rattle.std.specs.Prelude.{◌≡◌, ℕ, ◌*◌, ◌<◌, ◌++◌, List, [], ◌∷◌, length, slice_index, Contains}
use Rattle.sg_defs.specs.Membership.{IsFactorization}
use Rattle.sg_nat.specs.Arithmetic.{IsLcm}
use Rattle.sg_nonunique.specs.Presentations.{Relation, IsLexGreatest}
use Rattle.sg_glue.specs.Gluings.{Split}

-- w has the numbers of the vector v at the places that the entries of A have in G, and 0 at the others
pub record IsPlaced (G A v w : List ℕ) : Type 0 where
  pub places : length w ≡ length G
  pub there : (k : ℕ) → k < length A → (i : ℕ) → i < length G → slice_index G i ≡ slice_index A k → slice_index w i ≡ slice_index v k
  pub elsewhere : (i : ℕ) → i < length G → (Contains A (slice_index G i) → ⊥) → slice_index w i ≡ 0

-- a relation of the part A divided by d, as a relation of G
pub record IsRaised (G A : List ℕ) (d : ℕ) (r s : Relation ℕ) : Type 0 where
  pub value : s.value ≡ d * r.value
  pub left : IsPlaced G A r.left s.left
  pub right : IsPlaced G A r.right s.right

-- the same, one by one
abbrev pub AreRaised : List ℕ → List ℕ → ℕ → List (Relation ℕ) → List (Relation ℕ) → Type 0
AreRaised G A d [] rs = rs ≡ []
AreRaised G A d (r ∷ p) [] = ⊥
AreRaised G A d (r ∷ p) (s ∷ rs) = IsRaised G A d r s × AreRaised G A d p rs

-- the relations of both parts, then one between the parts, whose value is the least common multiple of the divisors
pub record IsGlued (G : List ℕ) (s : Split) (p q P : List (Relation ℕ)) : Type 0 where
  pub from_left : List (Relation ℕ)
  pub from_right : List (Relation ℕ)
  pub last : Relation ℕ
  pub joined : P ≡ from_left ++ (from_right ++ last ∷ [])
  pub raised_left : AreRaised G s.left s.d_left p from_left
  pub raised_right : AreRaised G s.right s.d_right q from_right
  pub value : IsLcm s.d_left s.d_right last.value
  pub left : List ℕ
  pub right : List ℕ
  pub greatest_left : IsLexGreatest (IsFactorization s.left last.value) left
  pub greatest_right : IsLexGreatest (IsFactorization s.right last.value) right
  pub placed_left : IsPlaced G s.left left last.left
  pub placed_right : IsPlaced G s.right right last.right
