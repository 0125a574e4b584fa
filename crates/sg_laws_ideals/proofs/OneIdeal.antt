-- An ideal has one minimal list.
use Rattle.std.specs.Prelude.{◌≡◌, ℕ, ℤ, List}
use Rattle.sg_defs.specs.Ideals.{IsIdealMember}
use Rattle.sg_defs.proofs.OneLemmas.{same-ascending}
use Rattle.sg_ideal.specs.Value.{GeneratesIdeal}
use Rattle.sg_ideal.proofs.TableLemmas.{minimal-given}

-- what generates a set generates what another minimal list generates
generated-again : (G : List ℕ) (P : ℤ → Type 0) (I J : List ℤ) → GeneratesIdeal G P I → GeneratesIdeal G P J → GeneratesIdeal G (IsIdealMember G J) I
generated-again G P I J g h = record { not_empty = g.not_empty; minimal = g.minimal; same = λ x. ((λ m. (g.same x).0 ((h.same x).1 m)), (λ m. (h.same x).0 ((g.same x).1 m))) }

-- a set has one minimal list
pub one-minimal_ideal : (G : List ℕ) (P : ℤ → Type 0) (I J : List ℤ) → GeneratesIdeal G P I → GeneratesIdeal G P J → I ≡ J
one-minimal_ideal G P I J g h = same-ascending I J g.minimal.ascending h.minimal.ascending
    (minimal-given G J I (generated-again G P I J g h)) (minimal-given G I J (generated-again G P J I h g))
