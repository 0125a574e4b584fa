-- A semigroup has one table, one list of pseudo-Frobenius numbers, one canonical minimal presentation, and one answer on
-- its tame degree.
use Rattle.std.proofs.Common.{◌≡◌, ◌<◌, ℕ, ℤ, List, refl, ap, sym, ◌∙◌, arith}
use Rattle.sg_defs.proofs.OneLemmas.{one-integer_list}
use Rattle.sg_defs.specs.Invariants.{IsPseudoFrobenius}
use Rattle.sg_defs.specs.Membership.{IsFactorization}
use Rattle.sg_nonunique.specs.Presentations.{Relation}
use Rattle.sg_laws_families.proofs.CanonicalLemmas.{one-canonical}
use Rattle.sg_tame.specs.Answers.{IsTameAnswer}
use Rattle.sg_tame.specs.declared.answer.TameAnswer.{TameAnswer}
use Rattle.sg_tame.specs.declared.answer.TameAnswer.TheVariants.{Degree, TooMany}
use Rattle.sg_tame.proofs.MinimalLemmas.{one-tame}
use Rattle.sg_store.specs.Attributes.{IsTableOf, AreNumbersOf, IsPresentationOf}

pub one_table : (gens : List ℕ) (a b : List ℕ) → IsTableOf gens a → IsTableOf gens b → a ≡ b
one_table gens a b p q = p ∙ sym q

pub one_list_of_numbers : (gens : List ℕ) (a b : List ℤ) → AreNumbersOf gens a → AreNumbersOf gens b → a ≡ b
one_list_of_numbers gens a b p q = one-integer_list (IsPseudoFrobenius gens) a b p q

pub one_presentation : (gens : List ℕ) (a b : List (Relation ℕ)) → IsPresentationOf gens a → IsPresentationOf gens b → a ≡ b
one_presentation gens a b p q = one-canonical (IsFactorization gens) (◌<◌) (λ n m l k. omega arith) a b p q

pub one_tame_answer : (gens : List ℕ) (a b : TameAnswer) → IsTameAnswer gens a → IsTameAnswer gens b → a ≡ b
one_tame_answer gens (Degree M) (Degree N) p q = ap Degree (one-tame gens M N p.0 q.0)
one_tame_answer gens (Degree M) TooMany p q = absurd (p.1 q)
one_tame_answer gens TooMany (Degree N) p q = absurd (q.1 p)
one_tame_answer gens TooMany TooMany p q = refl
