-- The rows of facts have a value, where nothing is refused.
use Rattle.std.proofs.Common.{◌≡◌, ℕ, zero, suc, ℤ, pos, negsuc, List, length, refl, inl, inr, arith, [], ◌∷◌}
use Rattle.std.specs.Prelude.{◌⊎◌, ◌<ℤ◌}
use Rattle.std.proofs.lemmas.Int.{ints}
use Rattle.sg_apery.specs.Limits.{APERY_MODULUS_LIMIT}
use Rattle.sg_defs.specs.Invariants.{IsFrobenius, IsConductor, IsGap, IsGenus, IsFundamentalGap, AreSmallElements, IsPseudoFrobenius, IsSpecialGap, IsType}
use Rattle.sg_defs.specs.Listings.{Lists, ListsIntegers}
use Rattle.sg_defs.specs.Membership.{IsIntegerMember, IsMultiplicity, IsNumericalSemigroup}
use Rattle.sg_laws_invariants.proofs.Decisions.{decided-not, decided-or, decided-lt_z}
use Rattle.sg_laws_invariants.proofs.InvariantsExist.{frobenius-exists, multiplicity-exists, conductor-exists, genus-exists, type-exists, apery-exists, pseudo_frobenius-exist, special_gaps-exist, gaps-exist, small_elements-exist, fundamental_gaps-exist, integer_member-decided}
use Rattle.sg_laws_invariants.proofs.MemberDecisions.{member-decided}
use Rattle.sg_lawful.specs.Lawful.{IsLawfulList}
use Rattle.sg_value.specs.Data.{int, Items}
use Rattle.sg_value.specs.Plain.{Things}
use Rattle.sg_rows.specs.Asks.{apery_table, pseudo_frobenius}
use Rattle.sg_rows.specs.Forms.{of_semigroup, of_semigroup_and_integer}
use Rattle.sg_rows.specs.Lawful.{AreLawful}
use Rattle.sg_rows.specs.Limits.{spanned}
use Rattle.sg_rows.specs.Values.{an_integer, a_natural, natural_list, naturals_with, integers_with}
use Rattle.sg_rows.proofs.Alternating.{or_else_some}
use Rattle.sg_rows.proofs.FormLaws.{of_semigroup_some, of_semigroup_and_integer_some}
use Rattle.sg_rows.proofs.SomeListed.{naturals_some, integers_some, natural_list_some, spanned_some}
use Rattle.sg_rows.proofs.SomeValue.{SomeValue, answers_some, integer_some, natural_some, is_some_value, HasValue}
use Rattle.sg_rows_invariants.specs.Facts.{IsOwnApery, IsAperyModulo, generators_row, table_row, numbers_row, both_row, apery_modulo_row, case_of}
use Rattle.sg_rows_invariants.specs.declared.fact.Fact.{Fact}
use Rattle.sg_rows_invariants.specs.declared.fact.Fact.TheVariants.{OfGenerators, OfTable, OfNumbers, OfBoth, AperyList}
use Rattle.sg_rows_invariants.specs.declared.fact.GeneratorsFact.{GeneratorsFact}
use Rattle.sg_rows_invariants.specs.declared.fact.GeneratorsFact.TheVariants.{EmbeddingDimension, MinimalGenerators, Multiplicity}
use Rattle.sg_rows_invariants.specs.declared.fact.TableFact.{TableFact}
use Rattle.sg_rows_invariants.specs.declared.fact.TableFact.TheVariants as table
use Rattle.sg_rows_invariants.specs.declared.fact.NumbersFact.{NumbersFact}
use Rattle.sg_rows_invariants.specs.declared.fact.NumbersFact.TheVariants as numbers
use Rattle.sg_rows_invariants.specs.declared.fact.BothFact.{BothFact}
use Rattle.sg_rows_invariants.specs.declared.fact.BothFact.TheVariants.{SpecialGaps}

own_apery-exists : (G : List ℕ) → IsNumericalSemigroup G → (t : List ℕ) × IsOwnApery G t
own_apery-exists G s = let m = multiplicity-exists G s in let t = apery-exists G s m.0 in (t.0, (m.0, m.1, t.1))

modulo-exists : (G : List ℕ) (n : ℤ) → IsNumericalSemigroup G → (((n <ℤ pos 1) ⊎ (IsIntegerMember G n → ⊥)) → ⊥) → (t : List ℕ) × IsAperyModulo G n t
modulo-exists G (negsuc k) s good = absurd (good (inl (omega (arith, ints))))
modulo-exists G (pos zero) s good = absurd (good (inl (omega (arith, ints))))
modulo-exists G (pos (suc k)) s good = elim (member-decided G (suc k)) [
  | inr out ↦ absurd (good (inr out))
  | inl member ↦ let t = apery-exists G s (suc k) in (t.0, (suc k, refl, omega arith, member, t.1))
]

no : ⊥ → ⊥
no h = h

-- ---- the rows

generators_some : (f : GeneratorsFact) (G : List ℕ) → IsLawfulList G → HasValue (generators_row f G)
generators_some EmbeddingDimension G g = answers_some (λ d. d ≡ int (pos (length G))) (is_some_value (int (pos (length G))) tt)
generators_some MinimalGenerators G g = answers_some (λ d. d ≡ natural_list G) (natural_list_some G)
generators_some Multiplicity G g = answers_some (a_natural (IsMultiplicity G)) (natural_some (IsMultiplicity G) (multiplicity-exists G g.semigroup))

-- a list of naturals within the limit of the span
spanned_list_some : (G : List ℕ) (P : List ℕ → Type 0) → IsLawfulList G → (l : List ℕ) × P l → HasValue (spanned G (naturals_with P))
spanned_list_some G P g h = spanned_some G (naturals_with P) g.semigroup (λ short. naturals_some P h)

table_some : (f : TableFact) (G : List ℕ) → IsLawfulList G → HasValue (table_row f G)
table_some table.AperyList G g = answers_some (naturals_with (IsOwnApery G)) (naturals_some (IsOwnApery G) (own_apery-exists G g.semigroup))
table_some table.Conductor G g = answers_some (a_natural (IsConductor G)) (natural_some (IsConductor G) (conductor-exists G g.semigroup))
table_some table.FrobeniusNumber G g = answers_some (an_integer (IsFrobenius G)) (integer_some (IsFrobenius G) (frobenius-exists G g.semigroup))
table_some table.FundamentalGaps G g = spanned_list_some G (Lists (IsFundamentalGap G)) g (fundamental_gaps-exist G g.semigroup)
table_some table.Gaps G g = spanned_list_some G (Lists (IsGap G)) g (gaps-exist G g.semigroup)
table_some table.Genus G g = answers_some (a_natural (IsGenus G)) (natural_some (IsGenus G) (genus-exists G g.semigroup))
table_some table.SmallElements G g = spanned_list_some G (AreSmallElements G) g (small_elements-exist G g.semigroup)

numbers_some : (f : NumbersFact) (G : List ℕ) → IsLawfulList G → HasValue (numbers_row f G)
numbers_some numbers.PseudoFrobenius G g =
    answers_some (integers_with (ListsIntegers (IsPseudoFrobenius G))) (integers_some (ListsIntegers (IsPseudoFrobenius G)) (pseudo_frobenius-exist G g.semigroup))
numbers_some numbers.Type G g = answers_some (a_natural (IsType G)) (natural_some (IsType G) (type-exists G g.semigroup))

both_some : (f : BothFact) (G : List ℕ) → IsLawfulList G → HasValue (both_row f G)
both_some SpecialGaps G g = answers_some (integers_with (ListsIntegers (IsSpecialGap G))) (integers_some (ListsIntegers (IsSpecialGap G)) (special_gaps-exist G g.semigroup))

modulo_some : (G : List ℕ) (n : ℤ) → IsLawfulList G → HasValue (apery_modulo_row G n)
modulo_some G n g = (
  decided-lt_z (pos APERY_MODULUS_LIMIT) n,
  λ u. (
    decided-or (n <ℤ pos 1) (IsIntegerMember G n → ⊥) (decided-lt_z n (pos 1)) (decided-not (IsIntegerMember G n) (integer_member-decided G n)),
    λ v. (inr no, λ w. (inr no, λ x. (inr no, λ y. naturals_some (IsAperyModulo G n) (modulo-exists G n g.semigroup v)))),
  ),
)

pub fact_some : (f : Fact) (args : Items Things) → AreLawful args → SomeValue (case_of f args)
fact_some (OfGenerators f) = of_semigroup_some [] (generators_row f) (generators_some f)
fact_some (OfTable f) = of_semigroup_some (apery_table ∷ []) (table_row f) (table_some f)
fact_some (OfNumbers f) = of_semigroup_some (pseudo_frobenius ∷ []) (numbers_row f) (numbers_some f)
fact_some (OfBoth f) = of_semigroup_some (apery_table ∷ pseudo_frobenius ∷ []) (both_row f) (both_some f)
fact_some AperyList = λ args l.
    let own = table_row table.AperyList in
    or_else_some (of_semigroup (apery_table ∷ []) args own) (of_semigroup_and_integer (apery_table ∷ []) args apery_modulo_row) (of_semigroup_some (apery_table ∷ []) own (table_some table.AperyList) args l)
    (of_semigroup_and_integer_some (apery_table ∷ []) apery_modulo_row modulo_some args l)
