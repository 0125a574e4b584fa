-- The rows on relative ideals have a value, where nothing is refused.
use Rattle.std.proofs.Common.{◌≡◌, ℕ, zero, suc, ℤ, pos, negsuc, ◌<◌, List, [], ◌∷◌, length, inl, inr, refl, ap, ◌∙◌, subst, arith}
use Rattle.std.specs.Prelude.{◌<ℤ◌, ◌≢◌, unsigned_abs}
use Rattle.std.proofs.lemmas.Int.{ints}
use Rattle.sg_defs.specs.Ideals.{IsIdealMember, IsInMultiple, IsInTranslate, IsInCanonical, IsInMaximal}
use Rattle.sg_defs.specs.Membership.{IsNumericalSemigroup}
use Rattle.sg_ideal.specs.Value.{GeneratesIdeal, IsIn}
use Rattle.sg_lawful.specs.Generators.{AreSmall}
use Rattle.sg_lawful.specs.Lawful.{IsLawfulIdeal, IsLawfulList}
use Rattle.sg_laws_invariants.specs.Decided.{Decided}
use Rattle.sg_laws_invariants.proofs.Decisions.{decided-lt_z, decided-not}
use Rattle.sg_laws_ideals.proofs.IdealDecisions.{ideal_member-decided}
use Rattle.sg_laws_ideals.proofs.InstancesExist.{generated-exists, sum-exists, difference-exists, both-exists, multiple-exists, translate-exists, canonical-exists, maximal-exists}
use Rattle.sg_laws_ideals.proofs.SizeDecisions.{small-decided, small-or_large, large-decided}
use Rattle.sg_value.specs.Data.{ideal, semigroup, Items}
use Rattle.sg_value.specs.Plain.{Things, RelativeIdeal}
use Rattle.sg_rows.specs.Asks.{Attribute, apery_table, pseudo_frobenius}
use Rattle.sg_rows.specs.Order.{Plain}
use Rattle.sg_rows.specs.Forms.{on_two_ideals, on_integer_and_ideal, on_list_and_semigroup}
use Rattle.sg_rows.specs.Lawful.{AreLawful, IsLawful}
use Rattle.sg_rows.specs.Values.{integer_list, whether}
use Rattle.sg_rows.proofs.EqualData.{list-decided}
use Rattle.sg_rows.proofs.FormLaws.{of_semigroup_some, of_ideal_some, of_two_ideals_some, of_list_then_semigroup_some, on_two_ideals_some, on_integer_and_ideal_some, on_list_and_semigroup_some}
use Rattle.sg_rows.proofs.SomeListed.{integers_some}
use Rattle.sg_rows.proofs.SomeValue.{HasLawful, SomeValue, answers_some, is_some_value, whether_some, HasValue}
use Rattle.sg_rows_ideals.specs.Rows.{an_ideal, fact_row, generated_row, member_row, InPair, multiple_row, over, pair_row, translate_row}
use Rattle.sg_rows_ideals.specs.Ideals.{table_row, both_row, case_of}
use Rattle.sg_rows_ideals.specs.declared.facts.IdealFact.{IdealFact}
use Rattle.sg_rows_ideals.specs.declared.facts.IdealFact.TheVariants.{Ambient, Generators}
use Rattle.sg_rows_ideals.specs.declared.ideals.IdealCommand.{IdealCommand}
use Rattle.sg_rows_ideals.specs.declared.ideals.IdealCommand.TheVariants.{OfIdeal, OfTable, OfBoth, Generated, OfTwoIdeals}
use Rattle.sg_rows_ideals.specs.declared.ideals.TableIdeal.{TableIdeal}
use Rattle.sg_rows_ideals.specs.declared.ideals.TableIdeal.TheVariants.{Maximal}
use Rattle.sg_rows_ideals.specs.declared.ideals.BothIdeal.{BothIdeal}
use Rattle.sg_rows_ideals.specs.declared.ideals.BothIdeal.TheVariants.{Canonical}
use Rattle.sg_rows_ideals.specs.declared.pairs.Pair.{Pair}
use Rattle.sg_rows_ideals.specs.declared.pairs.Pair.TheVariants.{Difference, Intersection, Sum}

no : ⊥ → ⊥
no h = h

held_some : (G : List ℕ) (P : ℤ → Type 0) → IsLawfulList G → (I : List ℤ) × GeneratesIdeal G P I → ¬ ((I : List ℤ) → GeneratesIdeal G P I → ¬ AreSmall I) → HasLawful (an_ideal G P).value
held_some G P g h small = elim (small-or_large G P h) [
  | inl m ↦ (ideal (over G m.0), (m.0, refl, m.1), record { ambient = g; not_empty = m.1.not_empty; minimal = m.1.minimal; small = m.2 })
  | inr never ↦ absurd (small never)
]

-- a row whose value is the ideal of the integers with P, which exists where nothing is refused
an_ideal_some : (size bad : Type 0) (G : List ℕ) (P : ℤ → Type 0) → IsLawfulList G → Decided size → (¬ size → Decided bad) → (¬ size → ¬ bad → (I : List ℤ) × GeneratesIdeal G P I) →
    HasValue (record (an_ideal G P) { size = size; bad = bad })
an_ideal_some size bad G P g size_decided bad_decided made =
    (size_decided, λ a. (bad_decided a, λ b. (large-decided G P (made a b), λ c. (inr no, λ d. (inr no, λ e. held_some G P g (made a b) c)))))

-- a row that is refused by a limit alone
within_some : (G : List ℕ) (P : ℤ → Type 0) → IsLawfulList G → (I : List ℤ) × GeneratesIdeal G P I → HasValue (an_ideal G P)
within_some G P g made = an_ideal_some ⊥ ⊥ G P g (inr no) (λ a. inr no) (λ a b. made)

-- ---- rows

list_some : (zs : List ℤ) → HasLawful (λ d. d ≡ integer_list zs)
list_some zs = let h = integers_some (λ ys. ys ≡ zs) (zs, refl) in (h.0, h.1.1 ∙ ap integer_list h.1.2, h.2)

fact_some : (f : IdealFact) (I : RelativeIdeal) → IsLawfulIdeal I.ambient I.generators → HasValue (fact_row f I)
fact_some Ambient I i = answers_some (λ d. d ≡ semigroup I.ambient) (is_some_value (semigroup I.ambient) i.ambient)
fact_some Generators I i = answers_some (λ d. d ≡ integer_list I.generators) (list_some I.generators)

table_some : (i : TableIdeal) (G : List ℕ) → IsLawfulList G → HasValue (table_row i G)
table_some Maximal G g = within_some G (IsInMaximal G) g (maximal-exists G g.semigroup)

both_some : (i : BothIdeal) (G : List ℕ) → IsLawfulList G → HasValue (both_row i G)
both_some Canonical G g = within_some G (IsInCanonical G) g (canonical-exists G g.semigroup)

empty-decided : (zs : List ℤ) → Decided (zs ≡ [])
empty-decided [] = inl refl
empty-decided (z ∷ zs) = inr (λ e. cc)

some-entries : (zs : List ℤ) → ¬ (zs ≡ []) → 0 < length zs
some-entries [] some = absurd (some refl)
some-entries (z ∷ zs) some = omega arith

generated_row_some : (zs : List ℤ) (G : List ℕ) → IsLawfulList G → HasValue (generated_row zs G)
generated_row_some zs G g = an_ideal_some (¬ AreSmall zs) (zs ≡ []) G (IsIdealMember G zs) g (decided-not (AreSmall zs) (small-decided zs)) (λ a. empty-decided zs)
    (λ a b. generated-exists G g.semigroup zs (some-entries zs b))

-- two ideals of one semigroup make one
pair-exists : (p : Pair) (G : List ℕ) → IsNumericalSemigroup G → (I J : List ℤ) → 0 < length I → 0 < length J → (K : List ℤ) × GeneratesIdeal G (InPair p (IsIdealMember G I) (IsIdealMember G J)) K
pair-exists Difference = difference-exists
pair-exists Intersection = both-exists
pair-exists Sum = sum-exists

pair_row_some : (p : Pair) (I J : RelativeIdeal) → IsLawfulIdeal I.ambient I.generators → IsLawfulIdeal J.ambient J.generators → HasValue (pair_row p I J)
pair_row_some p I J i j =
    let same = list-decided I.ambient J.ambient in
    let made = λ (e : I.ambient ≡ J.ambient). subst (λ A. (K : List ℤ) × GeneratesIdeal I.ambient (InPair p (IsIn I) (IsIdealMember A J.generators)) K) e
    (pair-exists p I.ambient i.ambient.semigroup I.generators J.generators i.not_empty j.not_empty) in
    an_ideal_some ⊥ (I.ambient ≢ J.ambient) I.ambient (InPair p (IsIn I) (IsIn J)) i.ambient (inr no) (λ a. decided-not (I.ambient ≡ J.ambient) same)
    (λ a b. elim same [ inl e ↦ made e | inr differ ↦ absurd (b differ) ])

size-positive : (k : ℤ) → ¬ (k <ℤ pos 1) → 0 < unsigned_abs k
size-positive (pos zero) h = absurd (h (omega (arith, ints)))
size-positive (pos (suc n)) h = omega arith
size-positive (negsuc n) h = omega arith

multiple_row_some : (k : ℤ) (I : RelativeIdeal) → IsLawfulIdeal I.ambient I.generators → HasValue (multiple_row k I)
multiple_row_some k I i = an_ideal_some ⊥ (k <ℤ pos 1) I.ambient (IsInMultiple (unsigned_abs k) (IsIn I)) i.ambient (inr no) (λ a. decided-lt_z k (pos 1))
    (λ a b. multiple-exists I.ambient i.ambient.semigroup I.generators (unsigned_abs k) i.not_empty (size-positive k b))

translate_row_some : (x : ℤ) (I : RelativeIdeal) → IsLawfulIdeal I.ambient I.generators → HasValue (translate_row x I)
translate_row_some x I i = within_some I.ambient (IsInTranslate x (IsIn I)) i.ambient (translate-exists I.ambient i.ambient.semigroup I.generators x i.not_empty)

member_row_some : (x : ℤ) (I : RelativeIdeal) → IsLawfulIdeal I.ambient I.generators → HasValue (member_row x I)
member_row_some x I i = answers_some (whether (IsIn I x)) (whether_some (IsIn I x) (ideal_member-decided I.ambient I.generators x))

-- ---- operators

pub pair_some : (letters : List Attribute) → (p : Pair) (a b : Plain) → IsLawful a → IsLawful b → SomeValue (on_two_ideals letters a b (pair_row p))
pair_some letters p = on_two_ideals_some letters (pair_row p) (pair_row_some p)

pub generated_some : (letters : List Attribute) → (a b : Plain) → IsLawful b → SomeValue (on_list_and_semigroup letters a b generated_row)
generated_some letters = on_list_and_semigroup_some letters generated_row generated_row_some

pub multiple_some : (letters : List Attribute) → (a b : Plain) → IsLawful b → SomeValue (on_integer_and_ideal letters a b multiple_row)
multiple_some letters = on_integer_and_ideal_some letters multiple_row multiple_row_some

pub translate_some : (letters : List Attribute) → (a b : Plain) → IsLawful b → SomeValue (on_integer_and_ideal letters a b translate_row)
translate_some letters = on_integer_and_ideal_some letters translate_row translate_row_some

pub member_some : (letters : List Attribute) → (a b : Plain) → IsLawful b → SomeValue (on_integer_and_ideal letters a b member_row)
member_some letters = on_integer_and_ideal_some letters member_row member_row_some

-- ---- commands

pub ideal_some : (c : IdealCommand) (args : Items Things) → AreLawful args → SomeValue (case_of c args)
ideal_some (OfIdeal f) args l = of_ideal_some [] (fact_row f) (fact_some f) args l
ideal_some (OfTable i) args l = of_semigroup_some (apery_table ∷ []) (table_row i) (table_some i) args l
ideal_some (OfBoth i) args l = of_semigroup_some (apery_table ∷ pseudo_frobenius ∷ []) (both_row i) (both_some i) args l
ideal_some Generated args l = of_list_then_semigroup_some (apery_table ∷ []) generated_row generated_row_some args l
ideal_some (OfTwoIdeals p) args l = of_two_ideals_some (apery_table ∷ []) (pair_row p) (pair_row_some p) args l
