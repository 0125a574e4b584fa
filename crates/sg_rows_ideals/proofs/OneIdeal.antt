-- The rows on relative ideals have one value.
use Rattle.std.proofs.Common.{ℕ, ℤ, List, [], ◌∷◌, ap, sym, ◌∙◌}
use Rattle.std.specs.Prelude.{unsigned_abs}
use Rattle.sg_defs.specs.Ideals.{IsIdealMember, IsInMultiple, IsInTranslate, IsInCanonical, IsInMaximal}
use Rattle.sg_ideal.specs.Value.{IsIn}
use Rattle.sg_laws_ideals.proofs.OneIdeal.{one-minimal_ideal}
use Rattle.sg_value.specs.Data.{ideal, semigroup, Items}
use Rattle.sg_value.specs.Plain.{Things, RelativeIdeal}
use Rattle.sg_rows.specs.Asks.{Attribute, apery_table, pseudo_frobenius}
use Rattle.sg_rows.specs.Order.{Plain}
use Rattle.sg_rows.specs.Forms.{on_two_ideals, on_integer_and_ideal, on_list_and_semigroup}
use Rattle.sg_rows.specs.Values.{integer_list}
use Rattle.sg_rows.proofs.FormLaws.{of_semigroup_one, of_ideal_one, of_two_ideals_one, of_list_then_semigroup_one, on_two_ideals_one, on_integer_and_ideal_one, on_list_and_semigroup_one}
use Rattle.sg_rows.proofs.OneValue.{One, OneValue, is_one, whether_one}
use Rattle.sg_rows_ideals.specs.Rows.{an_ideal, fact_row, generated_row, member_row, InPair, multiple_row, over, pair_row, translate_row}
use Rattle.sg_rows_ideals.specs.Ideals.{table_row, both_row, case_of}
use Rattle.sg_rows_ideals.specs.declared.facts.IdealFact.{IdealFact}
use Rattle.sg_rows_ideals.specs.declared.facts.IdealFact.TheVariants.{Ambient, Generators}
use Rattle.sg_rows_ideals.specs.declared.ideals.IdealCommand.{IdealCommand}
use Rattle.sg_rows_ideals.specs.declared.ideals.IdealCommand.TheVariants.{OfIdeal, OfTable, OfBoth, Generated, OfTwoIdeals}
use Rattle.sg_rows_ideals.specs.declared.ideals.TableIdeal.{TableIdeal}
use Rattle.sg_rows_ideals.specs.declared.ideals.TableIdeal.TheVariants.{Maximal}
use Rattle.sg_rows_ideals.specs.declared.ideals.BothIdeal.{BothIdeal}
use Rattle.sg_rows_ideals.specs.declared.ideals.BothIdeal.TheVariants.{Canonical}
use Rattle.sg_rows_ideals.specs.declared.pairs.Pair.{Pair}

-- a set of integers has one minimal list
an_ideal_one : (G : List ℕ) (P : ℤ → Type 0) → One (an_ideal G P).value
an_ideal_one G P d e p q = p.1 ∙ (ap (λ I. ideal (over G I)) (one-minimal_ideal G P p.0 q.0 p.2 q.2) ∙ sym q.1)

fact_one : (f : IdealFact) (I : RelativeIdeal) → One (fact_row f I).value
fact_one Ambient I = is_one (semigroup I.ambient)
fact_one Generators I = is_one (integer_list I.generators)

table_one : (i : TableIdeal) (G : List ℕ) → One (table_row i G).value
table_one Maximal G = an_ideal_one G (IsInMaximal G)

both_one : (i : BothIdeal) (G : List ℕ) → One (both_row i G).value
both_one Canonical G = an_ideal_one G (IsInCanonical G)

-- ---- operators

pub pair_one : (letters : List Attribute) → (p : Pair) (a b : Plain) → OneValue (on_two_ideals letters a b (pair_row p))
pair_one letters p = on_two_ideals_one letters (pair_row p) (λ I J. an_ideal_one I.ambient (InPair p (IsIn I) (IsIn J)))

pub generated_one : (letters : List Attribute) → (a b : Plain) → OneValue (on_list_and_semigroup letters a b generated_row)
generated_one letters = on_list_and_semigroup_one letters generated_row (λ zs G. an_ideal_one G (IsIdealMember G zs))

pub multiple_one : (letters : List Attribute) → (a b : Plain) → OneValue (on_integer_and_ideal letters a b multiple_row)
multiple_one letters = on_integer_and_ideal_one letters multiple_row (λ k I. an_ideal_one I.ambient (IsInMultiple (unsigned_abs k) (IsIn I)))

pub translate_one : (letters : List Attribute) → (a b : Plain) → OneValue (on_integer_and_ideal letters a b translate_row)
translate_one letters = on_integer_and_ideal_one letters translate_row (λ x I. an_ideal_one I.ambient (IsInTranslate x (IsIn I)))

pub member_one : (letters : List Attribute) → (a b : Plain) → OneValue (on_integer_and_ideal letters a b member_row)
member_one letters = on_integer_and_ideal_one letters member_row (λ x I. whether_one (IsIn I x))

-- ---- commands

pub ideal_one : (c : IdealCommand) (args : Items Things) → OneValue (case_of c args)
ideal_one (OfIdeal f) args = of_ideal_one [] (fact_row f) (fact_one f) args
ideal_one (OfTable i) args = of_semigroup_one (apery_table ∷ []) (table_row i) (table_one i) args
ideal_one (OfBoth i) args = of_semigroup_one (apery_table ∷ pseudo_frobenius ∷ []) (both_row i) (both_one i) args
ideal_one Generated args = of_list_then_semigroup_one (apery_table ∷ []) generated_row (λ zs G. an_ideal_one G (IsIdealMember G zs)) args
ideal_one (OfTwoIdeals p) args = of_two_ideals_one (apery_table ∷ []) (pair_row p) (λ I J. an_ideal_one I.ambient (InPair p (IsIn I) (IsIn J))) args
