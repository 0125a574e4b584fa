-- The rows of facts have at most one value.
use Rattle.std.proofs.Common.{◌≡◌, ◌<◌, ◌≤◌, ℕ, ℤ, List, length, get_or, ap, sym, ◌∙◌, subst, arith, [], ◌∷◌}
use Rattle.std.specs.Prelude.{pos, ◌-ℤ◌}
use Rattle.std.proofs.lemmas.Int.{ints}
use Rattle.std.proofs.lemmas.Grind.{same_number_lists}
use Rattle.sg_defs.specs.Apery.{IsApery, IsAperyEntry}
use Rattle.sg_defs.specs.Invariants.{IsFrobenius, IsConductor, IsGap, IsGenus, IsFundamentalGap, AreSmallElements, IsPseudoFrobenius, IsSpecialGap, IsType}
use Rattle.sg_defs.specs.Listings.{Lists, ListsIntegers}
use Rattle.sg_defs.specs.Membership.{IsMember, IsMultiplicity}
use Rattle.sg_invar.proofs.EntryLemmas.{entry-unique}
use Rattle.sg_value.specs.Data.{int, Items}
use Rattle.sg_value.specs.Plain.{Things}
use Rattle.sg_rows.specs.Asks.{apery_table, pseudo_frobenius}
use Rattle.sg_rows.specs.Forms.{of_semigroup, of_semigroup_and_integer}
use Rattle.sg_rows.specs.Values.{natural_list}
use Rattle.sg_rows.proofs.Alternating.{or_else_one}
use Rattle.sg_rows.proofs.FormLaws.{of_semigroup_one, of_semigroup_and_integer_one}
use Rattle.sg_rows.proofs.OneListed.{natural_one, naturals_one, integers_one, lists_one, lists_integers_one, count_one}
use Rattle.sg_rows.proofs.OneValue.{One, OneValue, integer_one, is_one}
use Rattle.sg_defs.proofs.OneLemmas.{one-frobenius, one-multiplicity}
use Rattle.sg_rows_invariants.specs.Facts.{IsOwnApery, IsAperyModulo, generators_row, table_row, numbers_row, both_row, apery_modulo_row, case_of}
use Rattle.sg_rows_invariants.specs.declared.fact.Fact.{Fact}
use Rattle.sg_rows_invariants.specs.declared.fact.Fact.TheVariants.{OfGenerators, OfTable, OfNumbers, OfBoth, AperyList}
use Rattle.sg_rows_invariants.specs.declared.fact.GeneratorsFact.{GeneratorsFact}
use Rattle.sg_rows_invariants.specs.declared.fact.GeneratorsFact.TheVariants.{EmbeddingDimension, MinimalGenerators, Multiplicity}
use Rattle.sg_rows_invariants.specs.declared.fact.TableFact.{TableFact}
use Rattle.sg_rows_invariants.specs.declared.fact.TableFact.TheVariants as table
use Rattle.sg_rows_invariants.specs.declared.fact.NumbersFact.{NumbersFact}
use Rattle.sg_rows_invariants.specs.declared.fact.NumbersFact.TheVariants as numbers
use Rattle.sg_rows_invariants.specs.declared.fact.BothFact.{BothFact}
use Rattle.sg_rows_invariants.specs.declared.fact.BothFact.TheVariants.{SpecialGaps}

one_less : (c d : ℕ) → (pos c -ℤ pos 1) ≡ (pos d -ℤ pos 1) → c ≡ d
one_less c d e = omega (arith, ints, e)

one-conductor : (G : List ℕ) (c d : ℕ) → IsConductor G c → IsConductor G d → c ≡ d
one-conductor G c d h k = one_less c d (one-frobenius G (pos c -ℤ pos 1) (pos d -ℤ pos 1) h k)

one-type : (G : List ℕ) (m n : ℕ) → IsType G m → IsType G n → m ≡ n
one-type G m n h k = sym h.2 ∙ (ap length (lists_integers_one (IsPseudoFrobenius G) h.0 k.0 h.1 k.1) ∙ k.2)

entry_of : (G : List ℕ) (n : ℕ) (t : List ℕ) → IsApery G n t → (i : ℕ) → i < n → IsAperyEntry G n i (get_or t i 0)
entry_of G n t h i l = record { member = h.member i l; residue = h.residue i l; least = λ y e m. h.least i y l e m }

-- a semigroup has one Apery list modulo a member
one-apery : (G : List ℕ) (n : ℕ) (s t : List ℕ) → 0 < n → IsMember G n → IsApery G n s → IsApery G n t → s ≡ t
one-apery G n s t positive member h k =
    same_number_lists s t (h.entries ∙ sym k.entries)
    (λ i l. let below : i < n = omega (arith, l, h.entries) in entry-unique G n i (get_or s i 0) (get_or t i 0) positive member (entry_of G n s h i below) (entry_of G n t k i below))

one-own_apery : (G : List ℕ) → One (IsOwnApery G)
one-own_apery G s t h k =
    let e = one-multiplicity G k.0 h.0 k.1 h.1 in
    one-apery G h.0 s t h.1.positive h.1.member h.2 (subst (λ m. IsApery G m t) e k.2)

one-small_elements : (G : List ℕ) → One (AreSmallElements G)
one-small_elements G k l a b =
    let e = one-conductor G b.0 a.0 b.1 a.1 in
    lists_one (λ n. IsMember G n × (n ≤ a.0)) k l a.2 (subst (λ c. Lists (λ n. IsMember G n × (n ≤ c)) l) e b.2)

same_natural : (k j : ℕ) → pos k ≡ pos j → k ≡ j
same_natural k j e = omega (arith, ints, e)

one-modulo : (G : List ℕ) (n : ℤ) → One (IsAperyModulo G n)
one-modulo G n s t a b =
    let e = same_natural b.0 a.0 (sym b.1 ∙ a.1) in
    one-apery G a.0 s t a.2 a.3 a.4 (subst (λ k. IsApery G k t) e b.4)

-- ---- the rows

generators_one : (f : GeneratorsFact) (G : List ℕ) → One (generators_row f G).value
generators_one EmbeddingDimension G = is_one (int (pos (length G)))
generators_one MinimalGenerators G = is_one (natural_list G)
generators_one Multiplicity G = natural_one (IsMultiplicity G) (one-multiplicity G)

table_one : (f : TableFact) (G : List ℕ) → One (table_row f G).value
table_one table.AperyList G = naturals_one (IsOwnApery G) (one-own_apery G)
table_one table.Conductor G = natural_one (IsConductor G) (one-conductor G)
table_one table.FrobeniusNumber G = integer_one (IsFrobenius G) (one-frobenius G)
table_one table.FundamentalGaps G = naturals_one (Lists (IsFundamentalGap G)) (lists_one (IsFundamentalGap G))
table_one table.Gaps G = naturals_one (Lists (IsGap G)) (lists_one (IsGap G))
table_one table.Genus G = natural_one (IsGenus G) (count_one (IsGap G))
table_one table.SmallElements G = naturals_one (AreSmallElements G) (one-small_elements G)

numbers_one : (f : NumbersFact) (G : List ℕ) → One (numbers_row f G).value
numbers_one numbers.PseudoFrobenius G = integers_one (ListsIntegers (IsPseudoFrobenius G)) (lists_integers_one (IsPseudoFrobenius G))
numbers_one numbers.Type G = natural_one (IsType G) (one-type G)

both_one : (f : BothFact) (G : List ℕ) → One (both_row f G).value
both_one SpecialGaps G = integers_one (ListsIntegers (IsSpecialGap G)) (lists_integers_one (IsSpecialGap G))

pub fact_one : (f : Fact) (args : Items Things) → OneValue (case_of f args)
fact_one (OfGenerators f) = of_semigroup_one [] (generators_row f) (generators_one f)
fact_one (OfTable f) = of_semigroup_one (apery_table ∷ []) (table_row f) (table_one f)
fact_one (OfNumbers f) = of_semigroup_one (pseudo_frobenius ∷ []) (numbers_row f) (numbers_one f)
fact_one (OfBoth f) = of_semigroup_one (apery_table ∷ pseudo_frobenius ∷ []) (both_row f) (both_one f)
fact_one AperyList = λ args.
    let own = table_row table.AperyList in
    or_else_one (of_semigroup (apery_table ∷ []) args own) (of_semigroup_and_integer (apery_table ∷ []) args apery_modulo_row) (of_semigroup_one (apery_table ∷ []) own (table_one table.AperyList) args)
    (of_semigroup_and_integer_one (apery_table ∷ []) apery_modulo_row (λ G n. naturals_one (IsAperyModulo G n) (one-modulo G n)) args)
