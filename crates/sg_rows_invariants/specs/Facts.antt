-- The commands that tell facts of a numerical semigroup: their names, and their rows over its minimal list G.
use Rattle.std.specs.Prelude.{◌≡◌, ◌⊎◌, ◌<◌, ◌<ℤ◌, ℕ, ℤ, pos, Bool, nat_eq, ◌||◌, codes, List, [], ◌∷◌, length, Option}
use Rattle.std.specs.Map.{lookup}
use Rattle.std.specs.Str.{bytes_eq}
use Rattle.sg_defs.specs.Apery.{IsApery}
use Rattle.sg_defs.specs.Invariants.{IsFrobenius, IsConductor, IsGap, IsGenus, IsFundamentalGap, AreSmallElements, IsPseudoFrobenius, IsSpecialGap, IsType}
use Rattle.sg_defs.specs.Listings.{Lists, ListsIntegers}
use Rattle.sg_defs.specs.Membership.{IsMember, IsIntegerMember, IsMultiplicity}
use Rattle.sg_apery.specs.Limits.{APERY_MODULUS_LIMIT}
use Rattle.sg_value.specs.Data.{int, Items}
use Rattle.sg_value.specs.Plain.{Things}
use Rattle.sg_rows.specs.Asks.{apery_table, pseudo_frobenius}
use Rattle.sg_rows.specs.Order.{Row, Case}
use Rattle.sg_rows.specs.Values.{answers, an_integer, a_natural, natural_list, naturals_with, integers_with}
use Rattle.sg_rows.specs.Limits.{spanned}
use Rattle.sg_rows.specs.Forms.{of_semigroup, of_semigroup_and_integer}
use Rattle.sg_rows.specs.Alternatives.{or_else}
use Rattle.sg_rows_invariants.specs.declared.fact.Fact.{Fact}
use Rattle.sg_rows_invariants.specs.declared.fact.Fact.TheVariants.{OfGenerators, OfTable, OfNumbers, OfBoth, AperyList}
use Rattle.sg_rows_invariants.specs.declared.fact.GeneratorsFact.{GeneratorsFact}
use Rattle.sg_rows_invariants.specs.declared.fact.GeneratorsFact.TheVariants.{EmbeddingDimension, MinimalGenerators, Multiplicity}
use Rattle.sg_rows_invariants.specs.declared.fact.TableFact.{TableFact}
use Rattle.sg_rows_invariants.specs.declared.fact.TableFact.TheVariants.{Conductor, FrobeniusNumber, FundamentalGaps, Gaps, Genus, SmallElements}
use Rattle.sg_rows_invariants.specs.declared.fact.TableFact.TheVariants as table
use Rattle.sg_rows_invariants.specs.declared.fact.NumbersFact.{NumbersFact}
use Rattle.sg_rows_invariants.specs.declared.fact.NumbersFact.TheVariants as numbers
use Rattle.sg_rows_invariants.specs.declared.fact.BothFact.{BothFact}
use Rattle.sg_rows_invariants.specs.declared.fact.BothFact.TheVariants.{SpecialGaps}

-- ---- names

abbrev pub names : List (List ℕ × Fact)
names =
    (codes "AperyList", AperyList)
    ∷ (codes "Conductor", OfTable Conductor)
    ∷ (codes "EmbeddingDimension", OfGenerators EmbeddingDimension)
    ∷ (codes "FrobeniusNumber", OfTable FrobeniusNumber)
    ∷ (codes "FundamentalGaps", OfTable FundamentalGaps)
    ∷ (codes "Gaps", OfTable Gaps)
    ∷ (codes "Genus", OfTable Genus)
    ∷ (codes "Multiplicity", OfGenerators Multiplicity)
    ∷ (codes "PseudoFrobenius", OfNumbers numbers.PseudoFrobenius)
    ∷ (codes "SmallElements", OfTable SmallElements)
    ∷ (codes "SpecialGaps", OfBoth SpecialGaps)
    ∷ (codes "Type", OfNumbers numbers.Type)
    ∷ []

-- the command of a name
unfoldable pub named : List ℕ → Option Fact
named name = lookup (bytes_eq name) names

-- whether a command takes so many arguments
abbrev pub takes : Fact → ℕ → Bool
takes AperyList n = nat_eq n 1 || nat_eq n 2
takes _ n = nat_eq n 1

-- ---- rows

abbrev pub generators_row : GeneratorsFact → List ℕ → Row
generators_row EmbeddingDimension G = answers (λ d. d ≡ int (pos (length G)))
generators_row MinimalGenerators G = answers (λ d. d ≡ natural_list G)
generators_row Multiplicity G = answers (a_natural (IsMultiplicity G))

-- t is the Apery list modulo the multiplicity
abbrev pub IsOwnApery : List ℕ → List ℕ → Type 0
IsOwnApery G t = (m : ℕ) × IsMultiplicity G m × IsApery G m t

abbrev pub table_row : TableFact → List ℕ → Row
table_row table.AperyList G = answers (naturals_with (IsOwnApery G))
table_row Conductor G = answers (a_natural (IsConductor G))
table_row FrobeniusNumber G = answers (an_integer (IsFrobenius G))
table_row FundamentalGaps G = spanned G (naturals_with (Lists (IsFundamentalGap G)))
table_row Gaps G = spanned G (naturals_with (Lists (IsGap G)))
table_row Genus G = answers (a_natural (IsGenus G))
table_row SmallElements G = spanned G (naturals_with (AreSmallElements G))

abbrev pub numbers_row : NumbersFact → List ℕ → Row
numbers_row numbers.PseudoFrobenius G = answers (integers_with (ListsIntegers (IsPseudoFrobenius G)))
numbers_row numbers.Type G = answers (a_natural (IsType G))

abbrev pub both_row : BothFact → List ℕ → Row
both_row SpecialGaps G = answers (integers_with (ListsIntegers (IsSpecialGap G)))

-- n is a member above 0, and t the Apery list modulo n
abbrev pub IsAperyModulo : List ℕ → ℤ → List ℕ → Type 0
IsAperyModulo G n t = (k : ℕ) × (n ≡ pos k) × (0 < k) × IsMember G k × IsApery G k t

-- n is too large past the limit, and bad where it is below 1 or no member
abbrev pub apery_modulo_row : List ℕ → ℤ → Row
apery_modulo_row G n = record (answers (naturals_with (IsAperyModulo G n))) {
  size = pos APERY_MODULUS_LIMIT <ℤ n;
  bad = (n <ℤ pos 1) ⊎ (IsIntegerMember G n → ⊥);
}

-- what the row of a command says of arguments
abbrev pub case_of : Fact → Items Things → Case
case_of (OfGenerators f) args = of_semigroup [] args (generators_row f)
case_of (OfTable f) args = of_semigroup (apery_table ∷ []) args (table_row f)
case_of (OfNumbers f) args = of_semigroup (pseudo_frobenius ∷ []) args (numbers_row f)
case_of (OfBoth f) args = of_semigroup (apery_table ∷ pseudo_frobenius ∷ []) args (both_row f)
case_of AperyList args = or_else (of_semigroup (apery_table ∷ []) args (table_row table.AperyList)) (of_semigroup_and_integer (apery_table ∷ []) args apery_modulo_row)
