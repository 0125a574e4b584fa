-- The commands on lists and integers: their names and their rows.
use Rattle.std.specs.Prelude.{◌≡◌, ℕ, ℤ, pos, Bool, nat_eq, nat_le, codes, List, [], ◌∷◌, Option}
use Rattle.std.specs.Map.{lookup}
use Rattle.std.specs.Str.{bytes_eq}
use Rattle.sg_value.specs.Data.{int, Items}
use Rattle.sg_value.specs.Plain.{Things}
use Rattle.sg_rows.specs.Asks.{nothing}
use Rattle.sg_rows.specs.Order.{Row, Case}
use Rattle.sg_rows.specs.Entries.{entry_count}
use Rattle.sg_rows.specs.Forms.{of_list, of_list_or_integers}
use Rattle.sg_rows.specs.Kinds.{as_list, one, fitted}
use Rattle.sg_rows.specs.Values.{answers, a_natural, an_entry}
use Rattle.sg_rows_lists.specs.Concatenations.{concatenation_of}
use Rattle.sg_rows_lists.specs.Integers.{total, IsGreatest, IsLeast, IsGcdOfAll, IsLcmOfAll}
use Rattle.sg_rows_lists.specs.declared.lists.ListCommand.{ListCommand}
use Rattle.sg_rows_lists.specs.declared.lists.ListCommand.TheVariants.{OfList, OfListOrIntegers, Length, Concatenation}
use Rattle.sg_rows_lists.specs.declared.lists.IntegersFact.{IntegersFact}
use Rattle.sg_rows_lists.specs.declared.lists.IntegersFact.TheVariants.{Gcd, Lcm, Maximum, Minimum, Sum}

abbrev pub names : List (List ℕ × ListCommand)
names =
    (codes "Concatenation", Concatenation)
    ∷ (codes "Gcd", OfListOrIntegers Gcd)
    ∷ (codes "Lcm", OfListOrIntegers Lcm)
    ∷ (codes "Length", Length)
    ∷ (codes "Maximum", OfList Maximum)
    ∷ (codes "Minimum", OfList Minimum)
    ∷ (codes "Sum", OfList Sum)
    ∷ []

-- the command of a name
unfoldable pub named : List ℕ → Option ListCommand
named name = lookup (bytes_eq name) names

-- whether a command takes so many arguments
abbrev pub takes : ListCommand → ℕ → Bool
takes (OfList f) n = nat_eq n 1
takes Length n = nat_eq n 1
takes _ n = nat_le 1 n

-- the natural number with P, of a list of integers, which has an entry
abbrev pub a_number : (ℕ → Type 0) → List ℤ → Row
a_number P zs = record (answers (a_natural P)) { bad = zs ≡ [] }

abbrev pub integers_row : IntegersFact → List ℤ → Row
integers_row Gcd zs = a_number (IsGcdOfAll zs) zs
integers_row Lcm zs = a_number (IsLcmOfAll zs) zs
integers_row Maximum zs = an_entry (IsGreatest zs) zs
integers_row Minimum zs = an_entry (IsLeast zs) zs
integers_row Sum zs = answers (λ d. d ≡ int (total zs))

-- the number of entries
abbrev pub length_row : Items Things → Row
length_row ds = answers (λ d. d ≡ int (pos (entry_count ds)))

-- what the row of a command says of arguments
abbrev pub case_of : ListCommand → Items Things → Case
case_of (OfList f) args = of_list args (integers_row f)
case_of (OfListOrIntegers f) args = of_list_or_integers args (integers_row f)
case_of Length args = fitted (one as_list args) nothing length_row
case_of Concatenation args = concatenation_of args
