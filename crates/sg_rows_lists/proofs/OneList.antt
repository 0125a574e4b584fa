-- The rows on lists and integers have at most one value.
use Rattle.std.proofs.Common.{◌≡◌, ℤ, pos, List, subst, arith, []}
use Rattle.std.specs.Prelude.{◌≤ℤ◌, Contains, All}
use Rattle.std.proofs.lemmas.Int.{ints}
use Rattle.sg_value.specs.Data.{int, list, Items}
use Rattle.sg_value.specs.Plain.{Things}
use Rattle.sg_rows.specs.Asks.{nothing}
use Rattle.sg_rows.specs.Entries.{entry_count}
use Rattle.sg_rows.specs.Kinds.{as_list, one}
use Rattle.sg_rows.specs.Order.{fits}
use Rattle.sg_rows.specs.Values.{answers}
use Rattle.sg_rows.proofs.FormLaws.{of_list_one, of_list_or_integers_one}
use Rattle.sg_rows.proofs.OneListed.{natural_one}
use Rattle.sg_rows.proofs.OneValue.{One, OneValue, given_one, fitted_one, is_one, integer_one}
use Rattle.sg_rows_lists.specs.Concatenations.{concatenated}
use Rattle.sg_rows_lists.specs.Integers.{total, IsGreatest, IsLeast, IsGcdOfAll, IsLcmOfAll}
use Rattle.sg_rows_lists.specs.Lists.{integers_row, length_row, case_of}
use Rattle.sg_rows_lists.specs.declared.lists.ListCommand.{ListCommand}
use Rattle.sg_rows_lists.specs.declared.lists.ListCommand.TheVariants.{OfList, OfListOrIntegers, Length, Concatenation}
use Rattle.sg_rows_lists.specs.declared.lists.IntegersFact.{IntegersFact}
use Rattle.sg_rows_lists.specs.declared.lists.IntegersFact.TheVariants.{Gcd, Lcm, Maximum, Minimum, Sum}
use Rattle.sg_rows_lists.proofs.Dividing.{same_gcd, same_lcm}

at_place : (P : ℤ → Type 0) (zs : List ℤ) (z : ℤ) → All P zs → Contains zs z → P z
at_place P zs z all c = subst P c.2 (all c.0 z c.1)

order_one : (y z : ℤ) → y ≤ℤ z → z ≤ℤ y → y ≡ z
order_one y z h k = omega (arith, ints)

greatest_one : (zs : List ℤ) → One (IsGreatest zs)
greatest_one zs y z h k = order_one y z (at_place (λ x. x ≤ℤ z) zs y k.1 h.0) (at_place (λ x. x ≤ℤ y) zs z h.1 k.0)

least_one : (zs : List ℤ) → One (IsLeast zs)
least_one zs y z h k = order_one y z (at_place (λ x. y ≤ℤ x) zs z h.1 k.0) (at_place (λ x. z ≤ℤ x) zs y k.1 h.0)

integers_one : (f : IntegersFact) (zs : List ℤ) → One (integers_row f zs).value
integers_one Gcd zs = natural_one (IsGcdOfAll zs) (same_gcd zs)
integers_one Lcm zs = natural_one (IsLcmOfAll zs) (same_lcm zs)
integers_one Maximum zs = integer_one (IsGreatest zs) (greatest_one zs)
integers_one Minimum zs = integer_one (IsLeast zs) (least_one zs)
integers_one Sum zs = is_one (int (total zs))

pub list_one : (c : ListCommand) (args : Items Things) → OneValue (case_of c args)
list_one (OfList f) = of_list_one (integers_row f) (integers_one f)
list_one (OfListOrIntegers f) = of_list_or_integers_one (integers_row f) (integers_one f)
list_one Length = λ args.
    fitted_one (one as_list args) nothing length_row (λ ds. is_one (int (pos (entry_count ds))))
list_one Concatenation = λ args. given_one (concatenated args) (λ ds. fits [] (answers (λ d. d ≡ list ds))) (λ ds. is_one (list ds))
