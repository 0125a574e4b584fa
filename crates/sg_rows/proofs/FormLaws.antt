-- Rows over the arguments of a call have at most one value, and over lawful arguments some.
use Rattle.std.proofs.Common.{ℕ, ℤ, List, Option}
use Rattle.std.specs.Prelude.{IfSome, ⊤}
use Rattle.sg_lawful.specs.Lawful.{IsLawfulList, IsLawfulIdeal}
use Rattle.sg_value.specs.Data.{Items}
use Rattle.sg_value.specs.Plain.{Things, RelativeIdeal}
use Rattle.sg_rows.specs.Asks.{Asking, Attribute}
use Rattle.sg_rows.specs.Order.{Plain, Row}
use Rattle.sg_rows.specs.Kinds.{fitted, as_integer, as_integers, as_semigroup, as_ideal, one, two, three, list_or_integers, two_integers, three_integers, two_semigroups, two_ideals, semigroup_and_integer, integer_then_semigroup, integer_then_ideal, list_then_semigroup}
use Rattle.sg_rows.specs.Forms.{of_list, of_list_or_integers, of_two_integers, of_three_integers, of_semigroup, of_semigroup_and_integer, of_semigroup_then_integer, of_two_semigroups, of_ideal, of_two_ideals, of_list_then_semigroup, on_two_ideals, on_integer_and_ideal, on_list_and_semigroup, on_integer_and_semigroup}
use Rattle.sg_rows.specs.Lawful.{IsLawfulThing, IsLawful, AreLawful}
use Rattle.sg_rows.proofs.KindLemmas.{as_semigroup-each, as_ideal-each, semigroup_and_integer-each, one-each, two-each, both-each, any_some}
use Rattle.sg_rows.proofs.OneValue.{One, OneValue, fitted_one}
use Rattle.sg_rows.proofs.SomeValue.{HasValue, SomeValue, fitted_some}

abbrev IsLawfulRelative : RelativeIdeal → Type 0
IsLawfulRelative I = IsLawfulIdeal I.ambient I.generators

-- ---- what is taken is lawful

semigroup_lawful : (a : Plain) → IsLawful a → IfSome (as_semigroup a) IsLawfulList
semigroup_lawful = as_semigroup-each IsLawfulThing

ideal_lawful : (a : Plain) → IsLawful a → IfSome (as_ideal a) IsLawfulRelative
ideal_lawful = as_ideal-each IsLawfulThing

one_semigroup_lawful : (args : Items Things) → AreLawful args → IfSome (one as_semigroup args) IsLawfulList
one_semigroup_lawful = one-each IsLawfulThing IsLawfulList as_semigroup semigroup_lawful

one_ideal_lawful : (args : Items Things) → AreLawful args → IfSome (one as_ideal args) IsLawfulRelative
one_ideal_lawful = one-each IsLawfulThing IsLawfulRelative as_ideal ideal_lawful

-- of each of two
abbrev BothLawful : {A B : Type 0} → (A → Type 0) → (B → Type 0) → A × B → Type 0
BothLawful P Q p = P p.0 × Q p.1

abbrev any : {A : Type 0} → A → Type 0
any a = ⊤

-- ---- one argument

pub of_list_one : (row : List ℤ → Row) → ((zs : List ℤ) → One (row zs).value) → (args : Items Things) → OneValue (of_list args row)
of_list_one row h args = fitted_one (one as_integers args) _ row h

pub of_list_some : (row : List ℤ → Row) → ((zs : List ℤ) → HasValue (row zs)) → (args : Items Things) → AreLawful args → SomeValue (of_list args row)
of_list_some row h args l = fitted_some (λ zs. ⊤) (one as_integers args) _ row (any_some (one as_integers args)) (λ zs u. h zs)

pub of_list_or_integers_one : (row : List ℤ → Row) → ((zs : List ℤ) → One (row zs).value) → (args : Items Things) → OneValue (of_list_or_integers args row)
of_list_or_integers_one row h args = fitted_one (list_or_integers args) _ row h

pub of_list_or_integers_some : (row : List ℤ → Row) → ((zs : List ℤ) → HasValue (row zs)) → (args : Items Things) → SomeValue (of_list_or_integers args row)
of_list_or_integers_some row h args = fitted_some (λ zs. ⊤) (list_or_integers args) _ row (any_some (list_or_integers args)) (λ zs u. h zs)

pub of_semigroup_one : (letters : List Attribute) → (row : List ℕ → Row) → ((G : List ℕ) → One (row G).value) → (args : Items Things) → OneValue (of_semigroup letters args row)
of_semigroup_one letters row h args = fitted_one (one as_semigroup args) _ row h

pub of_semigroup_some : (letters : List Attribute) → (row : List ℕ → Row) → ((G : List ℕ) → IsLawfulList G → HasValue (row G)) → (args : Items Things) → AreLawful args → SomeValue (of_semigroup letters args row)
of_semigroup_some letters row h args l = fitted_some IsLawfulList (one as_semigroup args) _ row (one_semigroup_lawful args l) h

pub of_ideal_one : (letters : List Attribute) → (row : RelativeIdeal → Row) → ((I : RelativeIdeal) → One (row I).value) → (args : Items Things) → OneValue (of_ideal letters args row)
of_ideal_one letters row h args = fitted_one (one as_ideal args) _ row h

pub of_ideal_some : (letters : List Attribute) → (row : RelativeIdeal → Row) → ((I : RelativeIdeal) → IsLawfulIdeal I.ambient I.generators → HasValue (row I)) → (args : Items Things) → AreLawful args → SomeValue (of_ideal letters args row)
of_ideal_some letters row h args l = fitted_some IsLawfulRelative (one as_ideal args) _ row (one_ideal_lawful args l) h

-- ---- several arguments

-- rows of two things
module _ {A B : Type 0} (row : A → B → Row) where
  abbrev of_both : A × B → Row
  of_both p = row p.0 p.1

  pair_one : (asks : A × B → List Asking) → ((x : A) (y : B) → One (row x y).value) → (o : Option (A × B)) → OneValue (fitted o asks of_both)
  pair_one asks h o = fitted_one o asks of_both (λ p. h p.0 p.1)

  pair_some : (asks : A × B → List Asking) → (L : A → Type 0) (M : B → Type 0) → ((x : A) (y : B) → L x → M y → HasValue (row x y)) → (o : Option (A × B)) → IfSome o (BothLawful L M) → SomeValue (fitted o asks of_both)
  pair_some asks L M h o l = fitted_some (BothLawful L M) o asks of_both l (λ p q. h p.0 p.1 q.0 q.1)

pub of_two_integers_one : (row : ℤ → ℤ → Row) → ((x y : ℤ) → One (row x y).value) → (args : Items Things) → OneValue (of_two_integers args row)
of_two_integers_one row h args = pair_one row _ h (two two_integers args)

pub of_two_integers_some : (row : ℤ → ℤ → Row) → ((x y : ℤ) → HasValue (row x y)) → (args : Items Things) → AreLawful args → SomeValue (of_two_integers args row)
of_two_integers_some row h args l = fitted_some (λ p. ⊤) (two two_integers args) _ (of_both row) (any_some (two two_integers args)) (λ p u. h p.0 p.1)

pub of_three_integers_one : (row : ℤ → ℤ → ℤ → Row) → ((x y z : ℤ) → One (row x y z).value) → (args : Items Things) → OneValue (of_three_integers args row)
of_three_integers_one row h args = fitted_one (three three_integers args) _ (λ p. row p.0 p.1.0 p.1.1) (λ p. h p.0 p.1.0 p.1.1)

pub of_three_integers_some : (row : ℤ → ℤ → ℤ → Row) → ((x y z : ℤ) → HasValue (row x y z)) → (args : Items Things) → AreLawful args → SomeValue (of_three_integers args row)
of_three_integers_some row h args l = fitted_some (λ p. ⊤) (three three_integers args) _ (λ p. row p.0 p.1.0 p.1.1) (any_some (three three_integers args)) (λ p u. h p.0 p.1.0 p.1.1)

pub of_semigroup_and_integer_one : (letters : List Attribute) → (row : List ℕ → ℤ → Row) → ((G : List ℕ) (n : ℤ) → One (row G n).value) → (args : Items Things) → OneValue (of_semigroup_and_integer letters args row)
of_semigroup_and_integer_one letters row h args = pair_one row _ h (two semigroup_and_integer args)

pub of_semigroup_and_integer_some : (letters : List Attribute) → (row : List ℕ → ℤ → Row) → ((G : List ℕ) (n : ℤ) → IsLawfulList G → HasValue (row G n)) → (args : Items Things) → AreLawful args → SomeValue (of_semigroup_and_integer letters args row)
of_semigroup_and_integer_some letters row h args l =
    fitted_some (λ p. IsLawfulList p.0) (two semigroup_and_integer args) _ (of_both row) (two-each IsLawfulThing (λ p. IsLawfulList p.0) semigroup_and_integer (semigroup_and_integer-each IsLawfulThing) args l) (λ p. h p.0 p.1)

pub of_semigroup_then_integer_one : (letters : List Attribute) → (row : List ℕ → ℤ → Row) → ((G : List ℕ) (n : ℤ) → One (row G n).value) → (args : Items Things) → OneValue (of_semigroup_then_integer letters args row)
of_semigroup_then_integer_one letters row h args = pair_one (λ n G. row G n) _ (λ n G. h G n) (two (λ a b. integer_then_semigroup b a) args)

integer_then_semigroup_lawful : (a b : Plain) → IsLawful b → IfSome (integer_then_semigroup a b) (BothLawful any IsLawfulList)
integer_then_semigroup_lawful a b q = both-each any IsLawfulList (as_integer a) (as_semigroup b) (any_some (as_integer a)) (semigroup_lawful b q)

pub of_semigroup_then_integer_some : (letters : List Attribute) → (row : List ℕ → ℤ → Row) → ((G : List ℕ) (n : ℤ) → IsLawfulList G → HasValue (row G n)) → (args : Items Things) → AreLawful args → SomeValue (of_semigroup_then_integer letters args row)
of_semigroup_then_integer_some letters row h args l =
    pair_some (λ n G. row G n) _ any IsLawfulList (λ n G u g. h G n g) (two (λ a b. integer_then_semigroup b a) args) (two-each IsLawfulThing (BothLawful any IsLawfulList) (λ a b. integer_then_semigroup b a) (λ a b p q. integer_then_semigroup_lawful b a p) args l)

pub of_two_semigroups_one : (letters : List Attribute) → (row : List ℕ → List ℕ → Row) → ((G H : List ℕ) → One (row G H).value) → (args : Items Things) → OneValue (of_two_semigroups letters args row)
of_two_semigroups_one letters row h args = pair_one row _ h (two two_semigroups args)

pub of_two_semigroups_some : (letters : List Attribute) → (row : List ℕ → List ℕ → Row) → ((G H : List ℕ) → IsLawfulList G → IsLawfulList H → HasValue (row G H)) → (args : Items Things) → AreLawful args → SomeValue (of_two_semigroups letters args row)
of_two_semigroups_some letters row h args l =
    pair_some row _ IsLawfulList IsLawfulList h (two two_semigroups args)
    (two-each IsLawfulThing (BothLawful IsLawfulList IsLawfulList) two_semigroups (λ a b p q. both-each IsLawfulList IsLawfulList (as_semigroup a) (as_semigroup b) (semigroup_lawful a p) (semigroup_lawful b q)) args l)

-- ---- two operands

pub on_two_ideals_one : (letters : List Attribute) → (row : RelativeIdeal → RelativeIdeal → Row) → ((I J : RelativeIdeal) → One (row I J).value) → (a b : Plain) → OneValue (on_two_ideals letters a b row)
on_two_ideals_one letters row h a b = pair_one row _ h (two_ideals a b)

two_ideals_lawful : (a b : Plain) → IsLawful a → IsLawful b → IfSome (two_ideals a b) (BothLawful IsLawfulRelative IsLawfulRelative)
two_ideals_lawful a b p q = both-each IsLawfulRelative IsLawfulRelative (as_ideal a) (as_ideal b) (ideal_lawful a p) (ideal_lawful b q)

pub on_two_ideals_some : (letters : List Attribute) → (row : RelativeIdeal → RelativeIdeal → Row) → ((I J : RelativeIdeal) → IsLawfulIdeal I.ambient I.generators → IsLawfulIdeal J.ambient J.generators → HasValue (row I J))
    → (a b : Plain) → IsLawful a → IsLawful b → SomeValue (on_two_ideals letters a b row)
on_two_ideals_some letters row h a b p q = pair_some row _ IsLawfulRelative IsLawfulRelative h (two_ideals a b) (two_ideals_lawful a b p q)

pub on_integer_and_ideal_one : (letters : List Attribute) → (row : ℤ → RelativeIdeal → Row) → ((x : ℤ) (I : RelativeIdeal) → One (row x I).value) → (a b : Plain) → OneValue (on_integer_and_ideal letters a b row)
on_integer_and_ideal_one letters row h a b = pair_one row _ h (integer_then_ideal a b)

pub on_integer_and_ideal_some : (letters : List Attribute) → (row : ℤ → RelativeIdeal → Row) → ((x : ℤ) (I : RelativeIdeal) → IsLawfulIdeal I.ambient I.generators → HasValue (row x I)) → (a b : Plain) → IsLawful b → SomeValue (on_integer_and_ideal letters a b row)
on_integer_and_ideal_some letters row h a b q =
    pair_some row _ any IsLawfulRelative (λ x I u i. h x I i) (integer_then_ideal a b) (both-each any IsLawfulRelative (as_integer a) (as_ideal b) (any_some (as_integer a)) (ideal_lawful b q))

pub on_list_and_semigroup_one : (letters : List Attribute) → (row : List ℤ → List ℕ → Row) → ((zs : List ℤ) (G : List ℕ) → One (row zs G).value) → (a b : Plain) → OneValue (on_list_and_semigroup letters a b row)
on_list_and_semigroup_one letters row h a b = pair_one row _ h (list_then_semigroup a b)

list_then_semigroup_lawful : (a b : Plain) → IsLawful b → IfSome (list_then_semigroup a b) (BothLawful any IsLawfulList)
list_then_semigroup_lawful a b q = both-each any IsLawfulList (as_integers a) (as_semigroup b) (any_some (as_integers a)) (semigroup_lawful b q)

pub on_list_and_semigroup_some : (letters : List Attribute) → (row : List ℤ → List ℕ → Row) → ((zs : List ℤ) (G : List ℕ) → IsLawfulList G → HasValue (row zs G)) → (a b : Plain) → IsLawful b → SomeValue (on_list_and_semigroup letters a b row)
on_list_and_semigroup_some letters row h a b q = pair_some row _ any IsLawfulList (λ zs G u g. h zs G g) (list_then_semigroup a b) (list_then_semigroup_lawful a b q)

pub on_integer_and_semigroup_one : (letters : List Attribute) → (row : ℤ → List ℕ → Row) → ((x : ℤ) (G : List ℕ) → One (row x G).value) → (a b : Plain) → OneValue (on_integer_and_semigroup letters a b row)
on_integer_and_semigroup_one letters row h a b = pair_one row _ h (integer_then_semigroup a b)

pub on_integer_and_semigroup_some : (letters : List Attribute) → (row : ℤ → List ℕ → Row) → ((x : ℤ) (G : List ℕ) → IsLawfulList G → HasValue (row x G)) → (a b : Plain) → IsLawful b → SomeValue (on_integer_and_semigroup letters a b row)
on_integer_and_semigroup_some letters row h a b q = pair_some row _ any IsLawfulList (λ x G u g. h x G g) (integer_then_semigroup a b) (integer_then_semigroup_lawful a b q)

-- ---- the same of two arguments

pub of_two_ideals_one : (letters : List Attribute) → (row : RelativeIdeal → RelativeIdeal → Row) → ((I J : RelativeIdeal) → One (row I J).value) → (args : Items Things) → OneValue (of_two_ideals letters args row)
of_two_ideals_one letters row h args = pair_one row _ h (two two_ideals args)

pub of_two_ideals_some : (letters : List Attribute) → (row : RelativeIdeal → RelativeIdeal → Row) → ((I J : RelativeIdeal) → IsLawfulIdeal I.ambient I.generators → IsLawfulIdeal J.ambient J.generators → HasValue (row I J))
    → (args : Items Things) → AreLawful args → SomeValue (of_two_ideals letters args row)
of_two_ideals_some letters row h args l =
    pair_some row _ IsLawfulRelative IsLawfulRelative h (two two_ideals args) (two-each IsLawfulThing (BothLawful IsLawfulRelative IsLawfulRelative) two_ideals two_ideals_lawful args l)

pub of_list_then_semigroup_one : (letters : List Attribute) → (row : List ℤ → List ℕ → Row) → ((zs : List ℤ) (G : List ℕ) → One (row zs G).value) → (args : Items Things) → OneValue (of_list_then_semigroup letters args row)
of_list_then_semigroup_one letters row h args = pair_one row _ h (two list_then_semigroup args)

pub of_list_then_semigroup_some : (letters : List Attribute) → (row : List ℤ → List ℕ → Row) → ((zs : List ℤ) (G : List ℕ) → IsLawfulList G → HasValue (row zs G)) → (args : Items Things) → AreLawful args → SomeValue (of_list_then_semigroup letters args row)
of_list_then_semigroup_some letters row h args l =
    pair_some row _ any IsLawfulList (λ zs G u g. h zs G g) (two list_then_semigroup args) (two-each IsLawfulThing (BothLawful any IsLawfulList) list_then_semigroup (λ a b p q. list_then_semigroup_lawful a b q) args l)
