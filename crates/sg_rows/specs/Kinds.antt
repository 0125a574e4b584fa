-- Arguments by their kinds.
use Rattle.std.specs.Prelude.{ℤ, List, [], ◌∷◌, Option, Some, None, unwrap_or}
use Rattle.std.specs.Option.{option_map}
use Rattle.sg_value.specs.Data.{semigroups, ideals, Data, int, list, semigroup, ideal, Items, none, item, Kind}
use Rattle.sg_rows.specs.Asks.{Asking}
use Rattle.sg_rows.specs.Order.{Row, Case, unfit, fits}

-- ---- one argument

abbrev pub as_integer : {H : Kind → Type 0} → Data H → Option ℤ
as_integer (int z) = Some z
as_integer _ = None

abbrev pub as_list : {H : Kind → Type 0} → Data H → Option (Items H)
as_list (list ds) = Some ds
as_list _ = None

abbrev pub as_semigroup : {H : Kind → Type 0} → Data H → Option (H semigroups)
as_semigroup (semigroup h) = Some h
as_semigroup _ = None

abbrev pub as_ideal : {H : Kind → Type 0} → Data H → Option (H ideals)
as_ideal (ideal h) = Some h
as_ideal _ = None

-- a number in front, where there are both
abbrev pub prepended : Option ℤ → Option (List ℤ) → Option (List ℤ)
prepended None zs = None
prepended (Some z) zs = option_map (λ ys. z ∷ ys) zs

-- the integers, where all entries are integers
abbrev pub integers : {H : Kind → Type 0} → Items H → Option (List ℤ)
integers none = Some []
integers (item d ds) = prepended (as_integer d) (integers ds)

-- a list of integers
abbrev pub as_integers : {H : Kind → Type 0} → Data H → Option (List ℤ)
as_integers (list ds) = integers ds
as_integers _ = None

-- ---- two

-- both, where there are both
abbrev pub both : {A B : Type 0} → Option A → Option B → Option (A × B)
both (Some a) (Some b) = Some (a, b)
both _ _ = None

abbrev pub two_integers : {H : Kind → Type 0} → Data H → Data H → Option (ℤ × ℤ)
two_integers a b = both (as_integer a) (as_integer b)

abbrev pub two_semigroups : {H : Kind → Type 0} → Data H → Data H → Option (H semigroups × H semigroups)
two_semigroups a b = both (as_semigroup a) (as_semigroup b)

abbrev pub two_ideals : {H : Kind → Type 0} → Data H → Data H → Option (H ideals × H ideals)
two_ideals a b = both (as_ideal a) (as_ideal b)

-- a semigroup and an integer, in either order
abbrev pub semigroup_and_integer : {H : Kind → Type 0} → Data H → Data H → Option (H semigroups × ℤ)
semigroup_and_integer (semigroup h) (int z) = Some (h, z)
semigroup_and_integer (int z) (semigroup h) = Some (h, z)
semigroup_and_integer _ _ = None

-- an integer and then a semigroup or an ideal, a list of integers and then a semigroup
abbrev pub integer_then_semigroup : {H : Kind → Type 0} → Data H → Data H → Option (ℤ × H semigroups)
integer_then_semigroup a b = both (as_integer a) (as_semigroup b)

abbrev pub integer_then_ideal : {H : Kind → Type 0} → Data H → Data H → Option (ℤ × H ideals)
integer_then_ideal a b = both (as_integer a) (as_ideal b)

abbrev pub list_then_semigroup : {H : Kind → Type 0} → Data H → Data H → Option (List ℤ × H semigroups)
list_then_semigroup a b = both (as_integers a) (as_semigroup b)

-- ---- three

abbrev pub three_integers : {H : Kind → Type 0} → Data H → Data H → Data H → Option (ℤ × (ℤ × ℤ))
three_integers a b c = both (as_integer a) (two_integers b c)

-- ---- all arguments of a call

-- what is taken of the one argument, of two, and of three
abbrev pub one : {H : Kind → Type 0} {A : Type 0} → (Data H → Option A) → Items H → Option A
one take (item a none) = take a
one take _ = None

abbrev pub two : {H : Kind → Type 0} {A : Type 0} → (Data H → Data H → Option A) → Items H → Option A
two take (item a (item b none)) = take a b
two take _ = None

abbrev pub three : {H : Kind → Type 0} {A : Type 0} → (Data H → Data H → Data H → Option A) → Items H → Option A
three take (item a (item b (item c none))) = take a b c
three take _ = None

-- the one list of integers that is given, or the arguments where they are integers
abbrev pub list_or_integers : {H : Kind → Type 0} → Items H → Option (List ℤ)
list_or_integers ds = integers (unwrap_or (one as_list ds) ds)

-- ---- what is said of arguments

-- where there is something of the kind that is wanted
abbrev pub given : {A : Type 0} → Option A → (A → Case) → Case
given None f = unfit
given (Some a) f = f a

-- what is asked for at once, and the row, of what was taken
abbrev pub fitted : {A : Type 0} → Option A → (A → List Asking) → (A → Row) → Case
fitted None asks row = unfit
fitted (Some a) asks row = fits (asks a) (row a)
