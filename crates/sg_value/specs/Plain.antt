-- The plain data of a value.
pub use Rattle.sg_defs.specs.Ideals.{RelativeIdeal}
use Rattle.std.specs.Prelude.{◌≡◌, ℕ, ℤ, List, [], Option, Some, IsSome, unwrap_or}
use Rattle.sg_value.specs.Data.{Kind, semigroups, ideals, Data, Items, data_map, items_map, EachThing, EachThingOfAll}
use Rattle.sg_value.specs.declared.value.Value.{Value}
pub use Rattle.sg_value.specs.Places.{Places, Stored, Entries}
pub use Rattle.sg_value.specs.Contents.{contents, contents_of_all}

-- a thing by what it is made of: a semigroup is its minimal list
abbrev pub Things : Kind → Type 0
Things semigroups = List ℕ
Things ideals = RelativeIdeal

-- a value with no store behind it
abbrev pub Plain : Type 0
Plain = Data Things

-- what the known places of each kind stand for
abbrev pub Named : Type 0
Named = (k : Kind) → ℕ → Option (Things k)

abbrev pub IsKnown : Named → (k : Kind) → ℕ → Type 0
IsKnown names k i = IsSome (names k i)

-- each thing in the value is known
abbrev pub AllKnown : Named → Value → Type 0
AllKnown names v = EachThing (IsKnown names) (contents v)

abbrev pub AllKnownIn : Named → List Value → Type 0
AllKnownIn names vs = EachThingOfAll (IsKnown names) (contents_of_all vs)

-- what stands where no place is known
abbrev pub nothing : (k : Kind) → Things k
nothing semigroups = []
nothing ideals = record { ambient = []; generators = [] }

-- the thing at a known place
abbrev pub thing_at : Named → (k : Kind) → ℕ → Things k
thing_at names k i = unwrap_or (names k i) (nothing k)

-- a value as plain data, with what its things are made of
abbrev pub plain : Named → Value → Plain
plain names v = data_map (thing_at names) (contents v)

abbrev pub plain_of_all : Named → List Value → Items Things
plain_of_all names vs = items_map (thing_at names) (contents_of_all vs)

-- no two known places of a kind stand for the same
abbrev pub AreDistinct : Named → Type 0
AreDistinct names = (k : Kind) (i j : ℕ) (thing : Things k) → names k i ≡ Some thing → names k j ≡ Some thing → i ≡ j

-- each place known before stands for what it stood for
abbrev pub IsKept : Named → Named → Type 0
IsKept old new = (k : Kind) (i : ℕ) (thing : Things k) → old k i ≡ Some thing → new k i ≡ Some thing

-- the ideal at this place is one of the semigroup at that place
abbrev pub IsAmbientOf : Named → ℕ → ℕ → Type 0
IsAmbientOf names id ambient = names semigroups ambient ≡ Some (thing_at names ideals id).ambient

-- these are the minimal generators of the ideal at this place
abbrev pub AreGeneratorsOf : Named → ℕ → List ℤ → Type 0
AreGeneratorsOf names id gens = gens ≡ (thing_at names ideals id).generators
