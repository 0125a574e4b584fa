-- Values whose semigroups and ideals are such as a script can make.
use Rattle.std.specs.Prelude.{Ok, Err, ⊤}
use Rattle.sg_lawful.specs.Lawful.{IsLawfulList, IsLawfulIdeal}
use Rattle.sg_value.specs.Data.{Kind, semigroups, ideals, EachThing, EachThingOfAll, Items}
use Rattle.sg_value.specs.Plain.{Things}
use Rattle.sg_rows.specs.Order.{Plain, Reply}

abbrev pub IsLawfulThing : (k : Kind) → Things k → Type 0
IsLawfulThing semigroups G = IsLawfulList G
IsLawfulThing ideals I = IsLawfulIdeal I.ambient I.generators

abbrev pub IsLawful : Plain → Type 0
IsLawful d = EachThing IsLawfulThing d

abbrev pub AreLawful : Items Things → Type 0
AreLawful ds = EachThingOfAll IsLawfulThing ds

-- a lawful value, or a fault
abbrev pub IsLawfulReply : Reply → Type 0
IsLawfulReply (Ok d) = IsLawful d
IsLawfulReply (Err e) = ⊤

-- there is a reply with P, and it is lawful
abbrev pub SomeReply : (Reply → Type 0) → Type 0
SomeReply P = (r : Reply) × P r × IsLawfulReply r
