-- The attributes of a semigroup that are kept.
use Rattle.std.specs.Prelude.{◌≡◌, ◌<◌, ℕ, ℤ, List}
use Rattle.sg_defs.specs.Invariants.{IsPseudoFrobenius}
use Rattle.sg_defs.specs.Listings.{ListsIntegers}
use Rattle.sg_defs.specs.Membership.{IsFactorization}
use Rattle.sg_nonunique.specs.Presentations.{IsCanonical, Relation}
use Rattle.sg_memo.specs.Lru.{State, answered, empty, IsAfterRefusal}
use Rattle.sg_store.specs.declared.attributes.Counts.{Counts}

-- a table is seen as the minimal generators of its semigroup
abbrev pub IsTableOf : List ℕ → List ℕ → Type 0
IsTableOf gens table = table ≡ gens

-- the pseudo-Frobenius numbers, ascending
abbrev pub AreNumbersOf : List ℕ → List ℤ → Type 0
AreNumbersOf gens numbers = ListsIntegers (IsPseudoFrobenius gens) numbers

-- the canonical minimal presentation
abbrev pub IsPresentationOf : List ℕ → List (Relation ℕ) → Type 0
IsPresentationOf gens relations = IsCanonical (◌<◌) (IsFactorization gens) relations

-- what is kept of each attribute
pub record Attributes : Type 0 where
  pub tables : State
  pub pseudo : State
  pub presentations : State
  pub tames : State

-- with room for so many of each, of which nothing was asked for
abbrev pub nothing_asked : ℕ → Attributes
nothing_asked capacity = record { tables = empty capacity; pseudo = empty capacity; presentations = empty capacity; tames = empty capacity }

-- after the table of this semigroup was asked for, its pseudo-Frobenius numbers, its presentation, or its tame degree
abbrev pub table_answered : List ℕ → Attributes → Attributes
table_answered gens a = record { tables = answered gens a.tables; pseudo = a.pseudo; presentations = a.presentations; tames = a.tames }

abbrev pub numbers_answered : List ℕ → Attributes → Attributes
numbers_answered gens a = record { tables = a.tables; pseudo = answered gens a.pseudo; presentations = a.presentations; tames = a.tames }

abbrev pub presentation_answered : List ℕ → Attributes → Attributes
presentation_answered gens a = record { tables = a.tables; pseudo = a.pseudo; presentations = answered gens a.presentations; tames = a.tames }

abbrev pub tame_answered : List ℕ → Attributes → Attributes
tame_answered gens a = record { tables = a.tables; pseudo = a.pseudo; presentations = a.presentations; tames = answered gens a.tames }

-- after no table was given for want of memory, no numbers, no presentation, or no tame degree
pub record IsAfterNoTable (old new : Attributes) : Type 0 where
  pub tables : IsAfterRefusal old.tables new.tables
  pub pseudo : new.pseudo ≡ old.pseudo
  pub presentations : new.presentations ≡ old.presentations
  pub tames : new.tames ≡ old.tames

pub record IsAfterNoNumbers (old new : Attributes) : Type 0 where
  pub tables : new.tables ≡ old.tables
  pub pseudo : IsAfterRefusal old.pseudo new.pseudo
  pub presentations : new.presentations ≡ old.presentations
  pub tames : new.tames ≡ old.tames

pub record IsAfterNoPresentation (old new : Attributes) : Type 0 where
  pub tables : new.tables ≡ old.tables
  pub pseudo : new.pseudo ≡ old.pseudo
  pub presentations : IsAfterRefusal old.presentations new.presentations
  pub tames : new.tames ≡ old.tames

pub record IsAfterNoTame (old new : Attributes) : Type 0 where
  pub tables : new.tables ≡ old.tables
  pub pseudo : new.pseudo ≡ old.pseudo
  pub presentations : new.presentations ≡ old.presentations
  pub tames : IsAfterRefusal old.tames new.tames

-- how often each was asked for and made
pub record AreCounts (a : Attributes) (c : Counts) : Type 0 where
  pub tables_asked : c.tables_asked ≡ a.tables.asked
  pub tables_made : c.tables_made ≡ a.tables.made
  pub pseudo_asked : c.pseudo_asked ≡ a.pseudo.asked
  pub pseudo_made : c.pseudo_made ≡ a.pseudo.made
  pub presentations_asked : c.presentations_asked ≡ a.presentations.asked
  pub presentations_made : c.presentations_made ≡ a.presentations.made
  pub tames_asked : c.tames_asked ≡ a.tames.asked
  pub tames_made : c.tames_made ≡ a.tames.made
