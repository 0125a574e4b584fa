-- What is asked for at once, before a row tells anything.
use Rattle.std.specs.Prelude.{◌≡◌, ℕ, List, [], Option, Some, None}
use Rattle.sg_rows.specs.Asks.{Attribute, Asking, asked_of}
use Rattle.sg_rows.specs.Order.{Case, unfit, fits}
use Rattle.sg_store.specs.Attributes.{Attributes}
use Rattle.sg_calls.specs.After.{after_asked}

-- what a case asks for at once
abbrev pub early_of : Case → List Asking
early_of unfit = []
early_of (fits early row) = early

-- what it asks for once it refuses nothing
abbrev pub late_of : Case → List Asking
late_of unfit = []
late_of (fits early row) = row.late

-- what is asked for where arguments of the kinds that are wanted were found
abbrev pub asks_of : {A : Type 0} → Option A → (A → List Asking) → List Asking
asks_of None asks = []
asks_of (Some a) asks = asks a

-- these attributes of the semigroups of what was found were asked for
abbrev pub AsksFor : {A : Type 0} → List Attribute → Option A → (A → List (List ℕ)) → Attributes → Attributes → Type 0
AsksFor letters found semigroups old new = new ≡ after_asked (asks_of found (λ a. asked_of letters (semigroups a))) old
