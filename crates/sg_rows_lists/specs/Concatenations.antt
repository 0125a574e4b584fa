-- Lists one after the other.
use Rattle.std.specs.Prelude.{◌≡◌, Option, Some, None, Result, Ok, Err, []}
use Rattle.std.specs.Option.{option_map}
use Rattle.sg_value.specs.Data.{list, Items, none, item, join, Kind}
use Rattle.sg_value.specs.Plain.{Things}
use Rattle.sg_value.specs.declared.value.Value.{Value}
use Rattle.sg_rows.specs.declared.fault.CallFault.{CallFault}
use Rattle.sg_rows.specs.Order.{Case, fits}
use Rattle.sg_rows.specs.Kinds.{given}
use Rattle.sg_rows.specs.Values.{answers}

-- the entries of all lists, where there is nothing but lists
abbrev pub concatenated : {H : Kind → Type 0} → Items H → Option (Items H)
concatenated none = Some none
concatenated (item (list ds) es) = option_map (join ds) (concatenated es)
concatenated _ = None

-- these entries as one list
abbrev pub concatenation_of : Items Things → Case
concatenation_of args = given (concatenated args) (λ ds. fits [] (answers (λ d. d ≡ list ds)))

-- what stands in a value's place, where a call left its answer there
abbrev pub left_in : Value → Result (Unit {0}) CallFault → Result Value CallFault
left_in v (Ok u) = Ok v
left_in v (Err e) = Err e
