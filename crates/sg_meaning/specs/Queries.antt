-- What a statement asks for while it runs, and what is answered.
use Rattle.std.specs.Prelude.{◌≡◌, ℕ, suc, ℤ, pos, negsuc, ◌-ℤ◌, List, Option, Some, None, Ok, Err, []}
use Rattle.sg_value.specs.Plain.{Things}
use Rattle.sg_value.specs.Data.{list, Items}
use Rattle.sg_rows.specs.Asks.{Asking}
use Rattle.sg_rows.specs.Order.{Plain, Reply, Case, fits, IsReply, IsReplyOf, AreAsked}
use Rattle.sg_rows.specs.Kinds.{given, as_integer, as_list}
use Rattle.sg_rows.specs.Values.{answers}
use Rattle.sg_meaning.specs.Entries.{entry_at_integer, integers_from}
use Rattle.sg_calls.specs.Operations.{operation, negation}
use Rattle.sg_calls.specs.Rows.{row}
use Rattle.sg_calls.specs.declared.command.Command.{Command}
use Rattle.sg_calls.specs.declared.operator.Operator.{Operator}
use Rattle.sg_rows.specs.declared.fault.Fault.TheVariants.{WrongType, IndexOut}

pub data Query : Type 0 where
  -- a command of values, of arguments
  calls : Command → Items Things → Query
  -- an operator of two operands
  combines : Operator → Plain → Plain → Query
  -- the minus sign
  negates : Plain → Query
  -- the list of these entries
  lists : Items Things → Query
  -- the list of the integers from the first to the second
  spans : Plain → Plain → Query
  -- an entry of a list by its place
  indexes : Plain → Plain → Query

-- how many integers there are from the first to the second
abbrev pub span_count : ℤ → ℕ
span_count (pos n) = suc n
span_count (negsuc n) = 0

abbrev pub span_of : Plain → Plain → Case
span_of a b = given (as_integer a) (λ x. given (as_integer b) (λ y. fits [] (answers (λ d. d ≡ list (integers_from x (span_count (y -ℤ x)))))))

abbrev pub found_or_out : Option Plain → Reply
found_or_out (Some d) = Ok d
found_or_out None = Err IndexOut

-- the entry of a list at an integer, or that there is none
abbrev pub item_of : Option (Items Things) → Option ℤ → Reply
item_of None i = Err WrongType
item_of (Some ds) None = Err WrongType
item_of (Some ds) (Some z) = found_or_out (entry_at_integer ds z)

-- the reply to a query, within the budget of steps, and what is asked for on the way to it
abbrev pub IsAnswer : ℕ → Query → Reply → List Asking → Type 0
IsAnswer budget (calls c args) r asked = IsReply (row budget c args) r × AreAsked (row budget c args) asked
IsAnswer budget (combines op a b) r asked = IsReply (operation budget op a b) r × AreAsked (operation budget op a b) asked
IsAnswer budget (negates a) r asked = IsReply (negation a) r × (asked ≡ [])
IsAnswer budget (lists ds) r asked = IsReplyOf (answers (λ d. d ≡ list ds)) r × (asked ≡ [])
IsAnswer budget (spans a b) r asked = IsReply (span_of a b) r × (asked ≡ [])
IsAnswer budget (indexes a i) r asked = (r ≡ item_of (as_list a) (as_integer i)) × (asked ≡ [])
