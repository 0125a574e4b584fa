-- What calls answer.
use Rattle.std.specs.Prelude.{◌≡◌, ℕ, List, [], Option, Some, None, Err}
use Rattle.sg_value.specs.Data.{Items}
use Rattle.sg_value.specs.Plain.{Things}
use Rattle.sg_rows.specs.Asks.{Asking}
use Rattle.sg_rows.specs.Order.{Reply, Case, unfit, IsReply, AreAsked}
use Rattle.sg_calls.specs.Commands.{checked, command_named}
use Rattle.sg_calls.specs.Rows.{row}
use Rattle.sg_rows.specs.Entries.{entry_count}
use Rattle.sg_calls.specs.declared.command.Command.{Command}
use Rattle.sg_rows.specs.declared.fault.Fault.{Fault}

-- what a command, if there is one, says of arguments, within a budget of steps
abbrev pub case_of : ℕ → Option Command → Items Things → Case
case_of budget None args = unfit
case_of budget (Some c) args = row budget c args

abbrev pub reply_unless : ℕ → Option Fault → Items Things → Option Command → Reply → List Asking → Type 0
reply_unless budget (Some e) args c r asked = (r ≡ Err e) × (asked ≡ [])
reply_unless budget None args c r asked = IsReply (case_of budget c args) r × AreAsked (case_of budget c args) asked

-- what a command answers, and what is asked for on the way: the fault of its name or of the number of its arguments, and
-- nothing, else the reply of its row
abbrev pub Answer : ℕ → List ℕ → Items Things → Reply → List Asking → Type 0
Answer budget name args r asked = reply_unless budget (checked name (entry_count args)) args (command_named name) r asked
