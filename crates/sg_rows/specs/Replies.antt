-- What a call that answers a row gave.
use Rattle.std.specs.Prelude.{Result, Ok, Err, ⊤}
use Rattle.sg_value.specs.Known.{Known, named}
use Rattle.sg_value.specs.Plain.{plain, AllKnown}
use Rattle.sg_value.specs.declared.value.Value.{Value}
use Rattle.sg_rows.specs.Order.{Reply, Row, Case, IsReply, IsReplyOf}
use Rattle.sg_rows.specs.declared.fault.CallFault.{CallFault}
use Rattle.sg_rows.specs.declared.fault.CallFault.TheVariants.{Script, Memory}

-- what a call gave is such a reply, and each id in it is known
abbrev pub Gave : (Reply → Type 0) → Result Value CallFault → Known → Type 0
Gave P (Ok v) store = P (Ok (plain (named store) v)) × AllKnown (named store) v
Gave P (Err (Script e)) store = P (Err e)
Gave P (Err (Memory e)) store = ⊤

-- it is the reply of the row
abbrev pub RepliesOf : Result Value CallFault → Known → Row → Type 0
RepliesOf r store row = Gave (λ s. IsReplyOf row s) r store

-- it is the reply of the case
abbrev pub Replies : Result Value CallFault → Known → Case → Type 0
Replies r store c = Gave (λ s. IsReply c s) r store
