-- Rows that take arguments of several kinds.
use Rattle.std.proofs.Common.{◌≡◌, Result, sym, subst}
use Rattle.sg_value.specs.Known.{Known}
use Rattle.sg_value.specs.declared.value.Value.{Value}
use Rattle.sg_rows.specs.Order.{Case, unfit, fits}
use Rattle.sg_rows.specs.Alternatives.{or_else, Takes}
use Rattle.sg_rows.specs.Replies.{Replies}
use Rattle.sg_rows.specs.declared.fault.CallFault.{CallFault}
use Rattle.sg_rows.proofs.OneValue.{OneValue}
use Rattle.sg_rows.proofs.SomeValue.{SomeValue}

pub or_else_one : (c d : Case) → OneValue c → OneValue d → OneValue (or_else c d)
or_else_one unfit d h k = k
or_else_one (fits asked row) d h k = h

pub or_else_some : (c d : Case) → SomeValue c → SomeValue d → SomeValue (or_else c d)
or_else_some unfit d h k = k
or_else_some (fits asked row) d h k = h

-- a reply of the first, which takes the arguments
pub of_first : (r : Result Value CallFault) (store : Known) (c d : Case) → Takes c → Replies r store c → Replies r store (or_else c d)
of_first r store unfit d takes h = absurd takes
of_first r store (fits asked row) d takes h = h

-- a reply of the second, where the first does not take the arguments
pub of_second : (r : Result Value CallFault) (store : Known) (c d : Case) → c ≡ unfit → Replies r store d → Replies r store (or_else c d)
of_second r store c d e h = subst (λ x. Replies r store (or_else x d)) (sym e) h
