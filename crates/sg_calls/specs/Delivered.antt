-- What rows made, as values over a store.
use Rattle.std.specs.Prelude.{◌≡◌, ℕ, length, Result, Ok, Err}
use Rattle.sg_value.specs.Known.{Known, named}
use Rattle.sg_value.specs.Plain.{AllKnown, plain}
use Rattle.sg_value.specs.declared.value.Value.{Value}
use Rattle.sg_rows.specs.Made.{datum}
use Rattle.sg_rows.specs.Order.{InBits}
use Rattle.sg_rows.specs.Replies.{RepliesOf}
use Rattle.sg_rows.specs.Values.{answers, weight_of_vectors, weight_of_lists}
use Rattle.sg_rows.specs.declared.fault.CallFault.{CallFault}
use Rattle.sg_rows.specs.declared.made.Made.{Made}
use Rattle.sg_rows.specs.declared.made.Made.TheVariants.{Integers, Naturals, Vectors, VectorLists, Semigroups}

-- the value stands for what was made, and each id in it is known
pub record IsValueOf (store : Known) (m : Made) (v : Value) : Type 0 where
  pub is : plain (named store) v ≡ datum m
  pub known : AllKnown (named store) v
  pub bits : InBits (datum m)

-- the weight of the entries, where it is a list: their number, and for vectors and lists of vectors that of their entries too
abbrev pub weight_made : Made → ℕ
weight_made (Integers zs) = length zs
weight_made (Naturals ns) = length ns
weight_made (Vectors vs) = weight_of_vectors vs
weight_made (VectorLists ls) = weight_of_lists ls
weight_made (Semigroups L) = length L
weight_made _ = 0

-- what was made is the reply, or its refusal where it is too heavy; else it is the refusal of the row
abbrev pub IsDelivered : Result Made CallFault → Known → Result Value CallFault → Type 0
IsDelivered (Ok m) store r = RepliesOf r store (answers (λ d. d ≡ datum m))
IsDelivered (Err e) store r = r ≡ Err e
