-- What a call answers: the first refusal that comes, or the value.
use Rattle.std.specs.Prelude.{◌≡◌, ◌⊎◌, ◌<◌, List, [], ◌++◌, Result, Ok, Err, FitsSigned, ⊤}
use Rattle.sg_value.specs.Plain.{Things}
use Rattle.std.specs.Int.{w64}
use Rattle.sg_value.specs.Data.{Data, int, weight_of, depth_of, Kind}
use Rattle.sg_value.specs.declared.limits.TheConstants.{NESTING_LIMIT, WEIGHT_LIMIT}
use Rattle.sg_rows.specs.Asks.{Asking}
use Rattle.sg_rows.specs.declared.fault.Fault.{Fault}
use Rattle.sg_rows.specs.declared.fault.Fault.TheVariants.{WrongType, Overflow, BadArgument, TooLarge, TooMany, Budget, Depth}

-- a value with no store behind it: its things by what they are made of
abbrev pub Plain : Type 0
Plain = Data Things

abbrev pub Reply : Type 0
Reply = Result Plain Fault

-- what a row says of given arguments, of kinds that it takes
pub record Row : Type 1 where
  -- an argument passes a number that the row names
  pub size : Type 0
  -- the command is not defined for the arguments
  pub bad : Type 0
  -- a limit is passed
  pub limit : Type 0
  -- there are too many factorizations
  pub many : Type 0
  -- the budget of steps is spent
  pub budget : Type 0
  -- this is asked for once none of the first three refusals comes: what follows may be known from it alone
  pub late : List Asking
  -- this is the value
  pub value : Plain → Type 0

-- the arguments are of kinds that the row does not take; or this is asked for at once, and the row says this of them
pub data Case : Type 1 where
  unfit : Case
  fits : List Asking → Row → Case

-- conditions in the order in which they are looked at, each with its fault
pub data Checks : Type 1 where
  passed : Checks
  check : Type 0 → Fault → Checks → Checks

-- the first condition that holds gives its fault; where none holds, the rest decides
abbrev pub FirstOf : {A : Type 0} → Checks → (Result A Fault → Type 0) → Result A Fault → Type 0
FirstOf passed rest r = rest r
FirstOf (check c e more) rest r = (c × (r ≡ Err e)) ⊎ ((¬ c) × FirstOf more rest r)

-- an integer is in 64 bits
abbrev pub InBits : {H : Kind → Type 0} → Data H → Type 0
InBits (int z) = FitsSigned w64 z
InBits _ = ⊤

-- the refusals that a row names, in their order
abbrev pub named_checks : Row → Checks
named_checks row = check row.size TooLarge (check row.bad BadArgument (check row.limit TooLarge (check row.many TooMany (check row.budget Budget passed))))

-- the refusals of every value: an integer outside of 64 bits, lists nested too deep, a weight past its limit
abbrev pub value_checks : {H : Kind → Type 0} → Data H → Checks
value_checks d = check (¬ InBits d) Overflow (check (NESTING_LIMIT < depth_of d) Depth (check (WEIGHT_LIMIT < weight_of d) TooLarge passed))

-- the reply is the value that was found, or the first refusal of it
abbrev pub Delivers : {H : Kind → Type 0} → Data H → Result (Data H) Fault → Type 0
Delivers d r = FirstOf (value_checks d) (λ s. s ≡ Ok d) r

-- the reply is the row's value, or the first refusal
abbrev pub IsReplyOf : Row → Reply → Type 0
IsReplyOf row r = FirstOf (named_checks row) (λ s. (d : Plain) × row.value d × Delivers d s) r

-- the reply is that of the row, where it takes arguments of these kinds
abbrev pub IsReply : Case → Reply → Type 0
IsReply unfit r = r ≡ Err WrongType
IsReply (fits asked row) r = IsReplyOf row r

-- none of the row's own refusals comes
pub record Passes (row : Row) : Type 0 where
  pub size : ¬ row.size
  pub bad : ¬ row.bad
  pub limit : ¬ row.limit
  pub many : ¬ row.many
  pub budget : ¬ row.budget

-- the arguments are neither too large nor bad
pub record Admits (row : Row) : Type 0 where
  pub size : ¬ row.size
  pub bad : ¬ row.bad
  pub limit : ¬ row.limit

-- they are
abbrev pub Bars : Row → Type 0
Bars row = row.size ⊎ (row.bad ⊎ row.limit)

-- what is asked for on the way to a reply, in order: also where the arguments are refused what the row asks for at once
abbrev pub AreAsked : Case → List Asking → Type 0
AreAsked unfit asked = asked ≡ []
AreAsked (fits early row) asked = (Admits row × (asked ≡ early ++ row.late)) ⊎ (Bars row × (asked ≡ early))
