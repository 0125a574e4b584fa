-- Replies of rows.
use Rattle.std.proofs.Common.{◌≡◌, ◌↔◌, ℤ, Bool, true, false, not, IsTrue, Result, Ok, Err, inl, inr, refl, ap, sym, subst, arith}
use Rattle.sg_value.specs.Known.{Known, named}
use Rattle.std.specs.Prelude.{FitsSigned}
use Rattle.std.specs.Int.{w64}
use Rattle.sg_value.specs.Data.{int, truth, data_map, EachThing}
use Rattle.sg_value.specs.Plain.{contents, plain, thing_at, IsKnown, Things}
use Rattle.sg_value.specs.declared.value.Value.{Value}
use Rattle.sg_value.specs.declared.value.Value.TheVariants as value
use Rattle.sg_rows.specs.Order.{Plain, Reply, Row, Checks, passed, check, FirstOf, Delivers, IsReplyOf, Passes}
use Rattle.sg_rows.specs.Values.{answers, whether}
use Rattle.sg_rows.specs.Replies.{RepliesOf}
use Rattle.sg_rows.specs.declared.fault.Fault.{Fault}
use Rattle.sg_rows.specs.declared.fault.Fault.TheVariants.{BadArgument, TooLarge, TooMany, Budget}
use Rattle.sg_rows.specs.declared.fault.CallFault.{CallFault}
use Rattle.sg_rows.specs.declared.fault.CallFault.TheVariants.{Script, Memory}

pub contents-Int : (z : ℤ) → contents (value.Int z) ≡ int z
contents-Int z = refl

pub contents-Bool : (b : Bool) → contents (value.Bool b) ≡ truth b
contents-Bool b = refl

no : ⊥ → ⊥
no h = h

pub delivered : (row : Row) (d : Plain) (r : Reply) → Passes row → row.value d → Delivers d r → IsReplyOf row r
delivered row d r p h g = inr (p.size, inr (p.bad, inr (p.limit, inr (p.many, inr (p.budget, (d, h, g))))))

-- a single value in bounds is delivered
pub delivers_integer : (z : ℤ) → FitsSigned w64 z → Delivers {H = Things} (int z) (Ok (int z))
delivers_integer z fit = inr ((λ f. f fit), inr ((λ deep. absurd (omega arith)), inr ((λ heavy. absurd (omega arith)), refl)))

pub delivers_truth : (b : Bool) → Delivers {H = Things} (truth b) (Ok (truth b))
delivers_truth b = inr ((λ f. f tt), inr ((λ deep. absurd (omega arith)), inr ((λ heavy. absurd (omega arith)), refl)))

pub answers_pass : (P : Plain → Type 0) → Passes (answers P)
answers_pass P = record { size = no; bad = no; limit = no; many = no; budget = no }

-- a value without semigroups is the same over every store
pub plain_integer : (store : Known) (v : Value) (z : ℤ) → contents v ≡ int z → plain (named store) v ≡ int z
plain_integer store v z h = ap (data_map (thing_at (named store))) h

pub plain_truth : (store : Known) (v : Value) (b : Bool) → contents v ≡ truth b → plain (named store) v ≡ truth b
plain_truth store v b h = ap (data_map (thing_at (named store))) h

-- an integer as the reply
pub replies_integer : (store : Known) (row : Row) (z : ℤ) (v : Value) → contents v ≡ int z → FitsSigned w64 z → Passes row → row.value (int z) → RepliesOf (Ok v) store row
replies_integer store row z v is fit p h = (
  subst (λ d. IsReplyOf row (Ok d)) (sym (plain_integer store v z is)) (delivered row (int z) (Ok (int z)) p h (delivers_integer z fit)),
  subst (λ d. EachThing (IsKnown (named store)) d) (sym is) tt,
)

-- a truth value as the reply
pub replies_truth : (store : Known) (b : Bool) (v : Value) (P : Type 0) → contents v ≡ truth b → (IsTrue b ↔ P) → RepliesOf (Ok v) store (answers (whether P))
replies_truth store b v P is h = (
  subst (λ d. IsReplyOf (answers (whether P)) (Ok d)) (sym (plain_truth store v b is)) (delivered (answers (whether P)) (truth b) (Ok (truth b)) (answers_pass (whether P)) (b, refl, h) (delivers_truth b)),
  subst (λ d. EachThing (IsKnown (named store)) d) (sym is) tt,
)

-- a test turned round
pub decides_not : (b : Bool) (P : Type 0) → (IsTrue b ↔ P) → IsTrue (not b) ↔ (P → ⊥)
decides_not true P h = ((λ t. absurd (let e : false ≡ true = t in cc)), λ no. absurd (no (h.0 refl)))
decides_not false P h = ((λ t p. let e : false ≡ true = h.1 p in cc), λ no. refl)

passed_by : {A : Type 0} (c : Type 0) (e : Fault) (more : Checks) (rest : Result A Fault → Type 0) (r : Result A Fault) → ¬ c → FirstOf (check c e more) rest r → FirstOf more rest r
passed_by c e more rest r not (inl h) = absurd (not h.0)
passed_by c e more rest r not (inr h) = h.1

-- what delivers a value replies to every row of which that is a value, where nothing refuses it
pub reply_in : (x : Plain) (row : Row) (r : Reply) → Passes row → row.value x → IsReplyOf (answers (λ d. d ≡ x)) r → IsReplyOf row r
reply_in x row r p h reply =
    let rest : Result Plain Fault → Type 0 = λ s. (d : Plain) × (d ≡ x) × Delivers d s in
    let budget = check ⊥ Budget passed in
    let many = check ⊥ TooMany budget in
    let limit = check ⊥ TooLarge many in
    let bad = check ⊥ BadArgument limit in
    let five = passed_by ⊥ Budget passed rest r no (passed_by ⊥ TooMany budget rest r no (passed_by ⊥ TooLarge many rest r no (passed_by ⊥ BadArgument limit rest r no (passed_by ⊥ TooLarge bad rest r no reply)))) in
    delivered row x r p h (subst (λ d. Delivers d r) five.1 five.2)

pub replies_in : (store : Known) (r : Result Value CallFault) (x : Plain) (row : Row) → Passes row → row.value x → RepliesOf r store (answers (λ d. d ≡ x)) → RepliesOf r store row
replies_in store (Ok v) x row p h reply = (reply_in x row (Ok (plain (named store) v)) p h reply.0, reply.1)
replies_in store (Err (Script e)) x row p h reply = reply_in x row (Err e) p h reply
replies_in store (Err (Memory e)) x row p h reply = tt
