-- A process that asks only about lawful values, as long as it is given such, runs to an end.
use Rattle.std.proofs.Common.{◌≡◌, ℕ, zero, suc, ℤ, pos, negsuc, Bool, true, false, List, [], ◌∷◌, ◌++◌, Option, Some, None, Ok, Err, cond, refl}
use Rattle.sg_value.specs.Plain.{Things}
use Rattle.std.specs.Prelude.{◌+ℤ◌, ◌-ℤ◌, IfSome, ⊤}
use Rattle.std.specs.Map.{lookup}
use Rattle.std.specs.Str.{bytes_eq}
use Rattle.sg_value.specs.Data.{list, Items, none, item}
use Rattle.sg_rows.specs.Asks.{Asking}
use Rattle.sg_rows.specs.Order.{Plain, Reply, fits, IsReply, IsReplyOf}
use Rattle.sg_rows.specs.Kinds.{given, as_integer, as_list}
use Rattle.sg_rows.specs.Values.{answers}
use Rattle.sg_rows.specs.Lawful.{IsLawful, AreLawful, IsLawfulReply, SomeReply, IsLawfulThing}
use Rattle.sg_rows.proofs.SomeValue.{reply_some, given_some, answers_some, is_some_value}
use Rattle.sg_rows.proofs.KindLemmas.{any_some, as_list-each}
use Rattle.sg_calls.specs.Operations.{negation}
use Rattle.sg_calls.specs.Rows.{row}
use Rattle.sg_calls.proofs.SomeReply.{asked_for, row_some, operators_some, sign_some}
use Rattle.sg_meaning.specs.Lawful.{AreLawfulVars, IsLawfulQuery, SomeEnd}
use Rattle.sg_meaning.specs.Process.{Process, gives, refuses, reads, asks, sets, writes, ◌>>=◌}
use Rattle.sg_meaning.specs.Entries.{integers_from, entry_at}
use Rattle.sg_meaning.specs.Queries.{Query, calls, combines, negates, lists, spans, indexes, IsAnswer, span_of, span_count, found_or_out, item_of}
use Rattle.sg_meaning.specs.Vars.{Vars, value_at, with_value}

-- ---- queries

integers_lawful : (z : ℤ) (n : ℕ) → AreLawful (integers_from z n)
integers_lawful z zero = tt
integers_lawful z (suc n) = (tt, integers_lawful (z +ℤ pos 1) n)

entry_lawful : (ds : Items Things) (n : ℕ) → AreLawful ds → IfSome (entry_at ds n) IsLawful
entry_lawful none n h = tt
entry_lawful (item d ds) zero h = tt
entry_lawful (item d ds) (suc zero) h = h.0
entry_lawful (item d ds) (suc (suc n)) h = entry_lawful ds (suc n) h.1

found_lawful : (o : Option Plain) → IfSome o IsLawful → IsLawfulReply (found_or_out o)
found_lawful None h = tt
found_lawful (Some d) h = h

item_lawful : (o : Option (Items Things)) (i : Option ℤ) → IfSome o AreLawful → IsLawfulReply (item_of o i)
item_lawful None i h = tt
item_lawful (Some ds) None h = tt
item_lawful (Some ds) (Some (pos n)) h = found_lawful (entry_at ds n) (entry_lawful ds n h)
item_lawful (Some ds) (Some (negsuc n)) h = tt

-- from one integer to another there is a list, or a refusal
span_some : (a b : Plain) → SomeReply (IsReply (span_of a b))
span_some a b = reply_some (span_of a b)
    (given_some (λ x. ⊤) (as_integer a) (λ x. given (as_integer b) (λ y. fits [] (answers (λ d. d ≡ list (integers_from x (span_count (y -ℤ x))))))) (any_some (as_integer a))
    (λ x l. given_some (λ y. ⊤) (as_integer b) (λ y. fits [] (answers (λ d. d ≡ list (integers_from x (span_count (y -ℤ x)))))) (any_some (as_integer b))
    (λ y m. answers_some _ (is_some_value (list (integers_from x (span_count (y -ℤ x)))) (integers_lawful x (span_count (y -ℤ x)))))))

-- with a reply, on the way to which nothing is asked for
not_asked : (P : Reply → Type 0) → SomeReply P → SomeReply (λ r. (asked : List Asking) × (P r × (asked ≡ [])))
not_asked P h = (h.0, ([], (h.1, refl)), h.2)

-- a query about lawful values has an answer
pub answer_some : (n : ℕ) (q : Query) → IsLawfulQuery q → SomeReply (λ r. (asked : List Asking) × IsAnswer n q r asked)
answer_some n (calls c args) h = asked_for (row n c args) (reply_some (row n c args) (row_some n c args h))
answer_some n (combines op a b) h = operators_some n op a b h.0 h.1
answer_some n (negates a) h = not_asked (IsReply (negation a)) (sign_some a)
answer_some n (lists ds) h = not_asked (IsReplyOf (answers (λ d. d ≡ list ds))) (reply_some (fits [] (answers (λ d. d ≡ list ds))) (answers_some _ (is_some_value (list ds) h)))
answer_some n (spans a b) h = not_asked (IsReply (span_of a b)) (span_some a b)
answer_some n (indexes a i) h = (item_of (as_list a) (as_integer i), ([], (refl, refl)), item_lawful (as_list a) (as_integer i) ((as_list-each IsLawfulThing) a h.0))

-- ---- variables

cond_lawful : (b : Bool) (d : Plain) (o : Option Plain) → IsLawful d → IfSome o IsLawful → IfSome (cond b (Some d) o) IsLawful
cond_lawful true d o l h = l
cond_lawful false d o l h = h

-- the value of a name among lawful variables
pub value_at_lawful : (vars : Vars) (x : List ℕ) → AreLawfulVars vars → IfSome (lookup (bytes_eq x) vars) IsLawful
value_at_lawful [] x h = tt
value_at_lawful (v ∷ vs) x h = cond_lawful (bytes_eq x v.0) v.1 (lookup (bytes_eq x) vs) h.0 (value_at_lawful vs x h.1)

cond_vars : (b : Bool) (vs ws : Vars) → AreLawfulVars vs → AreLawfulVars ws → AreLawfulVars (cond b vs ws)
cond_vars true vs ws h k = h
cond_vars false vs ws h k = k

with_value_lawful : (x : List ℕ) (d : Plain) (vars : Vars) → IsLawful d → AreLawfulVars vars → AreLawfulVars (with_value x d vars)
with_value_lawful x d [] l h = (l, tt)
with_value_lawful x d (v ∷ vs) l h = cond_vars (bytes_eq x v.0) ((x, d) ∷ vs) (v ∷ with_value x d vs) (l, h.1) (h.0, with_value_lawful x d vs l h.1)

-- ---- processes

-- given lawful values, it asks about such and gives something with L
abbrev pub StaysLawful : {A : Type 0} → (A → Type 0) → Process A → Type 0
StaysLawful L (gives a) = L a
StaysLawful L (refuses e) = ⊤
StaysLawful L (reads x k) = (o : Option Plain) → IfSome o IsLawful → StaysLawful L (k o)
StaysLawful L (asks q k) = IsLawfulQuery q × ((r : Reply) → IsLawfulReply r → StaysLawful L (k r))
StaysLawful L (sets x d p) = IsLawful d × StaysLawful L p
StaysLawful L (writes bs p) = StaysLawful L p

-- one process after another
pub then_lawful : {A B : Type 0} (L : A → Type 0) (M : B → Type 0) (p : Process A) (f : A → Process B) → StaysLawful L p → ((a : A) → L a → StaysLawful M (f a)) → StaysLawful M (p >>= f)
then_lawful L M (gives a) f h next = next a h
then_lawful L M (refuses e) f h next = tt
then_lawful L M (reads x k) f h next = λ o l. then_lawful L M (k o) f (h o l) next
then_lawful L M (asks q k) f h next = (h.0, λ r l. then_lawful L M (k r) f (h.1 r l) next)
then_lawful L M (sets x d p) f h next = (h.0, then_lawful L M p f h.1 next)
then_lawful L M (writes bs p) f h next = then_lawful L M p f h next

-- what stays lawful ends
pub end_some : {A : Type 0} (n : ℕ) (L : A → Type 0) (p : Process A) (vars : Vars) → StaysLawful L p → AreLawfulVars vars → SomeEnd n L p vars
end_some n L (gives a) vars h l = (Ok a, vars, [], [], (refl, refl, refl, refl), h, l)
end_some n L (refuses e) vars h l = (Err e, vars, [], [], (refl, refl, refl, refl), tt, l)
end_some n L (reads x k) vars h l = end_some n L (k (value_at vars x)) vars (h (value_at vars x) (value_at_lawful vars x l)) l
end_some n L (asks q k) vars h l =
    let r = answer_some n q h.0 in
    let e = end_some n L (k r.0) vars (h.1 r.0 r.2) l in
    (e.0, e.1, e.2, r.1.0 ++ e.3, (r.0, r.1.0, e.3, r.1.1, refl, e.4), e.5, e.6)
end_some n L (sets x d p) vars h l = end_some n L p (with_value x d vars) h.1 (with_value_lawful x d vars h.0 l)
end_some n L (writes out p) vars h l = let e = end_some n L p vars h l in (e.0, e.1, out ++ e.2, e.3, (e.2, refl, e.4), e.5, e.6)
