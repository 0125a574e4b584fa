-- A process ends in one way where each query has one answer.
use Rattle.std.proofs.Common.{◌≡◌, ℕ, List, ◌++◌, Result, ap, ap₂, sym, ◌∙◌, subst, []}
use Rattle.std.specs.Prelude.{◌-ℤ◌}
use Rattle.sg_value.specs.Data.{list}
use Rattle.sg_rows.specs.Asks.{Asking}
use Rattle.sg_rows.specs.Order.{Plain, Reply, fits, IsReply}
use Rattle.sg_rows.specs.Kinds.{as_integer, given}
use Rattle.sg_rows.specs.Values.{answers}
use Rattle.sg_rows.specs.declared.fault.Fault.{Fault}
use Rattle.sg_rows.proofs.AskLemmas.{one_asked}
use Rattle.sg_rows.proofs.OneValue.{One, reply_one, given_one, is_one}
use Rattle.sg_calls.specs.Operations.{operation}
use Rattle.sg_calls.specs.Rows.{row}
use Rattle.sg_calls.proofs.OneReply.{operators_one, sign_one, row_one}
use Rattle.sg_meaning.specs.Entries.{integers_from}
use Rattle.sg_meaning.specs.Queries.{Query, calls, combines, negates, lists, spans, indexes, IsAnswer, span_of, span_count}
use Rattle.sg_meaning.specs.Process.{Process, gives, refuses, reads, asks, sets, writes, Runs}
use Rattle.sg_meaning.specs.Vars.{Vars, value_at, with_value}

-- from one integer to another there is one list
span_one : (a b : Plain) → One (IsReply (span_of a b))
span_one a b = reply_one (span_of a b)
    (given_one (as_integer a) (λ x. given (as_integer b) (λ y. fits [] (answers (λ d. d ≡ list (integers_from x (span_count (y -ℤ x)))))))
    (λ x. given_one (as_integer b) (λ y. fits [] (answers (λ d. d ≡ list (integers_from x (span_count (y -ℤ x)))))) (λ y. is_one _)))

-- a query has at most one answer, on the way to which the same is asked for
pub answer_one : (n : ℕ) (q : Query) (r s : Reply) (xs ys : List Asking) → IsAnswer n q r xs → IsAnswer n q s ys → (r ≡ s) × (xs ≡ ys)
answer_one n (calls c args) r s xs ys h k = (reply_one (row n c args) (row_one n c args) r s h.0 k.0, one_asked (row n c args) xs ys h.1 k.1)
answer_one n (combines op a b) r s xs ys h k = (operators_one n op a b r s h.0 k.0, one_asked (operation n op a b) xs ys h.1 k.1)
answer_one n (negates a) r s xs ys h k = (sign_one a r s h.0 k.0, h.1 ∙ sym k.1)
answer_one n (lists ds) r s xs ys h k = (reply_one (fits [] (answers (λ d. d ≡ list ds))) (is_one (list ds)) r s h.0 k.0, h.1 ∙ sym k.1)
answer_one n (spans a b) r s xs ys h k = (span_one a b r s h.0 k.0, h.1 ∙ sym k.1)
answer_one n (indexes a i) r s xs ys h k = (h.0 ∙ sym k.0, h.1 ∙ sym k.1)

-- a process has at most one end
pub end_one : {A : Type 0} (n : ℕ) (p : Process A) (vars : Vars) (end end' : Result A Fault) (vars' vars'' : Vars) (bs bs' : List ℕ) (xs ys : List Asking)
    → Runs n p vars end vars' bs xs → Runs n p vars end' vars'' bs' ys → (end ≡ end') × (vars' ≡ vars'') × (bs ≡ bs') × (xs ≡ ys)
end_one n (gives a) vars end end' vars' vars'' bs bs' xs ys h k = (h.0 ∙ sym k.0, h.1 ∙ sym k.1, h.2 ∙ sym k.2, h.3 ∙ sym k.3)
end_one n (refuses e) vars end end' vars' vars'' bs bs' xs ys h k = (h.0 ∙ sym k.0, h.1 ∙ sym k.1, h.2 ∙ sym k.2, h.3 ∙ sym k.3)
end_one n (reads x f) vars end end' vars' vars'' bs bs' xs ys h k = end_one n (f (value_at vars x)) vars end end' vars' vars'' bs bs' xs ys h k
end_one n (asks q f) vars end end' vars' vars'' bs bs' xs ys h k =
    let same = answer_one n q k.0 h.0 k.1 h.1 k.3 h.3 in
    let rest = end_one n (f h.0) vars end end' vars' vars'' bs bs' h.2 k.2 h.5 (subst (λ r. Runs n (f r) vars end' vars'' bs' k.2) same.0 k.5) in
    (rest.0, rest.1, rest.2, h.4 ∙ (ap₂ (λ us vs. us ++ vs) (sym same.1) rest.3 ∙ sym k.4))
end_one n (sets x d p) vars end end' vars' vars'' bs bs' xs ys h k = end_one n p (with_value x d vars) end end' vars' vars'' bs bs' xs ys h k
end_one n (writes out p) vars end end' vars' vars'' bs bs' xs ys h k =
    let rest = end_one n p vars end end' vars' vars'' h.0 k.0 xs ys h.2 k.2 in
    (rest.0, rest.1, h.1 ∙ (ap (λ r. out ++ r) rest.2 ∙ sym k.1), rest.3)
