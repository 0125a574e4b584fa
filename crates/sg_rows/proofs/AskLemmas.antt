-- What is asked for on the way to a reply: one list, and some list wherever there is a reply.
use Rattle.std.proofs.Common.{◌≡◌, ◌⊎◌, List, [], ◌++◌, inl, inr, refl, ◌∙◌, sym}
use Rattle.sg_rows.specs.Asks.{Asking}
use Rattle.sg_rows.specs.Order.{Reply, Row, Case, unfit, fits, IsReply, IsReplyOf, Passes, Admits, Bars, AreAsked}

-- arguments that are admitted are not barred
admits-not : (row : Row) → Admits row → Bars row → ⊥
admits-not row p (inl h) = p.size h
admits-not row p (inr (inl h)) = p.bad h
admits-not row p (inr (inr h)) = p.limit h

-- a row that refuses nothing admits its arguments
pub admitted : (row : Row) → Passes row → Admits row
admitted row p = record { size = p.size; bad = p.bad; limit = p.limit }

-- for what a call asks is decided
pub one_asked : (c : Case) (xs ys : List Asking) → AreAsked c xs → AreAsked c ys → xs ≡ ys
one_asked unfit xs ys p q = p ∙ sym q
one_asked (fits early row) xs ys (inl p) (inl q) = p.1 ∙ sym q.1
one_asked (fits early row) xs ys (inl p) (inr q) = absurd (admits-not row p.0 q.0)
one_asked (fits early row) xs ys (inr p) (inl q) = absurd (admits-not row q.0 p.0)
one_asked (fits early row) xs ys (inr p) (inr q) = p.1 ∙ sym q.1

-- a reply comes past the refusals of the arguments, or is one of them
replied : (row : Row) (r : Reply) → IsReplyOf row r → Bars row ⊎ Admits row
replied row r (inl h) = inl (inl h.0)
replied row r (inr (a, inl h)) = inl (inr (inl h.0))
replied row r (inr (a, inr (b, inl h))) = inl (inr (inr h.0))
replied row r (inr (a, inr (b, inr (c, h)))) = inr (record { size = a; bad = b; limit = c })

some_asked_of : (early : List Asking) (row : Row) → Bars row ⊎ Admits row → (asked : List Asking) × AreAsked (fits early row) asked
some_asked_of early row (inl bars) = (early, inr (bars, refl))
some_asked_of early row (inr admits) = (early ++ row.late, inl (admits, refl))

-- wherever there is a reply, something is asked for on the way to it
pub some_asked : (c : Case) (r : Reply) → IsReply c r → (asked : List Asking) × AreAsked c asked
some_asked unfit r h = ([], refl)
some_asked (fits early row) r h = some_asked_of early row (replied row r h)
