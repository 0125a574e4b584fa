-- A row that has one value has one reply.
use Rattle.std.proofs.Common.{◌≡◌, ◌↔◌, ℕ, ℤ, Bool, true, false, IsTrue, List, Option, Some, None, Result, Ok, inl, inr, refl, ap, ap₂, sym, ◌∙◌, subst}
use Rattle.sg_value.specs.Data.{Data, int, truth, semigroup, Kind}
use Rattle.sg_defs.specs.Membership.{Generates}
use Rattle.sg_apery.proofs.OneListLemmas.{one-minimal_list}
use Rattle.sg_rows.specs.Asks.{Asking}
use Rattle.sg_rows.specs.Order.{Plain, Case, unfit, fits, Checks, passed, check, FirstOf, value_checks, named_checks, Delivers, IsReply, Row}
use Rattle.sg_rows.specs.Kinds.{given, fitted}
use Rattle.sg_rows.specs.Values.{an_integer, a_quotient, quotient, whether}
use Rattle.sg_rows.specs.declared.fault.Fault.{Fault}

abbrev pub One : {A : Type 0} → (A → Type 0) → Type 0
One {A} P = (x y : A) → P x → P y → x ≡ y

first_one : {A : Type 0} (checks : Checks) (rest : Result A Fault → Type 0) → One rest → One (FirstOf checks rest)
first_one passed rest one r s p q = one r s p q
first_one (check c e more) rest one r s (inl p) (inl q) = p.1 ∙ sym q.1
first_one (check c e more) rest one r s (inl p) (inr q) = absurd (q.0 p.0)
first_one (check c e more) rest one r s (inr p) (inl q) = absurd (p.0 q.0)
first_one (check c e more) rest one r s (inr p) (inr q) = first_one more rest one r s p.1 q.1

pub delivers_one : {H : Kind → Type 0} (d : Data H) → One (Delivers d)
delivers_one d = first_one (value_checks d) (λ s. s ≡ Ok d) (λ r s p q. p ∙ sym q)

-- the row of a case has at most one value
abbrev pub OneValue : Case → Type 0
OneValue unfit = Unit {0}
OneValue (fits asked row) = One row.value

pub reply_one : (c : Case) → OneValue c → One (IsReply c)
reply_one unfit one r s p q = p ∙ sym q
reply_one (fits asked it) one r s p q =
    first_one (named_checks it) (λ t. (d : Plain) × it.value d × Delivers d t) (λ t u h k. delivers_one h.0 t u h.2 (subst (λ d. Delivers d u) (one k.0 h.0 k.1 h.1) k.2)) r s p q

pub given_one : {A : Type 0} (o : Option A) (f : A → Case) → ((a : A) → OneValue (f a)) → OneValue (given o f)
given_one None f h = tt
given_one (Some a) f h = h a

pub fitted_one : {A : Type 0} (o : Option A) (asks : A → List Asking) (row : A → Row) → ((a : A) → One (row a).value) → OneValue (fitted o asks row)
fitted_one None asks row h = tt
fitted_one (Some a) asks row h = h a

pub is_one : (x : Plain) → One (λ d. d ≡ x)
is_one x d e p q = p ∙ sym q

pub integer_one : (P : ℤ → Type 0) → One P → One (an_integer P)
integer_one P one d e p q = p.1 ∙ (ap int (one p.0 q.0 p.2 q.2) ∙ sym q.1)

-- p and q are determined by P
pub quotient_one : (P : ℕ → ℕ → Type 0) → ((p q s t : ℕ) → P p q → P s t → (p ≡ s) × (q ≡ t)) → One (a_quotient P)
quotient_one P one d e h k =
    let same = one h.0 h.1 k.0 k.1 h.3 k.3 in
    h.2 ∙ (ap₂ (λ p q. quotient p q) same.0 same.1 ∙ sym k.2)

same_truth : (b c : Bool) (P : Type 0) → (IsTrue b ↔ P) → (IsTrue c ↔ P) → b ≡ c
same_truth true true P h k = refl
same_truth true false P h k = sym (k.1 (h.0 refl))
same_truth false true P h k = h.1 (k.0 refl)
same_truth false false P h k = refl

pub whether_one : (P : Type 0) → One (whether P)
whether_one P d e p q = p.1 ∙ (ap truth (same_truth p.0 q.0 P p.2 q.2) ∙ sym q.1)

-- a set of naturals has one minimal list
pub semigroup_one : (P : ℕ → Type 0) → One (λ (d : Plain). (G : List ℕ) × (d ≡ semigroup G) × Generates P G)
semigroup_one P d e p q = p.1 ∙ (ap semigroup (one-minimal_list P p.0 q.0 p.2 q.2) ∙ sym q.1)
