-- What was asked for at once, and what a case asks for once there is a reply.
use Rattle.std.proofs.Common.{◌≡◌, ℕ, List, [], ◌++◌, Option, Some, None, Result, Ok, Err, inl, inr, refl, sym, ◌∙◌, ap, subst}
use Rattle.std.proofs.lemmas.List.{append-nil}
use Rattle.sg_value.specs.Known.{Known}
use Rattle.sg_value.specs.declared.value.Value.{Value}
use Rattle.sg_store.specs.Attributes.{Attributes}
use Rattle.sg_rows.specs.Alternatives.{or_else}
use Rattle.sg_rows.specs.Asks.{Attribute, Asking, asked_of, nothing}
use Rattle.sg_rows.specs.Kinds.{fitted, given}
use Rattle.sg_rows.specs.Order.{Reply, Row, Case, unfit, fits, IsReply, Admits, Bars, AreAsked}
use Rattle.sg_rows.specs.Replies.{Replies}
use Rattle.sg_rows.specs.declared.fault.CallFault.{CallFault}
use Rattle.sg_rows.specs.declared.fault.CallFault.TheVariants.{Script, Memory}
use Rattle.sg_rows.proofs.AskLemmas.{some_asked}
use Rattle.sg_calls.specs.After.{after_asked, OnEnd, Asked, Asks}
use Rattle.sg_calls.specs.Early.{early_of, late_of, asks_of, AsksFor}

-- it holds at every end
pub at_end : {A : Type 0} (r : Result A CallFault) (P : Type 0) → P → OnEnd r P
at_end (Ok v) P h = h
at_end (Err (Script e)) P h = h
at_end (Err (Memory e)) P h = tt

-- ---- what was found

module _ {A : Type 0} (letters : List Attribute) (o : Option A) (semigroups : A → List (List ℕ)) (old new : Attributes) where
  -- where nothing was found nothing was asked for
  pub none_asked : o ≡ None → AsksFor letters o semigroups old new → new ≡ old
  none_asked is h = h ∙ ap (λ p. after_asked (asks_of p (λ a. asked_of letters (semigroups a))) old) is

  pub asks_none : o ≡ None → new ≡ old → AsksFor letters o semigroups old new
  asks_none is h = h ∙ sym (ap (λ p. after_asked (asks_of p (λ a. asked_of letters (semigroups a))) old) is)

  pub asks_some : (a : A) → o ≡ Some a → new ≡ after_asked (asked_of letters (semigroups a)) old → AsksFor letters o semigroups old new
  asks_some a is h = h ∙ sym (ap (λ p. after_asked (asks_of p (λ b. asked_of letters (semigroups b))) old) is)

module _ {A : Type 0} (o : Option A) (asks : A → List Asking) (row : A → Row) where
  early_fitted : early_of (fitted o asks row) ≡ asks_of o asks
  early_fitted = by o
    where
      by : (p : Option A) → early_of (fitted p asks row) ≡ asks_of p asks
      by None = refl
      by (Some a) = refl

  module _ (r : Result Value CallFault) (old new : Attributes) where
    -- what a row asks for at once was asked for
    pub asked_fitted : new ≡ after_asked (asks_of o asks) old → Asked r (early_of (fitted o asks row)) old new
    asked_fitted h = at_end r _ (h ∙ ap (λ l. after_asked l old) (sym early_fitted))

    -- the same of the kinds that are looked for first
    pub asked_first : (a : A) (rest : Case) → o ≡ Some a → new ≡ after_asked (asks_of o asks) old → Asked r (early_of (or_else (fitted o asks row) rest)) old new
    asked_first a rest is h = subst (λ p. Asked r (early_of (or_else (fitted p asks row) rest)) old new) (sym is) (at_end r _ (h ∙ ap (λ p. after_asked (asks_of p asks) old) is))

    -- the same of the other kinds
    pub asked_other : (rest : Case) → o ≡ None → Asked r (early_of rest) old new → Asked r (early_of (or_else (fitted o asks row) rest)) old new
    asked_other rest is h = subst (λ p. Asked r (early_of (or_else (fitted p asks row) rest)) old new) (sym is) h

  -- the kinds that are wanted were not found, and nothing was asked for
  pub asked_unfit : (a : Attributes) → o ≡ None → a ≡ after_asked (early_of (fitted o asks row)) a
  asked_unfit a is = subst (λ p. a ≡ after_asked (early_of (fitted p asks row)) a) (sym is) refl

module _ {A : Type 0} (o : Option A) (f : A → Case) (r : Result Value CallFault) (old new : Attributes) where
  pub asked_given : (a : A) (rest : Case) → o ≡ Some a → Asked r (early_of (or_else (f a) rest)) old new → Asked r (early_of (or_else (given o f) rest)) old new
  asked_given a rest is h = subst (λ p. Asked r (early_of (or_else (given p f) rest)) old new) (sym is) h

  pub asked_not_given : (rest : Case) → o ≡ None → Asked r (early_of rest) old new → Asked r (early_of (or_else (given o f) rest)) old new
  asked_not_given rest is h = subst (λ p. Asked r (early_of (or_else (given p f) rest)) old new) (sym is) h

-- ---- what is never asked for

-- a row that asks for nothing, over what was taken
pub early_nothing : {A : Type 0} (o : Option A) (row : A → Row) → early_of (fitted o nothing row) ≡ []
early_nothing None row = refl
early_nothing (Some a) row = refl

pub early_no_letters : {A : Type 0} (o : Option A) (semigroups : A → List (List ℕ)) (row : A → Row) → early_of (fitted o (λ a. asked_of [] (semigroups a)) row) ≡ []
early_no_letters None semigroups row = refl
early_no_letters (Some a) semigroups row = refl

-- nothing was asked for, and nothing was to be
pub asked_none : (r : Result Value CallFault) (c : Case) (a : Attributes) → early_of c ≡ [] → Asked r (early_of c) a a
asked_none r c a is = at_end r _ (ap (λ l. after_asked l a) (sym is))

pub late_fitted : {A : Type 0} (o : Option A) (asks : A → List Asking) (row : A → Row) → ((a : A) → (row a).late ≡ []) → late_of (fitted o asks row) ≡ []
late_fitted None asks row h = refl
late_fitted (Some a) asks row h = h a

pub late_given : {A : Type 0} (o : Option A) (f : A → Case) → ((a : A) → late_of (f a) ≡ []) → late_of (given o f) ≡ []
late_given None f h = refl
late_given (Some a) f h = h a

pub late_or_else : (c d : Case) → late_of c ≡ [] → late_of d ≡ [] → late_of (or_else c d) ≡ []
late_or_else unfit d h k = k
late_or_else (fits early row) d h k = h

-- ---- what a case asks for

no_more : (early : List Asking) (row : Row) → row.late ≡ [] → (asked : List Asking) × AreAsked (fits early row) asked → AreAsked (fits early row) early
no_more early row is (asked, inl h) = inl (h.0, sym (ap (λ l. early ++ l) is ∙ append-nil early))
no_more early row is (asked, inr h) = inr (h.0, refl)

early_asked : (c : Case) (r : Reply) → late_of c ≡ [] → IsReply c r → AreAsked c (early_of c)
early_asked unfit r is h = refl
early_asked (fits early row) r is h = no_more early row is (some_asked (fits early row) r h)

-- where nothing is asked for late, what was asked for at once is all that the case asks for
pub all_asked : (r : Result Value CallFault) (ids : Known) (c : Case) (old new : Attributes) → late_of c ≡ [] → Replies r ids c → Asked r (early_of c) old new → Asks r c old new
all_asked (Ok v) ids c old new is reply h = (early_of c, early_asked c _ is reply.0, h)
all_asked (Err (Script e)) ids c old new is reply h = (early_of c, early_asked c _ is reply, h)
all_asked (Err (Memory e)) ids c old new is reply h = tt

-- ---- what a case asks for where its row asks for something late

module _ {A : Type 0} (o : Option A) (asks : A → List Asking) (row : A → Row) (r : Result Value CallFault) (old new : Attributes) where
  -- the kinds that are wanted were not found, and nothing was asked for
  pub asks_unfit : o ≡ None → new ≡ old → Asks r (fitted o asks row) old new
  asks_unfit is h = subst (λ p. Asks r (fitted p asks row) old new) (sym is) (at_end r _ ([], refl, h))

  module _ (a : A) (is : o ≡ Some a) where
    -- the row barred what was found, and no more than what it asks for at once was asked for
    pub asks_refused : Bars (row a) → new ≡ after_asked (asks a) old → Asks r (fitted o asks row) old new
    asks_refused bars h = subst (λ p. Asks r (fitted p asks row) old new) (sym is) (at_end r _ (asks a, inr (bars, refl), h))

    -- it did not, and all was asked for
    pub asks_passed : Admits (row a) → new ≡ after_asked (asks a ++ (row a).late) old → Asks r (fitted o asks row) old new
    asks_passed admits h = subst (λ p. Asks r (fitted p asks row) old new) (sym is) (at_end r _ (asks a ++ (row a).late, inl (admits, refl), h))

  -- the same of the kinds that are looked for first, and of the others
  pub asks_first : (a : A) (rest : Case) → o ≡ Some a → Asks r (fitted o asks row) old new → Asks r (or_else (fitted o asks row) rest) old new
  asks_first a rest is h = subst (λ p. Asks r (fitted p asks row) old new → Asks r (or_else (fitted p asks row) rest) old new) (sym is) (λ k. k) h

  pub asks_other : (rest : Case) → o ≡ None → Asks r rest old new → Asks r (or_else (fitted o asks row) rest) old new
  asks_other rest is h = subst (λ p. Asks r (or_else (fitted p asks row) rest) old new) (sym is) h
