-- Replies of rows by what was taken of the arguments.
use Rattle.std.proofs.Common.{◌≡◌, List, Option, Some, None, Result, Ok, Err, refl, sym, subst}
use Rattle.std.specs.Prelude.{IfOk, MatchOption}
use Rattle.sg_value.specs.Known.{Known}
use Rattle.sg_value.specs.declared.value.Value.{Value}
use Rattle.sg_store.specs.Interned.{Keeps}
use Rattle.sg_rows.specs.Alternatives.{or_else}
use Rattle.sg_rows.specs.Kinds.{fitted, given}
use Rattle.sg_rows.specs.Made.{IsSound, Tells, datum}
use Rattle.sg_rows.specs.Asks.{Asking}
use Rattle.sg_rows.specs.Order.{Case, Row}
use Rattle.sg_rows.specs.Replies.{Replies, RepliesOf}
use Rattle.sg_rows.specs.declared.fault.CallFault.{CallFault}
use Rattle.sg_rows.specs.declared.fault.CallFault.TheVariants.{Script, Memory}
use Rattle.sg_rows.specs.declared.fault.Fault.TheVariants.{WrongType}
use Rattle.sg_rows.specs.declared.made.Made.{Made}
use Rattle.sg_rows.proofs.Replying.{replies_in}
use Rattle.sg_calls.specs.Delivered.{IsDelivered}

-- what tells a row is sound
pub sound_told : (told : Result Made CallFault) (row : Row) → Tells told row → IfOk told IsSound
sound_told (Ok m) row h = h.1
sound_told (Err e) row h = tt

-- what tells a row is delivered as its reply
pub told_replies : (told : Result Made CallFault) (store : Known) (r : Result Value CallFault) (row : Row) → IsDelivered told store r → Tells told row → RepliesOf r store row
told_replies (Ok m) store r row h tells = replies_in store r (datum m) row tells.0.passes tells.0.value h
told_replies (Err (Script e)) store r row h tells = subst (λ s. RepliesOf s store row) (sym h) tells
told_replies (Err (Memory e)) store r row h tells = subst (λ s. RepliesOf s store row) (sym h) tt

module _ {A : Type 0} (o : Option A) (asks : A → List Asking) (row : A → Row) (store : Known) where
  -- nothing of the kinds that are wanted was found
  pub unfitted : o ≡ None → Replies (Err (Script WrongType)) store (fitted o asks row)
  unfitted is = subst (λ p. Replies (Err (Script WrongType)) store (fitted p asks row)) (sym is) refl

  -- a reply of the row of what was found
  pub fitted_by : (a : A) (r : Result Value CallFault) → o ≡ Some a → RepliesOf r store (row a) → Replies r store (fitted o asks row)
  fitted_by a r is h = subst (λ p. Replies r store (fitted p asks row)) (sym is) h

  -- what tells the row of what was found is delivered
  pub fitted_told : (a : A) (told : Result Made CallFault) (r : Result Value CallFault) → o ≡ Some a → IsDelivered told store r → Tells told (row a) → Replies r store (fitted o asks row)
  fitted_told a told r is delivered tells = fitted_by a r is (told_replies told store r (row a) delivered tells)

  -- the same, where other kinds are taken too
  pub first_fitted : (a : A) (r : Result Value CallFault) (rest : Case) → o ≡ Some a → RepliesOf r store (row a) → Replies r store (or_else (fitted o asks row) rest)
  first_fitted a r rest is h = subst (λ p. Replies r store (or_else (fitted p asks row) rest)) (sym is) h

  pub first_told : (a : A) (told : Result Made CallFault) (r : Result Value CallFault) (rest : Case) → o ≡ Some a → IsDelivered told store r → Tells told (row a) → Replies r store (or_else (fitted o asks row) rest)
  first_told a told r rest is delivered tells = first_fitted a r rest is (told_replies told store r (row a) delivered tells)

  -- a reply of the other kinds
  pub other_fitted : (r : Result Value CallFault) (rest : Case) → o ≡ None → Replies r store rest → Replies r store (or_else (fitted o asks row) rest)
  other_fitted r rest is h = subst (λ p. Replies r store (or_else (fitted p asks row) rest)) (sym is) h

  -- the same of a reply over what was found
  pub first_case : (a : A) (r : Result Value CallFault) (rest : Case) → o ≡ Some a → Replies r store (fitted o asks row) → Replies r store (or_else (fitted o asks row) rest)
  first_case a r rest is h = subst (λ p. Replies r store (fitted p asks row) → Replies r store (or_else (fitted p asks row) rest)) (sym is) (λ k. k) h

-- ---- what was asked of the store

-- what a call that found something says of it, and what it says where it found nothing
module _ {A : Type 0} (N : Type 0) (P : A → Type 0) (o : Option A) (told : MatchOption o N P) where
  pub found_some : (a : A) → o ≡ Some a → P a
  found_some a is = subst (λ p. MatchOption p N P) is told

  pub found_none : o ≡ None → N
  found_none is = subst (λ p. MatchOption p N P) is told

-- a store that stayed as it was and then grew
pub kept_from : (one two three : Known) → two ≡ one → Keeps two three → Keeps one three
kept_from one two three same kept = subst (λ s. Keeps s three) same kept

-- other operands than those that are looked for first
pub other_given : {A : Type 0} (o : Option A) (f : A → Case) (store : Known) (r : Result Value CallFault) (rest : Case) → o ≡ None → Replies r store rest → Replies r store (or_else (given o f) rest)
other_given o f store r rest is h = subst (λ p. Replies r store (or_else (given p f) rest)) (sym is) h

-- what tells a row of two tells it of two that are the same
pub pair_told : {A B : Type 0} (row : A → B → Row) (told : Result Made CallFault) (a : A) (b : B) (c : A) (d : B) → Tells told (row a b) → a ≡ c → b ≡ d → Tells told (row c d)
pair_told row told a b c d tells same also = subst (λ x. Tells told (row c x)) also (subst (λ x. Tells told (row x b)) same tells)
