-- Text that is put at the end piece by piece.
use Rattle.std.proofs.Common.{◌≡◌, ℕ, List, [], ◌++◌, Result, OnOk, OnErr, IsErr, Ok, Err, refl, ap, sym, ◌∙◌, subst, append_assoc, append-nil}
use Rattle.sg_value.specs.Text.{AddsFront, Adds}

-- the whole text is a front of it
pub front_all : (old new bs : List ℕ) → new ≡ old ++ bs → AddsFront old new bs
front_all old new bs e = record { front = bs; rest = []; whole = sym (append-nil bs); added = e }

-- and so is no text
pub front_none : (old bs : List ℕ) → AddsFront old old bs
front_none old bs = record { front = []; rest = bs; whole = refl; added = sym (append-nil old) }

-- a front of a text is one of any longer text
pub front_more : (old new a b : List ℕ) → AddsFront old new a → AddsFront old new (a ++ b)
front_more old new a b h = record { front = h.front; rest = h.rest ++ b; whole = ap (λ bs. bs ++ b) h.whole ∙ append_assoc h.front h.rest b; added = h.added }

-- a front of what follows a text that was put there whole
pub front_after : (old mid new a b : List ℕ) → mid ≡ old ++ a → AddsFront mid new b → AddsFront old new (a ++ b)
front_after old mid new a b e h = record { front = a ++ h.front; rest = h.rest; whole = ap (λ bs. a ++ bs) h.whole ∙ sym (append_assoc a h.front h.rest); added = h.added ∙ (ap (λ bs. bs ++ h.front) e ∙ append_assoc old a h.front) }

-- one text after the other
pub all_after : (old mid new a b : List ℕ) → mid ≡ old ++ a → new ≡ mid ++ b → new ≡ old ++ (a ++ b)
all_after old mid new a b e f = f ∙ (ap (λ bs. bs ++ b) e ∙ append_assoc old a b)

on_ok_after : {E : Type 0} (r : Result (Unit {0}) E) (old mid new a b : List ℕ) → mid ≡ old ++ a → OnOk r (new ≡ mid ++ b) → OnOk r (new ≡ old ++ (a ++ b))
on_ok_after (Ok done) old mid new a b e h = all_after old mid new a b e h
on_ok_after (Err e') old mid new a b e h = tt

-- a call that adds the rest
pub Adds-after : {E : Type 0} (r : Result (Unit {0}) E) (old mid new a b : List ℕ) → mid ≡ old ++ a → Adds r mid new b → Adds r old new (a ++ b)
Adds-after r old mid new a b e h = record { ok = on_ok_after r old mid new a b e h.ok; err = front_after old mid new a b e h.err }

-- a call that adds all or nothing
pub Adds_whole : {E : Type 0} (r : Result (Unit {0}) E) (old new bs : List ℕ) → OnOk r (new ≡ old ++ bs) → OnErr r (new ≡ old) → Adds r old new bs
Adds_whole (Ok done) old new bs ok err = record { ok = ok; err = front_all old new bs ok }
Adds_whole (Err e) old new bs ok err = record { ok = tt; err = rw err (front_none old bs) }

-- a call that was refused memory
pub Adds_err : {E : Type 0} (r : Result (Unit {0}) E) (old new bs : List ℕ) → IsErr r → AddsFront old new bs → Adds r old new bs
Adds_err (Ok done) old new bs failed h = absurd (cc)
Adds_err (Err e) old new bs failed h = record { ok = tt; err = h }

-- ---- loops

-- the piece that stands after `before` in `all`, up to `after`
pub record IsNext (before piece after all : List ℕ) : Type 0 where
  pub more : after ≡ before ++ piece
  pub rest : List ℕ
  pub whole : all ≡ after ++ rest

-- the piece was added
pub next_added : (before piece after all old mid new : List ℕ) → IsNext before piece after all → mid ≡ old ++ before → new ≡ mid ++ piece → new ≡ old ++ after
next_added before piece after all old mid new next e f = all_after old mid new before piece e f ∙ ap (λ bs. old ++ bs) (sym next.more)

-- a front of the piece was added
pub next_front : (before piece after all old mid new : List ℕ) → IsNext before piece after all → mid ≡ old ++ before → AddsFront mid new piece → AddsFront old new all
next_front before piece after all old mid new next e h =
    subst (λ bs. AddsFront old new bs) (sym (next.whole ∙ ap (λ bs. bs ++ next.rest) next.more))
    (front_more old new (before ++ piece) next.rest (front_after old mid new before piece e h))

-- every piece was added
pub Adds_each : {E : Type 0} (before all old new : List ℕ) → before ≡ all → new ≡ old ++ before → Adds {E = E} (Ok tt) old new all
Adds_each before all old new done e =
    let whole : new ≡ old ++ all = e ∙ ap (λ bs. old ++ bs) done in
    record { ok = whole; err = front_all old new all whole }

-- the same text in other words
pub Adds_same : {E : Type 0} (r : Result (Unit {0}) E) (old new bs cs : List ℕ) → bs ≡ cs → Adds r old new cs → Adds r old new bs
Adds_same r old new bs cs e h = subst (λ ds. Adds r old new ds) (sym e) h
