-- What stands first in some bytes: one outcome for each, and the same outcome in front of more bytes.
use Rattle.std.proofs.Common.{◌≡◌, ◌≢◌, ◌∙◌, ℕ, ◌+◌, ◌-◌, ◌<◌, ◌≤◌, Bool, true, false, List, ◌++◌, length, take, drop, refl, sym, ap, subst, ⊎_elim, arith, length-append, length-take-le}
use Rattle.std.proofs.lemmas.List.{drop-append-le, length-drop, length-take, take_all, take-append-drop, take-append-le}
use Rattle.std.proofs.lemmas.Bool.{both_ways, false≢true, cases_lt}
use Rattle.sg_cut.specs.declared.outcome.Piece.{Piece}
use Rattle.sg_cut.specs.declared.outcome.Piece.TheVariants.{Statement, TooLong, Unfinished, End, Waiting}
use Rattle.sg_cut.specs.declared.limits.TheConstants.{STATEMENT_LIMIT}
use Rattle.sg_cut.specs.Cut.{Begins, Cut, Ends, IsAtEnd, IsTooLong, IsUnfinished, IsWaiting, StandsAt}
use Rattle.sg_cut.proofs.Beginnings.{begin_found, same_begin, to_Begins}
use Rattle.sg_cut.proofs.Endings.{EndsFrom, end_or_none, from_Ends, same_end, to_Ends}
use Rattle.sg_cut.proofs.Following.{Begins-append, Ends-append, Ends-front}

-- ---- how each outcome comes about

-- a statement that ends so far behind the byte that it begins with
pub statement_behind : (bytes : List ℕ) (begin size : ℕ) → Begins bytes begin → size ≤ STATEMENT_LIMIT → Ends (drop begin bytes) size → StandsAt bytes begin (begin + size)
statement_behind bytes begin size b small e =
    let counted : size ≡ (begin + size) - begin = omega arith in
    let last = (from_Ends e).size_is in
    let w = e.within in
    record {
      begins = b;
      some = omega (arith, last);
      within = omega (arith, w, b.within, length-drop begin bytes);
      ends = subst (λ n. Ends (drop begin bytes) n) counted e;
      short = omega arith;
    }

-- the same, seen in a front of what is left
pub finds_statement : (bytes : List ℕ) (begin most size : ℕ) → Begins bytes begin → most ≤ STATEMENT_LIMIT → Ends (take most (drop begin bytes)) size → size ≤ most → StandsAt bytes begin (begin + size)
finds_statement bytes begin most size b small e within =
    let rest = drop begin bytes in
    let whole : Ends rest size = subst (λ bs. Ends bs size) (take-append-drop most rest) (Ends-append (take most rest) (drop most rest) size e) in
    statement_behind bytes begin size b (omega arith) whole

-- where no front of what is left ends, nothing of that length does
pub no_end_within : (bytes : List ℕ) (begin most : ℕ) → most ≤ length (drop begin bytes) → ((size : ℕ) → ¬ Ends (take most (drop begin bytes)) size) → (size : ℕ) → size ≤ most → ¬ Ends (drop begin bytes) size
no_end_within bytes begin most there none size within e =
    let rest = drop begin bytes in
    let len = length-take-le most rest there in
    let parted = subst (λ bs. Ends bs size) (sym (take-append-drop most rest)) e in
    none size (Ends-front (take most rest) (drop most rest) size (omega (arith, len)) parted)

-- as much as a statement may have, without end
pub is_too_long : (bytes : List ℕ) (begin : ℕ) → Begins bytes begin → STATEMENT_LIMIT ≤ length (drop begin bytes) → ((size : ℕ) → ¬ Ends (take STATEMENT_LIMIT (drop begin bytes)) size) → IsTooLong bytes begin
is_too_long bytes begin b there none =
    record { begins = b; filled = omega (arith, length-drop begin bytes, b.within); no_end = no_end_within bytes begin STATEMENT_LIMIT there none }

-- ---- at most one

-- the statement that stands first
same_statement : {bytes : List ℕ} {begin end begin' end' : ℕ} → StandsAt bytes begin end → StandsAt bytes begin' end' → (begin ≡ begin') × (end ≡ end')
same_statement {bytes} {begin} {end} {begin'} {end'} s s' =
    let b : begin ≡ begin' = same_begin s.begins s'.begins in
    let e' = subst (λ n. Ends (drop n bytes) (end' - n)) (sym b) s'.ends in
    let e = same_end (from_Ends s.ends) (from_Ends e') in
    (b, omega (arith, e, b, s.some, s'.some))

-- a statement ends where it stands
no_end_where_statement : {bytes : List ℕ} {begin end begin' : ℕ} → StandsAt bytes begin end → Begins bytes begin' → ((size : ℕ) → size ≤ STATEMENT_LIMIT → ¬ Ends (drop begin' bytes) size) → ⊥
no_end_where_statement {bytes} {begin} {end} {begin'} s b none =
    let same : begin ≡ begin' = same_begin s.begins b in
    none (end - begin) (omega (arith, s.short)) (subst (λ n. Ends (drop n bytes) (end - begin)) same s.ends)

-- no statement stands behind all the bytes
no_statement_at_end : {bytes : List ℕ} {begin end : ℕ} → StandsAt bytes begin end → Begins bytes (length bytes) → ⊥
no_statement_at_end {bytes} {begin} {end} s b =
    let same : begin ≡ length bytes = same_begin s.begins b in
    omega (arith, same, s.some, s.within)

-- the outcomes exclude each other
statement_not_too_long : {bytes : List ℕ} {begin end begin' : ℕ} → StandsAt bytes begin end → IsTooLong bytes begin' → ⊥
statement_not_too_long s t = no_end_where_statement s t.begins t.no_end

-- a statement is not unfinished
statement_not_unfinished : {bytes : List ℕ} {whole : Bool} {begin end begin' : ℕ} → StandsAt bytes begin end → IsUnfinished bytes whole begin' → ⊥
statement_not_unfinished s u = no_end_where_statement s u.begins (λ size small. u.no_end size)

-- nor is one that is too long
too_long_not_unfinished : {bytes : List ℕ} {whole : Bool} {begin begin' : ℕ} → IsTooLong bytes begin → IsUnfinished bytes whole begin' → ⊥
too_long_not_unfinished t u = omega (arith, same_begin t.begins u.begins, t.filled, u.few)

-- which is not the end either
too_long_not_at_end : {bytes : List ℕ} {whole : Bool} {begin : ℕ} → IsTooLong bytes begin → IsAtEnd bytes whole → ⊥
too_long_not_at_end t e = omega (arith, same_begin t.begins e.nothing_left, t.filled)

-- nor is one without end
unfinished_not_at_end : {bytes : List ℕ} {whole : Bool} {begin : ℕ} → IsUnfinished bytes whole begin → IsAtEnd bytes whole → ⊥
unfinished_not_at_end u e = omega (arith, same_begin u.begins e.nothing_left, u.some)

-- no bytes have two outcomes
pub same_outcome : (bytes : List ℕ) (whole : Bool) (piece other : Piece) → Cut bytes whole piece → Cut bytes whole other → piece ≡ other
same_outcome bytes whole (Statement begin end) (Statement begin' end') c d =
    let same = same_statement c d in
    ap (λ b. Statement b end) same.0 ∙ ap (λ e. Statement begin' e) same.1
same_outcome bytes whole (Statement begin end) (TooLong begin') c d = absurd (statement_not_too_long c d)
same_outcome bytes whole (Statement begin end) (Unfinished begin') c d = absurd (statement_not_unfinished c d)
same_outcome bytes whole (Statement begin end) End c d = absurd (no_statement_at_end c d.nothing_left)
same_outcome bytes whole (Statement begin end) Waiting c d = absurd (d.no_statement begin end c)
same_outcome bytes whole (TooLong begin) (Statement begin' end') c d = absurd (statement_not_too_long d c)
same_outcome bytes whole (TooLong begin) (TooLong begin') c d = ap (λ b. TooLong b) (same_begin c.begins d.begins)
same_outcome bytes whole (TooLong begin) (Unfinished begin') c d = absurd (too_long_not_unfinished c d)
same_outcome bytes whole (TooLong begin) End c d = absurd (too_long_not_at_end c d)
same_outcome bytes whole (TooLong begin) Waiting c d = absurd (d.not_too_long begin c)
same_outcome bytes whole (Unfinished begin) (Statement begin' end') c d = absurd (statement_not_unfinished d c)
same_outcome bytes whole (Unfinished begin) (TooLong begin') c d = absurd (too_long_not_unfinished d c)
same_outcome bytes whole (Unfinished begin) (Unfinished begin') c d = ap (λ b. Unfinished b) (same_begin c.begins d.begins)
same_outcome bytes whole (Unfinished begin) End c d = absurd (unfinished_not_at_end c d)
same_outcome bytes whole (Unfinished begin) Waiting c d = absurd (d.not_unfinished begin c)
same_outcome bytes whole End (Statement begin' end') c d = absurd (no_statement_at_end d c.nothing_left)
same_outcome bytes whole End (TooLong begin') c d = absurd (too_long_not_at_end d c)
same_outcome bytes whole End (Unfinished begin') c d = absurd (unfinished_not_at_end d c)
same_outcome bytes whole End End c d = refl
same_outcome bytes whole End Waiting c d = absurd (d.not_at_end c)
same_outcome bytes whole Waiting (Statement begin' end') c d = absurd (c.no_statement begin' end' d)
same_outcome bytes whole Waiting (TooLong begin') c d = absurd (c.not_too_long begin' d)
same_outcome bytes whole Waiting (Unfinished begin') c d = absurd (c.not_unfinished begin' d)
same_outcome bytes whole Waiting End c d = absurd (c.not_at_end d)
same_outcome bytes whole Waiting Waiting c d = refl

-- ---- at least one

-- only blanks and comments, and there may be more
pub waits_behind_ignored : (bytes : List ℕ) (whole : Bool) → whole ≡ false → Begins bytes (length bytes) → IsWaiting bytes whole
waits_behind_ignored bytes whole open_ b = record {
  no_statement = λ begin end s. no_statement_at_end s b;
  not_too_long = λ begin t. too_long_not_at_end {whole = true} t (record { complete = refl; nothing_left = b });
  not_unfinished = λ begin u. both_ways whole open_ u.complete;
  not_at_end = λ e. both_ways whole open_ e.complete;
}

-- fewer bytes than a statement may have, none of which ends it, and there may be more
pub waits_inside : (bytes : List ℕ) (whole : Bool) (begin : ℕ) → whole ≡ false → Begins bytes begin → length bytes < begin + STATEMENT_LIMIT → ((size : ℕ) → ¬ Ends (drop begin bytes) size) → IsWaiting bytes whole
waits_inside bytes whole begin open_ b few none = record {
  no_statement = λ begin' end s. no_end_where_statement s b (λ size small. none size);
  not_too_long = λ begin' t. omega (arith, same_begin t.begins b, t.filled, few);
  not_unfinished = λ begin' u. both_ways whole open_ u.complete;
  not_at_end = λ e. both_ways whole open_ e.complete;
}

-- fewer bytes than a statement may have, none of which ends it, and these are all
pub is_unfinished : (bytes : List ℕ) (whole : Bool) (begin : ℕ) → whole ≡ true → Begins bytes begin → begin < length bytes → length bytes < begin + STATEMENT_LIMIT → ((size : ℕ) → ¬ Ends (drop begin bytes) size) → IsUnfinished bytes whole begin
is_unfinished bytes whole begin all b some few none =
    record { complete = all; begins = b; some = some; few = few; no_end = none }

-- an outcome, which is not Waiting where these are all the bytes
abbrev pub Found : List ℕ → Bool → Type 0
Found bytes whole = (piece : Piece) × Cut bytes whole piece × (whole ≡ true → piece ≢ Waiting)

-- nothing but blanks and comments
found_at_end : (bytes : List ℕ) (whole : Bool) → Begins bytes (length bytes) → Found bytes whole
found_at_end bytes true b = (End, record { complete = refl; nothing_left = b }, λ all is. cc)
found_at_end bytes false b = (Waiting, waits_behind_ignored bytes false refl b, λ all is. false≢true all)

-- fewer bytes than a statement may have, none of which ends it
found_without_end : (bytes : List ℕ) (whole : Bool) (begin : ℕ) → Begins bytes begin → begin < length bytes → length bytes < begin + STATEMENT_LIMIT → ((size : ℕ) → ¬ Ends (drop begin bytes) size) → Found bytes whole
found_without_end bytes true begin b some few none = (Unfinished begin, is_unfinished bytes true begin refl b some few none, λ all is. cc)
found_without_end bytes false begin b some few none = (Waiting, waits_inside bytes false begin refl b few none, λ all is. false≢true all)

-- what is left is shorter than a statement may be
found_among_few : (bytes : List ℕ) (whole : Bool) (begin : ℕ) → Begins bytes begin → begin < length bytes → length (drop begin bytes) < STATEMENT_LIMIT → Found bytes whole
found_among_few bytes whole begin b some few =
    let rest = drop begin bytes in
    ⊎_elim
    (λ (e : (size : ℕ) × EndsFrom 0 rest size).
    let ends = to_Ends e.1 in
    (Statement begin (begin + e.0), statement_behind bytes begin e.0 b (omega (arith, ends.within)) ends, λ all is. cc))
    (λ (none : (size : ℕ) → ¬ EndsFrom 0 rest size).
    found_without_end bytes whole begin b some (omega (arith, length-drop begin bytes)) (λ size ends. none size (from_Ends ends)))
    (end_or_none (length rest) 0 rest (omega arith))

-- as much is left as a statement may have
found_among_many : (bytes : List ℕ) (whole : Bool) (begin : ℕ) → Begins bytes begin → STATEMENT_LIMIT ≤ length (drop begin bytes) → Found bytes whole
found_among_many bytes whole begin b many =
    let front = take STATEMENT_LIMIT (drop begin bytes) in
    let front_len : length front ≡ STATEMENT_LIMIT = length-take-le STATEMENT_LIMIT (drop begin bytes) many in
    ⊎_elim
    (λ (e : (size : ℕ) × EndsFrom 0 front size).
    let ends = to_Ends e.1 in
    let found = finds_statement bytes begin STATEMENT_LIMIT e.0 b (omega arith) ends (omega (arith, ends.within, front_len)) in
    (Statement begin (begin + e.0), found, λ all is. cc))
    (λ (none : (size : ℕ) → ¬ EndsFrom 0 front size).
    (TooLong begin, is_too_long bytes begin b many (λ size ends. none size (from_Ends ends)), λ all is. cc))
    (end_or_none (length front) 0 front (omega arith))

-- a statement begins
found_inside : (bytes : List ℕ) (whole : Bool) (begin : ℕ) → Begins bytes begin → begin < length bytes → Found bytes whole
found_inside bytes whole begin b some =
    ⊎_elim (found_among_few bytes whole begin b some) (found_among_many bytes whole begin b) (cases_lt (length (drop begin bytes)) STATEMENT_LIMIT)

-- any bytes have an outcome
pub outcome_found : (bytes : List ℕ) (whole : Bool) → Found bytes whole
outcome_found bytes whole =
    let found = begin_found (length bytes) bytes (omega arith) in
    let begin : ℕ = found.0 in
    let b : Begins bytes begin = to_Begins found.1 in
    ⊎_elim
    (λ (some : begin < length bytes). found_inside bytes whole begin b some)
    (λ (all : length bytes ≤ begin).
    let same : begin ≡ length bytes = omega (arith, b.within) in
    found_at_end bytes whole (subst (λ n. Begins bytes n) same b))
    (cases_lt begin (length bytes))

-- ---- in front of more bytes

-- a statement stays one
pub statement-append : (bytes more : List ℕ) (begin end : ℕ) → StandsAt bytes begin end → StandsAt (bytes ++ more) begin end
statement-append bytes more begin end s =
    let within : begin ≤ length bytes = s.begins.within in
    let inside : begin < length bytes = omega (arith, s.some, s.within) in
    let ends = Ends-append (drop begin bytes) more (end - begin) s.ends in
    record {
      begins = Begins-append bytes more begin inside s.begins;
      some = s.some;
      within = omega (arith, s.within, length-append bytes more);
      ends = rw (drop-append-le begin bytes more within) ends;
      short = s.short;
    }

-- with the same text
pub text-append : (bytes more : List ℕ) (begin end : ℕ) → StandsAt bytes begin end → take (end - begin) (drop begin (bytes ++ more)) ≡ take (end - begin) (drop begin bytes)
text-append bytes more begin end s =
    let within : begin ≤ length bytes = s.begins.within in
    let inside : end - begin ≤ length (drop begin bytes) = s.ends.within in
    ap (take (end - begin)) (drop-append-le begin bytes more within) ∙ take-append-le (end - begin) (drop begin bytes) more inside

-- and what follows it is what followed, and more
pub rest-append : (bytes more : List ℕ) (begin end : ℕ) → StandsAt bytes begin end → drop end (bytes ++ more) ≡ drop end bytes ++ more
rest-append bytes more begin end s = drop-append-le end bytes more s.within

-- what is too long stays so
pub too_long-append : (bytes more : List ℕ) (begin : ℕ) → IsTooLong bytes begin → IsTooLong (bytes ++ more) begin
too_long-append bytes more begin t =
    let within : begin ≤ length bytes = t.begins.within in
    let len = length-drop begin bytes in
    record {
      begins = Begins-append bytes more begin (omega (arith, t.filled)) t.begins;
      filled = omega (arith, t.filled, length-append bytes more);
      no_end = λ size small e.
          let parted = rw (drop-append-le begin bytes more within) at e in
          t.no_end size small (Ends-front (drop begin bytes) more size (omega (arith, len, t.filled)) parted);
    }

-- ---- what the code has looked at: the bytes behind `begin`, and as many of them as a statement may have

module _ (bytes rest window : List ℕ) (begin most : ℕ) (b : Begins bytes begin) (behind : rest ≡ drop begin bytes) (front : window ≡ take most rest) where
  -- an end in the window is that of the statement
  pub statement_in_window : (size : ℕ) → most ≤ STATEMENT_LIMIT → Ends window size → StandsAt bytes begin (begin + size)
  statement_in_window size small e =
      let same : window ≡ take most (drop begin bytes) = front ∙ ap (take most) behind in
      let w = e.within in
      finds_statement bytes begin most size b small (subst (λ bs. Ends bs size) same e) (omega (arith, w, ap length front, length-take most rest))

  -- a full window without end is a statement that is too long
  pub too_long_in_window : most ≤ STATEMENT_LIMIT → length window ≡ STATEMENT_LIMIT → ((size : ℕ) → ¬ Ends window size) → IsTooLong bytes begin
  too_long_in_window small filled none =
      let len = length-take most rest in
      let at_most : most ≡ STATEMENT_LIMIT = omega (arith, ap length front, len, filled) in
      let there : STATEMENT_LIMIT ≤ length (drop begin bytes) = omega (arith, ap length front, len, filled, ap length behind) in
      let same : window ≡ take STATEMENT_LIMIT (drop begin bytes) = front ∙ ap (take most) behind ∙ ap (λ n. take n (drop begin bytes)) at_most in
      is_too_long bytes begin b there (λ size e. none size (subst (λ bs. Ends bs size) (sym same) e))

  -- a window that is not full shows all
  pub no_end_behind_window : length rest ≤ most → ((size : ℕ) → ¬ Ends window size) → (size : ℕ) → ¬ Ends (drop begin bytes) size
  no_end_behind_window all none size e =
      let same : window ≡ drop begin bytes = front ∙ take_all most rest all ∙ behind in
      none size (subst (λ bs. Ends bs size) (sym same) e)
