-- Plays: one outcome, and what more bytes do to it.
use Rattle.std.proofs.Common.{◌≡◌, ℕ, ◌+◌, ◌≤◌, List, [], ◌++◌, length, take, drop, Bool, true, false, refl, sym, ap, ap₂, subst, ◌∙◌, append_assoc}
use Rattle.std.specs.Prelude.{IsTrue}
use Rattle.std.proofs.lemmas.List.{take-append-le}
use Rattle.sg_cut.specs.Cut.{Cut}
use Rattle.sg_cut.specs.Lines.{count_of_line_feeds, line_of}
use Rattle.sg_cut.specs.declared.outcome.Piece.{Piece}
use Rattle.sg_cut.specs.declared.outcome.Piece.TheVariants.{Statement, TooLong, Unfinished, End, Waiting}
use Rattle.sg_cut.proofs.Outcomes.{outcome_found, same_outcome, statement-append, too_long-append, text-append, rest-append}
use Rattle.sg_meaning.specs.Vars.{Vars}
use Rattle.sg_rows.specs.declared.fault.Fault.TheVariants as fault
use Rattle.sg_play.specs.Record.{Record, Refusal, Played, refused, waiting, after, IsFrontOf}
use Rattle.sg_play.specs.Play.{Turn, stops, goes, ends_at, Takes, PlaysFrom, last, next}
use Rattle.sg_play.proofs.Turns.{takes-one, takes-same, waits-there, waits-empty, waiting-waits, goes-one}

false-holds : IsTrue false → ⊥
false-holds h = cc

-- the same place in more bytes has the same line
pub line-append : (bytes more : List ℕ) (place : ℕ) → place ≤ length bytes → line_of (bytes ++ more) place ≡ line_of bytes place
line-append bytes more place l = ap (λ xs. 1 + count_of_line_feeds xs) (take-append-le place bytes more l)

module _ (budget : ℕ) (keep : Bool) where
  -- a turn of the same bytes is the same turn
  pub same-turn : (whole : Bool) (bytes : List ℕ) (passed feeds : ℕ) (vars : Vars) (a b : Piece) (t u : Turn) → Cut bytes whole a → Cut bytes whole b →
      Takes budget keep a bytes passed feeds vars t → Takes budget keep b bytes passed feeds vars u → t ≡ u
  same-turn whole bytes passed feeds vars a b t u c d p q =
      takes-one budget keep a bytes passed feeds vars t u p (subst (λ x. Takes budget keep x bytes passed feeds vars u) (same_outcome bytes whole b a d c) q)

  -- the rest of a play, after the same statement with the same variables
  pub same-rest : (whole : Bool) (bytes : List ℕ) (passed feeds : ℕ) (end end' : ℕ) (vars vars' : Vars) (p : Played) → end' ≡ end → vars' ≡ vars →
      PlaysFrom budget keep whole (drop end' bytes) (passed + end') (feeds + count_of_line_feeds (take end' bytes)) vars' p →
      PlaysFrom budget keep whole (drop end bytes) (passed + end) (feeds + count_of_line_feeds (take end bytes)) vars p
  same-rest whole bytes passed feeds end end' vars vars' p e v d =
      subst (λ w. PlaysFrom budget keep whole (drop end bytes) (passed + end) (feeds + count_of_line_feeds (take end bytes)) w p) v
      (subst (λ n. PlaysFrom budget keep whole (drop n bytes) (passed + n) (feeds + count_of_line_feeds (take n bytes)) vars' p) e d)

  -- some bytes are played in at most one way
  pub one-play : {whole : Bool} {bytes : List ℕ} {passed feeds : ℕ} {vars : Vars} {p q : Played} → PlaysFrom budget keep whole bytes passed feeds vars p → PlaysFrom budget keep whole bytes passed feeds vars q → p ≡ q
  one-play {whole} {bytes} {passed} {feeds} {vars} (last a c h) (last b d k) =
      let e = same-turn whole bytes passed feeds vars a b _ _ c d h k in cc
  one-play {whole} {bytes} {passed} {feeds} {vars} (last a c h) (next begin end r qs rs vars' d k rest) =
      let e = same-turn whole bytes passed feeds vars a (Statement begin end) _ _ c d h k in cc
  one-play {whole} {bytes} {passed} {feeds} {vars} (next begin end r qs rs vars' c h rest) (last b d k) =
      let e = same-turn whole bytes passed feeds vars (Statement begin end) b _ _ c d h k in cc
  one-play {whole} {bytes} {passed} {feeds} {vars} (next {p = tail} begin end r qs rs vars' c h rest) (next {p = tail'} begin' end' r' qs' rs' vars'' d k rest') =
      let piece = same_outcome bytes whole (Statement begin end) (Statement begin' end') c d in
      let turn = goes-one (same-turn whole bytes passed feeds vars (Statement begin end) (Statement begin' end') (goes r qs rs vars') (goes r' qs' rs' vars'') c d h k) in
      let stop : end' ≡ end = cc in
      let others = one-play rest (same-rest whole bytes passed feeds end end' vars' vars'' tail' stop (sym turn.3) rest') in
      ap (λ a. after a qs rs tail) turn.0 ∙ ap (λ a. after r' a rs tail) turn.1 ∙ ap (λ a. after r' qs' a tail) turn.2 ∙ ap (after r' qs' rs') others

  -- a statement comes to the same over more bytes
  pub statement-more : (begin end : ℕ) (bytes more : List ℕ) (passed feeds : ℕ) (vars : Vars) (t : Turn) → Cut bytes false (Statement begin end) →
      Takes budget keep (Statement begin end) bytes passed feeds vars t → Takes budget keep (Statement begin end) (bytes ++ more) passed feeds vars t
  statement-more begin end bytes more passed feeds vars t c h =
      takes-same budget keep begin end bytes (bytes ++ more) passed feeds vars t (text-append bytes more begin end c) (line-append bytes more begin c.begins.within) h

  -- the rest of a play over more bytes
  pub rest-more : (whole : Bool) (begin end : ℕ) (bytes more : List ℕ) (passed feeds : ℕ) (vars : Vars) (p : Played) → Cut bytes false (Statement begin end) →
      PlaysFrom budget keep whole (drop end bytes ++ more) (passed + end) (feeds + count_of_line_feeds (take end bytes)) vars p →
      PlaysFrom budget keep whole (drop end (bytes ++ more)) (passed + end) (feeds + count_of_line_feeds (take end (bytes ++ more))) vars p
  rest-more whole begin end bytes more passed feeds vars p c d =
      subst (λ xs. PlaysFrom budget keep whole xs (passed + end) (feeds + count_of_line_feeds (take end (bytes ++ more))) vars p) (sym (rest-append bytes more begin end c))
      (subst (λ xs. PlaysFrom budget keep whole (drop end bytes ++ more) (passed + end) (feeds + count_of_line_feeds xs) vars p) (sym (take-append-le end bytes more c.within)) d)

  rest-less : (whole : Bool) (begin end : ℕ) (bytes more : List ℕ) (passed feeds : ℕ) (vars : Vars) (p : Played) → Cut bytes false (Statement begin end) →
      PlaysFrom budget keep whole (drop end (bytes ++ more)) (passed + end) (feeds + count_of_line_feeds (take end (bytes ++ more))) vars p →
      PlaysFrom budget keep whole (drop end bytes ++ more) (passed + end) (feeds + count_of_line_feeds (take end bytes)) vars p
  rest-less whole begin end bytes more passed feeds vars p c d =
      subst (λ xs. PlaysFrom budget keep whole (drop end bytes ++ more) (passed + end) (feeds + count_of_line_feeds xs) vars p) (take-append-le end bytes more c.within)
      (subst (λ xs. PlaysFrom budget keep whole xs (passed + end) (feeds + count_of_line_feeds (take end (bytes ++ more))) vars p) (rest-append bytes more begin end c) d)

  -- a play that has ended stays so
  pub ended-stays : {bytes : List ℕ} {passed feeds : ℕ} {vars : Vars} {p : Played} → PlaysFrom budget keep false bytes passed feeds vars p → (more : List ℕ) (whole : Bool) → (p.ending ≡ waiting → ⊥) →
      PlaysFrom budget keep whole (bytes ++ more) passed feeds vars p
  ended-stays {bytes} {passed} {feeds} {vars} {p} (last (Statement begin end) c h) more whole goes_on =
      last (Statement begin end) (statement-append bytes more begin end c) (statement-more begin end bytes more passed feeds vars (stops p) c h)
  ended-stays {bytes} {passed} {feeds} {vars} {p} (last (TooLong begin) c h) more whole goes_on =
      last (TooLong begin) (too_long-append bytes more begin c)
      (h ∙ ap (λ l. ends_at [] [] (refused fault.TooLong (feeds + l)) (passed + begin)) (sym (line-append bytes more begin c.begins.within)))
  ended-stays (last (Unfinished begin) c h) more whole goes_on = absurd (false-holds c.complete)
  ended-stays (last End c h) more whole goes_on = absurd (false-holds c.complete)
  ended-stays {bytes} {passed} {feeds} {vars} {p} (last Waiting c h) more whole goes_on = absurd (goes_on (waiting-waits budget keep bytes passed feeds vars p h))
  ended-stays {bytes} {passed} {feeds} {vars} (next {p = tail} begin end r qs rs vars' c h rest) more whole goes_on =
      next begin end r qs rs vars' (statement-append bytes more begin end c) (statement-more begin end bytes more passed feeds vars (goes r qs rs vars') c h)
      (rest-more whole begin end bytes more passed feeds vars' tail c (ended-stays rest more whole goes_on))

-- bytes that are all that there are do not wait
not-waiting : (bytes : List ℕ) (piece : Piece) → piece ≡ Waiting → Cut bytes true piece → ⊥
not-waiting bytes piece e c =
    let found = outcome_found bytes true in
    found.2 refl (same_outcome bytes true found.0 Waiting found.1 (subst (Cut bytes true) e c))

-- nor does their play
pub whole-ends : {budget : ℕ} {keep : Bool} {bytes : List ℕ} {passed feeds : ℕ} {vars : Vars} {p : Played} → PlaysFrom budget keep true bytes passed feeds vars p → p.ending ≡ waiting → ⊥
whole-ends {budget} {keep} {bytes} {passed} {feeds} {vars} {p} (last piece c h) w = not-waiting bytes piece (waits-there budget keep piece bytes passed feeds vars p h w) c
whole-ends (next begin end r qs rs vars' c h rest) w = whole-ends rest w

-- a front stays one behind the same
front-behind : {A : Type 0} (r r' front whole : List A) → r ≡ r' → IsFrontOf front whole → IsFrontOf (r ++ front) (r' ++ whole)
front-behind r r' front whole same f = (f.0, ap (λ xs. xs ++ whole) (sym same) ∙ ap (λ xs. r ++ xs) f.1 ∙ sym (append_assoc r front f.0))

-- the empty list is a front of any
front-of : {A : Type 0} (front whole : List A) → front ≡ [] → IsFrontOf front whole
front-of front whole e = (whole, ap (λ xs. xs ++ whole) (sym e))

-- what a play wrote, asked for and passed are fronts of what another did
abbrev pub Begins : Played → Played → Type 0
Begins p q = IsFrontOf p.written q.written × IsFrontOf p.asked q.asked × IsFrontOf p.refusals q.refusals

-- a play that waits has written a front of what a longer one writes, asked for what it asks for first, and passed the
-- first that it passes
pub waits-front : {budget : ℕ} {keep : Bool} {bytes : List ℕ} {passed feeds : ℕ} {vars : Vars} {p q : Played} (more : List ℕ) (whole : Bool) → PlaysFrom budget keep false bytes passed feeds vars p →
    PlaysFrom budget keep whole (bytes ++ more) passed feeds vars q → p.ending ≡ waiting → Begins p q
waits-front {budget} {keep} {bytes} {passed} {feeds} {vars} {p} {q} more whole (last piece c h) d w =
    let e = waits-empty budget keep piece bytes passed feeds vars p h w in
    (front-of p.written q.written (ap (λ x. x.written) e), front-of p.asked q.asked (ap (λ x. x.asked) e), front-of p.refusals q.refusals (ap (λ x. x.refusals) e))
waits-front {budget} {keep} {bytes} {passed} {feeds} {vars} more whole (next begin end r qs rs vars' c h rest) (last b d k) w =
    let e = same-turn budget keep whole (bytes ++ more) passed feeds vars (Statement begin end) b _ _ (statement-append bytes more begin end c) d
    (statement-more budget keep begin end bytes more passed feeds vars (goes r qs rs vars') c h) k in
    absurd cc
waits-front {budget} {keep} {bytes} {passed} {feeds} {vars} more whole (next {p = tail} begin end r qs rs vars' c h rest) (next {p = tail'} begin' end' r' qs' rs' vars'' d k rest') w =
    let longer = bytes ++ more in
    let c' = statement-append bytes more begin end c in
    let piece = same_outcome longer whole (Statement begin end) (Statement begin' end') c' d in
    let turn = goes-one (same-turn budget keep whole longer passed feeds vars (Statement begin end) (Statement begin' end') (goes r qs rs vars') (goes r' qs' rs' vars'') c' d
    (statement-more budget keep begin end bytes more passed feeds vars (goes r qs rs vars') c h) k) in
    let stop : end' ≡ end = cc in
    let others = same-rest budget keep whole longer passed feeds end end' vars' vars'' tail' stop (sym turn.3) rest' in
    let fronts = waits-front more whole rest (rest-less budget keep whole begin end bytes more passed feeds vars' tail' c others) w in (
      front-behind r r' tail.written tail'.written turn.0 fronts.0,
      front-behind qs qs' tail.asked tail'.asked turn.1 fronts.1,
      front-behind rs rs' tail.refusals tail'.refusals turn.2 fronts.2,
    )
