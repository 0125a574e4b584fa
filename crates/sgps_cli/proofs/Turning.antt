-- One turn of a play.
use Rattle.std.proofs.Common.{◌≡◌, ℕ, ◌+◌, ◌<◌, ◌≤◌, List, [], ◌∷◌, ◌++◌, take, drop, length, Bool, true, false, Option, Some, None, refl, sym, ap, subst, ◌∙◌, inl, inr, arith, length-append, length-drop}
use Rattle.std.specs.Prelude.{◌⊎◌, slice_range, IfSome}
use Rattle.std.specs.Io.KnownBytes.{prepend_known}
use Rattle.std.proofs.lemmas.List.{append-nil}
use Rattle.sg_cut.specs.declared.limits.TheConstants.{SCRIPT_LIMIT, STATEMENT_LIMIT}
use Rattle.sg_cut.specs.Cut.{StandsAt, IsAtEnd, IsUnfinished, IsTooLong}
use Rattle.sg_cut.specs.Cut as bytes
use Rattle.sg_cut.specs.Lines.{line_of, count_of_line_feeds}
use Rattle.sg_cut.specs.declared.outcome.Piece.TheVariants as piece
use Rattle.sg_rows.specs.declared.fault.Fault.{Fault}
use Rattle.sg_rows.specs.declared.fault.Fault.TheVariants as fault
use Rattle.sg_script.specs.Outcome.{a_tree, IsReadAs}
use Rattle.sg_meaning.specs.Vars.{Vars}
use Rattle.sg_rows.specs.Asks.{Asking}
use Rattle.sg_calls.specs.After.{after_asked}
use Rattle.sg_calls.proofs.AfterLemmas.{after_both}
use Rattle.sg_store.specs.Attributes.{Attributes, nothing_asked}
use Rattle.sg_eval.specs.State.{State as Machine}
use Rattle.sg_play.specs.Record.{Played, Record, Refusal, Ending, done, refused, waiting, after}
use Rattle.sg_play.specs.Play as play
use Rattle.sg_play.specs.Play.{Performs, Takes, PlaysFrom, Play, last}
use Rattle.sg_play.specs.Left.{LeftFrom, before, inside, telling}
use Rattle.sg_window.specs.Window.{State, Holds, fresh}
use Rattle.sg_window.specs.Finds.{FindsStatement, WantsMore, BeginsAt}
use Rattle.sg_window.proofs.Holding.{holds-append, holds_at_once}
use Rattle.sgps_cli.specs.Passed.{AreCounted, end_of, refusal_of}
use Rattle.sgps_cli.specs.Written.{Sinks, Wrote}
use Rattle.sgps_cli.specs.Ends.{IsCauseOf}
use Rattle.sgps_cli.specs.Playing.{Acts, Asked, IsPart, ComesTo, EndsAt, IsAt, Begun, IsReached, Comes, Concludes, Turns, ReadsMore}
use Rattle.sgps_cli.specs.Playing.{Acts as acts}
use Rattle.sgps_cli.specs.Playing.{IsPart as part}
use Rattle.sgps_cli.specs.Playing.{Comes as comes}
use Rattle.sgps_cli.specs.Playing.{ReadsMore as reads}
use Rattle.sgps_cli.specs.declared.passed.Passed.{Passed}
use Rattle.sgps_cli.specs.declared.plan.Plan.{Plan}
use Rattle.sgps_cli.specs.declared.play.Turn.{Turn}
use Rattle.sgps_cli.specs.declared.play.Turn.TheVariants as turn
use Rattle.sgps_cli.specs.declared.ending.Cause.{Cause}
use Rattle.sgps_cli.specs.declared.ending.Cause.TheVariants as cause
use Rattle.sgps_cli.proofs.Written.{wrote-none, wrote-twice, prepend-none, prepend-twice}
use Rattle.sgps_cli.proofs.Counting.{counted-length, counted-more, fresh-few, ends-cause, ends-ended}
use Rattle.sgps_cli.proofs.Playing.{at-first, at-read, at-behind, plays-out, left-out}

-- before anything was read
pub reached-first : (b : Begun) (w : State) (s : Machine) → w ≡ fresh → s.variables ≡ [] → s.attributes ≡ nothing_asked b.plan.capacity → s.budget ≡ b.plan.budget
    → IsReached b w s (record { count = 0; line = 0 }) b.all b.sinks
reached-first b w s is none kept same = record {
  bytes = [];
  held = [];
  feeds = 0;
  asked = [];
  refusals = [];
  written = [];
  holds = subst (Holds [] 0) (sym is) (holds_at_once [] 0 fresh refl refl);
  taken = ap (λ (x : State). x.taken) is;
  within = omega (arith, ap (λ (x : State). x.taken) is);
  told = sym (prepend-none b.all);
  wrote = wrote-none b.sinks;
  so_far = subst (λ v. IsAt b.plan.budget b.plan.keep [] [] 0 v [] [] []) (sym none) (at-first b.plan.budget b.plan.keep);
  kept = kept;
  budget = same;
  passes = inl (refl, refl);
  few = omega arith;
  at_end = λ e. absurd (let f : false ≡ true = sym (ap (λ (x : State). x.ended) is) ∙ e in cc);
}

-- nothing was played for want of memory
pub without-memory : (b : Begun) (kept : Attributes) → Concludes cause.Memory b kept b.all b.sinks
without-memory b kept = record {
  bytes = [];
  written = [];
  within = omega arith;
  told = sym (prepend-none b.all);
  wrote = wrote-none b.sinks;
  comes = comes.broken (inr refl) before;
}

-- what a statement comes to where it stands
takes-there : (budget : ℕ) (keep : Bool) (held text : List ℕ) (line : ℕ) (vars : Vars) (begin end passed feeds : ℕ) (t : ℕ → play.Turn) → text ≡ slice_range held begin end → line ≡ feeds + line_of held begin →
    ComesTo budget keep text line vars t → Takes budget keep (piece.Statement begin end) held passed feeds vars (t (passed + begin))
takes-there budget keep held text line vars begin end passed feeds t is line_is c = (
  c.0,
  subst (λ x. IsReadAs x c.0) is c.1,
  subst (λ l. Performs budget keep c.0 vars (passed + begin) l (t (passed + begin))) line_is (c.2 (passed + begin)),
)

-- a part of what a statement writes, where it stands
part-there : {budget : ℕ} {keep : Bool} {held text : List ℕ} {line : ℕ} {vars : Vars} {s : Record} (begin end passed feeds : ℕ) → text ≡ slice_range held begin end → line ≡ feeds + line_of held begin →
    StandsAt held begin end → IsPart budget keep text line vars s → LeftFrom budget keep held passed feeds vars s
part-there begin end passed feeds is line_is stands part.nothing = before
part-there begin end passed feeds is line_is stands (part.inside c vars' printed read broken) =
    inside begin end c vars' printed (record { stands = stands; reads = subst (λ x. IsReadAs x (a_tree c)) is read }) broken
part-there {budget} {keep} {held} {text} {line} {vars} begin end passed feeds is line_is stands (part.telling written asked refusals vars' c front) =
    telling end vars' written
    (record { begin = begin; asked = asked; refusals = refusals; stands = stands; takes = takes-there budget keep held text line vars begin end passed feeds (λ place. play.goes written asked refusals vars') is line_is c }) front

open-ended : (b : Bool) → b ≡ false → b ≡ true → ⊥
open-ended b e f = let h : false ≡ true = sym e ∙ f in cc

some-same : (a b : ℕ) → Some a ≡ Some b → a ≡ b
some-same a b e = cc

module _ {b : Begun} {w : State} {m : Machine} {passed : Passed} {rest : Option (List ℕ)} {now : Sinks} (r : IsReached b w m passed rest now) where
  -- what is kept after further asks
  kept-behind : (asked : List Asking) (a : Attributes) → a ≡ after_asked asked m.attributes → a ≡ after_asked (r.asked ++ asked) (nothing_asked b.plan.capacity)
  kept-behind asked a e = e ∙ ap (after_asked asked) r.kept ∙ sym (after_both r.asked asked (nothing_asked b.plan.capacity))

  -- what stands first in what is held ends the play
  ends-early : (c : Cause) (p : Played) (s : Record) (kept : Attributes) (after' : Sinks) → Wrote now after' s → PlaysFrom b.plan.budget b.plan.keep false r.held r.so_far.passed r.feeds m.variables p → (p.ending ≡ waiting → ⊥) → p.written ≡ s →
      kept ≡ after_asked p.asked m.attributes → IsCauseOf c (after r.written r.asked r.refusals p) → ((place : ℕ) → p.place ≡ Some place → length r.bytes ≤ place + STATEMENT_LIMIT) → Concludes c b kept rest after'
  ends-early c p s kept after' wrote d ended is counts caused near = record {
    bytes = r.bytes;
    written = r.written ++ s;
    within = omega (arith, r.taken, r.within);
    told = r.told;
    wrote = wrote-twice b.sinks now after' r.written s r.wrote wrote;
    comes = comes.early (after r.written r.asked r.refusals p) (plays-out r.so_far false p d) ended caused near (kept-behind p.asked kept counts) (ap (λ x. r.written ++ x) (sym is));
  }

  -- the same where the input has ended
  ends-whole : (c : Cause) (p : Played) → w.ended ≡ true → PlaysFrom b.plan.budget b.plan.keep true r.held r.so_far.passed r.feeds m.variables p → p.written ≡ [] → p.asked ≡ [] →
      IsCauseOf c (after r.written r.asked r.refusals p) → ((place : ℕ) → p.place ≡ Some place → length r.bytes ≤ place + STATEMENT_LIMIT) → Concludes c b m.attributes rest now
  ends-whole c p over d is none caused near =
      let e = r.at_end over in
      record {
        bytes = r.bytes;
        written = r.written;
        within = omega (arith, r.taken, r.within);
        told = r.told;
        wrote = r.wrote;
        comes = comes.whole (after r.written r.asked r.refusals p) (plays-out r.so_far true p d) (omega (arith, r.taken, e.0), e.1) caused near (kept-behind p.asked m.attributes (ap (λ xs. after_asked xs m.attributes) (sym none)))
            (sym (append-nil r.written) ∙ ap (λ x. r.written ++ x) (sym is));
      }

  -- the play waits for more than was taken
  waits-there : (c : Cause) → bytes.Cut r.held false piece.Waiting → (c ≡ cause.ReadFault) × (length r.bytes < SCRIPT_LIMIT) ⊎ (c ≡ cause.Overlong) × (length r.bytes ≡ SCRIPT_LIMIT) → Concludes c b m.attributes rest now
  waits-there c cut how =
      let p : Played = record { written = []; asked = []; refusals = []; ending = waiting; place = None } in
      record {
        bytes = r.bytes;
        written = r.written;
        within = omega (arith, r.taken, r.within);
        told = r.told;
        wrote = r.wrote;
        comes = comes.waits (after r.written r.asked r.refusals p) (plays-out r.so_far false p (last piece.Waiting cut refl)) refl how (sym (append-nil r.written));
      }

  -- a statement that begins there
  near-there : (begin line : ℕ) → BeginsAt r.held r.feeds begin line → (place : ℕ) → Some (r.so_far.passed + begin) ≡ Some place → length r.bytes ≤ place + STATEMENT_LIMIT
  near-there begin line f place e = omega (arith, some-same (r.so_far.passed + begin) place e, f.near, r.so_far.counted)

  -- what a statement comes to within the budget of the machine, where it stands
  takes-first : (begin end line : ℕ) (text : List ℕ) (t : ℕ → play.Turn) → text ≡ slice_range r.held begin end → line ≡ r.feeds + line_of r.held begin → ComesTo m.budget b.plan.keep text line m.variables t
      → Takes b.plan.budget b.plan.keep (piece.Statement begin end) r.held r.so_far.passed r.feeds m.variables (t (r.so_far.passed + begin))
  takes-first begin end line text t is line_is c =
      takes-there b.plan.budget b.plan.keep r.held text line m.variables begin end r.so_far.passed r.feeds t is line_is (subst (λ n. ComesTo n b.plan.keep text line m.variables t) r.budget c)

  -- a statement was found and executed
  pub statement-turn : (line : ℕ) (w' : State) (m' : Machine) (s : Record) (after' : Sinks) (t : Turn) (text : List ℕ) → FindsStatement r.held r.feeds line w w' → w'.taken ≡ w.taken → w'.ended ≡ w.ended →
      text ≡ w'.text → Wrote now after' s → Acts b.plan.keep text line passed m m' s t → Turns t b w' m' rest after'
  statement-turn line w' m' s after' t text f taken over same wrote (acts.goes {now = now'} asked more c counts passes) =
      let is = same ∙ f.text_is in
      record {
        bytes = r.bytes;
        held = drop f.end r.held;
        feeds = r.feeds + count_of_line_feeds (take f.end r.held);
        asked = r.asked ++ asked;
        refusals = r.refusals ++ more;
        written = r.written ++ s;
        holds = f.behind;
        taken = taken ∙ r.taken;
        within = omega (arith, taken, r.within);
        told = r.told;
        wrote = wrote-twice b.sinks now after' r.written s r.wrote wrote;
        so_far = at-behind r.so_far f.begin f.end s asked more m'.variables f.stands (takes-first f.begin f.end line text (λ place. play.goes s asked more m'.variables) is f.begins.line_is c);
        kept = kept-behind asked m'.attributes counts.kept;
        budget = counts.budget ∙ r.budget;
        passes = counted-more r.refusals more passed now' line r.passes passes;
        few = omega (arith, r.few, fresh-few passed now' line more passes, f.stands.some, f.stands.within, length-drop f.end r.held, length-append r.refusals more);
        at_end = λ e. let k = r.at_end (sym over ∙ e) in (omega (arith, taken, k.0), k.1);
      }
  statement-turn line w' m' s after' t text f taken over same wrote (acts.stops {c = c} asked e comes counts how) =
      let is = same ∙ f.text_is in
      let p : Played = record { written = s; asked = asked; refusals = []; ending = e; place = Some (r.so_far.passed + f.begin) } in
      ends-early c p s m'.attributes after' wrote
      (last (piece.Statement f.begin f.end) f.stands (takes-first f.begin f.end line text (λ place. play.stops (record { written = s; asked = asked; refusals = []; ending = e; place = Some place })) is f.begins.line_is comes))
      (ends-ended c passed line e how) refl counts.kept (ends-cause c passed line e r.refusals (after r.written r.asked r.refusals p) how r.passes (append-nil r.refusals) refl) (near-there f.begin line f.begins)
  statement-turn line w' m' s after' t text f taken over same wrote (acts.breaks {c = c} how p) = record {
    bytes = r.bytes;
    written = r.written ++ s;
    within = omega (arith, r.taken, r.within);
    told = r.told;
    wrote = wrote-twice b.sinks now after' r.written s r.wrote wrote;
    comes = comes.broken how (left-out r.so_far s (part-there f.begin f.end r.so_far.passed r.feeds (same ∙ f.text_is) f.begins.line_is f.stands (subst (λ n. IsPart n b.plan.keep text line m.variables s) r.budget p)));
  }

  -- only blanks and comments are left
  pub end-turn : (c : Cause) → c ≡ end_of passed → bytes.Cut r.held w.ended piece.End → Concludes c b m.attributes rest now
  end-turn c is cut =
      let p : Played = record { written = []; asked = []; refusals = []; ending = done; place = None } in
      let whole : IsAtEnd r.held true = record { complete = refl; nothing_left = cut.nothing_left } in
      ends-whole c p cut.complete (last piece.End whole refl) refl refl
      (ends-cause c passed 0 done r.refusals (after r.written r.asked r.refusals p) (inl (refl, is)) r.passes (append-nil r.refusals) refl) (λ place e. absurd cc)

  -- a statement that is refused where it begins
  refused-there : Fault → ℕ → Played
  refused-there f begin = record { written = []; asked = []; refusals = []; ending = refused f (r.feeds + line_of r.held begin); place = Some (r.so_far.passed + begin) }

  -- the next statement is too long
  pub long-turn : (c : Cause) (begin line : ℕ) → c ≡ refusal_of fault.TooLong line → bytes.Cut r.held w.ended (piece.TooLong begin) → BeginsAt r.held r.feeds begin line → Concludes c b m.attributes rest now
  unfolding refused-there
  long-turn c begin line is cut f =
      let p = refused-there fault.TooLong begin in
      let caused = ends-cause c passed line (refused fault.TooLong line) r.refusals (after r.written r.asked r.refusals p) (inr (fault.TooLong, refl, is)) r.passes (append-nil r.refusals) (ap (refused fault.TooLong) (sym f.line_is)) in
      let e = ends-early c p [] m.attributes now (wrote-none now) (last (piece.TooLong begin) cut refl) (λ h. cc) refl refl caused (near-there begin line f) in
      e

  -- the input ends inside a statement
  pub unfinished-turn : (c : Cause) (begin line : ℕ) → c ≡ refusal_of fault.Syntax line → bytes.Cut r.held w.ended (piece.Unfinished begin) → BeginsAt r.held r.feeds begin line → Concludes c b m.attributes rest now
  unfolding refused-there
  unfinished-turn c begin line is cut f =
      let p = refused-there fault.Syntax begin in
      let caused = ends-cause c passed line (refused fault.Syntax line) r.refusals (after r.written r.asked r.refusals p) (inr (fault.Syntax, refl, is)) r.passes (append-nil r.refusals) (ap (refused fault.Syntax) (sym f.line_is)) in
      let whole : IsUnfinished r.held true begin = record { complete = refl; begins = cut.begins; some = cut.some; few = cut.few; no_end = cut.no_end } in
      ends-whole c p cut.complete (last (piece.Unfinished begin) whole refl) refl refl caused (near-there begin line f)

  -- more was wanted, and read, or the end was seen, or nothing was read
  pub more-turn : (w' w'' : State) (got : List ℕ) (rest' : Option (List ℕ)) (t : Turn) → WantsMore r.held r.feeds w w' → w'.taken ≡ w.taken → w'.ended ≡ w.ended → rest ≡ prepend_known got rest' → ReadsMore passed w' w'' got rest' t → Turns t b w'' m rest' now
  more-turn w' w'' got rest' t wants taken over told (reads.gets is some within) = record {
    bytes = r.bytes ++ got;
    held = r.held ++ got;
    feeds = r.feeds;
    asked = r.asked;
    refusals = r.refusals;
    written = r.written;
    holds = subst (Holds (r.held ++ got) r.feeds) (sym is) (holds-append r.held got r.feeds (w'.taken + length got) w' wants.same);
    taken = omega (arith, ap (λ (x : State). x.taken) is, taken, r.taken, length-append r.bytes got);
    within = within;
    told = r.told ∙ ap (prepend_known r.bytes) told ∙ prepend-twice r.bytes got rest';
    wrote = r.wrote;
    so_far = at-read r.so_far got;
    kept = r.kept;
    budget = r.budget;
    passes = r.passes;
    few = omega (arith, r.few, length-append r.bytes got, length-append r.held got);
    at_end = λ e. absurd (open-ended w''.ended (ap (λ (x : State). x.ended) is ∙ over ∙ wants.open_) e);
  }
  more-turn w' w'' got rest' t wants taken over told (reads.at_end none is few empty) = record {
    bytes = r.bytes;
    held = r.held;
    feeds = r.feeds;
    asked = r.asked;
    refusals = r.refusals;
    written = r.written;
    holds = subst (Holds r.held r.feeds) (sym is) (record { front = wants.same.front; tail = wants.same.tail; parted = wants.same.parted; skips = wants.same.skips; held = wants.same.held; counted = wants.same.counted });
    taken = ap (λ (x : State). x.taken) is ∙ taken ∙ r.taken;
    within = omega (arith, ap (λ (x : State). x.taken) is, few);
    told = r.told ∙ ap (prepend_known r.bytes) (told ∙ ap (λ xs. prepend_known xs rest') none ∙ prepend-none rest');
    wrote = r.wrote;
    so_far = r.so_far;
    kept = r.kept;
    budget = r.budget;
    passes = r.passes;
    few = r.few;
    at_end = λ e. (omega (arith, ap (λ (x : State). x.taken) is, few), empty);
  }
  more-turn w' w'' got rest' t wants taken over told (reads.fails none is few) =
      subst (λ o. Concludes cause.ReadFault b m.attributes o now) (told ∙ ap (λ xs. prepend_known xs rest') none ∙ prepend-none rest')
      (waits-there cause.ReadFault wants.waits (inl (refl, omega (arith, taken, r.taken, few))))
  more-turn w' w'' got rest' t wants taken over told (reads.full none is all) =
      subst (λ o. Concludes cause.Overlong b m.attributes o now) (told ∙ ap (λ xs. prepend_known xs rest') none ∙ prepend-none rest')
      (waits-there cause.Overlong wants.waits (inr (refl, omega (arith, taken, r.taken, all))))
