-- From the play of a drill to how the run ends, but for its last lines.
use Rattle.std.proofs.Common.{◌≡◌, ℕ, ◌*◌, ◌<◌, ◌≤◌, List, [], ◌∷◌, ◌++◌, length, Bool, true, false, Option, Some, None, refl, sym, ap, subst, ◌∙◌, inl, inr, arith, length-append, true≢false}
use Rattle.std.specs.Prelude.{◌⊎◌, ◌&&◌, is_some, IfSome, if◌then◌else◌}
use Rattle.std.specs.Io.KnownBytes.{append_known, prepend_known}
use Rattle.std.proofs.lemmas.List.{append-nil}
use Rattle.sg_cut.specs.declared.limits.TheConstants.{SCRIPT_LIMIT}
use Rattle.sg_drill.specs.Script.{drill_script}
use Rattle.sg_drill.specs.Summary.{summary_of}
use Rattle.sg_drill.proofs.Lengths.{lines-short}
use Rattle.sg_words.specs.Settings.{Wanted}
use Rattle.sg_play.specs.Record.{IsFrontOf, Played, Record, done, marked, out, refused, waiting}
use Rattle.sg_play.specs.Play.{Play}
use Rattle.sg_play.proofs.Plays.{ended-stays, whole-ends}
use Rattle.sg_calls.specs.After.{after_asked}
use Rattle.sg_store.specs.Attributes.{Attributes, AreCounts, nothing_asked}
use Rattle.sg_store.specs.declared.attributes.Counts.{Counts}
use Rattle.sgps_cli.specs.Statistics.{tells_counts, lines_with}
use Rattle.sgps_cli.specs.Settled.{Settled, body_in, body_of, keep_of, plan_of, shown_at}
use Rattle.sgps_cli.specs.Written.{Sinks, Wrote, out_bytes}
use Rattle.sgps_cli.specs.Playing.{Begun, Concludes}
use Rattle.sgps_cli.specs.Playing.{Comes as came}
use Rattle.sgps_cli.specs.Drilled.{Drills, is_done, ran, broken}
use Rattle.sgps_cli.specs.Ends.{Seen, IsScript, Reads, Settles, IsOverlongAtLimit, IsCauseOf, ReadsInOnePass, IsClosed, closed, stopped, nothing, showing}
use Rattle.sgps_cli.specs.declared.ending.Cause.{Cause}
use Rattle.sgps_cli.specs.declared.ending.Cause.TheVariants as cause
use Rattle.sgps_cli.specs.declared.ended.Ended.{Ended}
use Rattle.sgps_cli.specs.declared.plan.Plan.{Plan}
use Rattle.sgps_cli.proofs.Statistics.{lines-told, untold}
use Rattle.sgps_cli.proofs.Settling.{settled-whole}
use Rattle.sgps_cli.proofs.Closing.{bare, comes-so, near-so, stopped-pass, stopped-untold, same-wanted}

-- ---- the play

-- the script of a drill is shorter than a script may be
drill-fits : (statements : ℕ) → statements ≤ 100000 → length (drill_script statements) < SCRIPT_LIMIT
drill-fits statements few = omega (arith, lines-short statements statements)

-- the bytes that were taken, and what is left, are the script
over-is : (script bytes : List ℕ) (rest : Option (List ℕ)) → Some script ≡ prepend_known bytes rest → (left : List ℕ) × (rest ≡ Some left) × (script ≡ bytes ++ left)
over-is script bytes None e = absurd (let h : Some script ≡ None = e in cc)
over-is script bytes (Some left) e = (left, refl, let h : Some script ≡ Some (bytes ++ left) = e in cc)

none-over : (rest : Option (List ℕ)) (left : List ℕ) → rest ≡ Some left → IfSome rest (λ bs. bs ≡ []) → left ≡ []
none-over rest left e h = subst (λ o. IfSome o (λ bs. bs ≡ [])) e h

-- what the tally took is what was printed
took : (printed text : List ℕ) → Some printed ≡ append_known (Some []) text → printed ≡ text
took printed text e = let h : Some printed ≡ Some text = e in cc

module _ (c : Cause) (plan : Plan) (statements : ℕ) (kept : Attributes) (rest on_err new_err : Option (List ℕ)) (printed : List ℕ) (few : statements ≤ 100000) where
  -- a play of the script, as its source and its sinks told it
  pub drills : Concludes c (record { plan = plan; all = Some (drill_script statements); sinks = record { on_out = Some []; on_err = on_err } }) kept rest (record { on_out = Some printed; on_err = new_err })
      → (c ≡ cause.ReadFault → ⊥) → (c ≡ cause.WriteFault → ⊥) → Drills c plan statements kept printed
  drills h no_read no_write =
      let over = over-is (drill_script statements) h.bytes rest h.told in
      go over.0 over.1 over.2 h.comes
    where
      go : (left : List ℕ) → rest ≡ Some left → drill_script statements ≡ h.bytes ++ left → came c plan h.bytes rest kept h.written → Drills c plan statements kept printed
      go left is whole (came.early p d ended caused near k w) =
          ran p (subst (λ b. Play b true plan.budget plan.keep p) (sym whole) (ended-stays plan.budget plan.keep d left true ended)) caused k (took printed _ h.wrote.out_gained ∙ ap out_bytes w)
      go left is whole (came.whole p d all caused near k w) =
          let same : h.bytes ≡ drill_script statements = sym (whole ∙ ap (λ r. h.bytes ++ r) (none-over rest left is all.1) ∙ append-nil h.bytes) in
          ran p (subst (λ b. Play b true plan.budget plan.keep p) same d) caused k (took printed _ h.wrote.out_gained ∙ ap out_bytes w)
      go left is whole (came.waits p d waits (inl how) w) = absurd (no_read how.0)
      go left is whole (came.waits p d waits (inr how) w) = absurd (omega (arith, how.1, drill-fits statements few, ap length whole, length-append h.bytes left))
      go left is whole (came.broken (inl e) l) = absurd (no_write e)
      go left is whole (came.broken (inr e) l) = broken e

-- ---- the run

marked-append : (a b : List ℕ) → marked out (a ++ b) ≡ marked out a ++ marked out b
marked-append [] b = refl
marked-append (x ∷ a) b = ap (λ r. (out, x) ∷ r) (marked-append a b)

no-drill-named : {P : Type 0} (drill : Option ℕ) (statements : ℕ) → drill ≡ None → drill ≡ Some statements → P
no-drill-named drill statements none named = absurd (let h : None ≡ Some statements = sym none ∙ named in cc)

-- where the script was played to its end, its play is done
done-ends : (c : Cause) (p : Played) → is_done c ≡ true → IsCauseOf c p → p.ending ≡ done
done-ends cause.Ok p e h = h.0
done-ends (cause.Refusals count line) p e h = h.0
done-ends (cause.Script fault line) p e h = absurd (true≢false (sym e))
done-ends (cause.Budget line) p e h = absurd (true≢false (sym e))
done-ends cause.Overlong p e h = absurd (true≢false (sym e))
done-ends cause.Usage p e h = absurd h
done-ends cause.ReadFault p e h = absurd h
done-ends cause.WriteFault p e h = absurd h
done-ends cause.Memory p e h = absurd h

-- and else nothing is shown
undone-shows : (c : Cause) (p : Played) (statements : ℕ) (printed : List ℕ) → is_done c ≡ false → IsCauseOf c p → shown_at p.ending statements printed ≡ []
undone-shows cause.Ok p statements printed e h = absurd (true≢false e)
undone-shows (cause.Refusals count line) p statements printed e h = absurd (true≢false e)
undone-shows (cause.Script fault line) p statements printed e h = ap (λ x. shown_at x statements printed) h.0
undone-shows (cause.Budget line) p statements printed e h = ap (λ x. shown_at x statements printed) h
undone-shows cause.Overlong p statements printed e h = ap (λ x. shown_at x statements printed) h
undone-shows cause.Usage p statements printed e h = absurd h
undone-shows cause.ReadFault p statements printed e h = absurd h
undone-shows cause.WriteFault p statements printed e h = absurd h
undone-shows cause.Memory p statements printed e h = absurd h

module _ (seen : Seen) (wanted : Wanted) (statements : ℕ) (accepted : seen.settings ≡ Some wanted) (named : wanted.drill ≡ Some statements) (few : statements ≤ 100000) where
  reads-drill : Reads seen (drill_script statements)
  reads-drill = record { wanted = wanted; accepted = accepted; script = subst (λ d. IsScript d wanted.file seen (drill_script statements)) (sym named) refl }

  settled-drill : (p : Played) → Play (drill_script statements) true wanted.budget (keep_of wanted) p → Settled (drill_script statements) wanted p
  settled-drill p d =
      subst (λ b. Settled b wanted p) (append-nil (drill_script statements))
      (settled-whole SCRIPT_LIMIT wanted.budget (keep_of wanted) (drill_script statements) [] p (drill-fits statements few) refl d)

  -- the limit of a script is that of a source
  not-overlong : (c : Cause) → (c ≡ cause.Overlong → ⊥) → IsOverlongAtLimit c seen
  not-overlong c h = record {
    only = λ e. absurd (h e);
    always = λ tells reaches.
        let w = reaches.1 in
        no-drill-named wanted.drill statements (subst (λ (v : Wanted). v.drill ≡ None) (same-wanted seen.settings w.wanted wanted w.accepted accepted) w.no_drill) named;
  }

  -- what is shown of the drill
  shown : (p : Played) (printed : List ℕ) → printed ≡ out_bytes p.written → body_of wanted p ≡ shown_at p.ending statements printed
  shown p printed e = ap (λ d. body_in d p) named ∙ ap (shown_at p.ending statements) (sym e)

  -- the end, with what is told of its counts
  abbrev ended-so : Cause → Counts → Ended
  ended-so c n = record { cause = c; counts = if wanted.stats && tells_counts c then Some n else None }

  -- the play closes the run with what is shown
  closes-ran : (c : Cause) (kept : Attributes) (n : Counts) (p : Played) (r : Record) → AreCounts kept n → Play (drill_script statements) true wanted.budget (keep_of wanted) p → IsCauseOf c p
      → kept ≡ after_asked p.asked (nothing_asked wanted.cache) → r ≡ body_of wanted p → IsClosed (ended-so c n) seen r
  unfolding reads-drill
  closes-ran c kept n p r counts d caused k body =
      let s : Settles seen p = (drill_script statements, reads-drill, settled-drill p d) in
      record {
        closes = closed (comes-so c seen r (lines_with c (if wanted.stats && tells_counts c then Some n else None)) p s caused body (lines-told wanted c p.asked kept n k counts));
        overlong = not-overlong c (λ e. whole-ends d (subst (λ x. IsCauseOf x p) e caused));
        one_pass = near-so c seen (p, s, caused, λ none place e. no-drill-named wanted.drill statements none named);
      }

  -- where its three lines were written
  pub closed-shown : (c : Cause) (kept : Attributes) (n : Counts) (printed : List ℕ) → AreCounts kept n → Drills c (plan_of wanted) statements kept printed → is_done c ≡ true
      → IsClosed (ended-so c n) seen (marked out (summary_of statements printed))
  closed-shown c kept n printed counts (ran p d caused k w) all =
      closes-ran c kept n p _ counts d caused k (sym (shown p printed w ∙ ap (λ e. shown_at e statements printed) (done-ends c p all caused)))
  closed-shown c kept n printed counts (broken e) all = absurd (true≢false (sym all ∙ ap is_done e))

  -- where it came to another end, and nothing is shown
  pub closed-silent : (c : Cause) (kept : Attributes) (n : Counts) (printed : List ℕ) → AreCounts kept n → Drills c (plan_of wanted) statements kept printed → is_done c ≡ false → IsClosed (ended-so c n) seen []
  closed-silent c kept n printed counts (ran p d caused k w) undone = closes-ran c kept n p [] counts d caused k (sym (shown p printed w ∙ undone-shows c p statements printed undone caused))
  closed-silent c kept n printed counts (broken e) undone = record {
    closes = stopped (inr e) (untold wanted.stats (tells_counts c) (Some n) None (stopped-untold c (inr e))) nothing;
    overlong = not-overlong c (λ long. let h : cause.Memory ≡ cause.Overlong = sym e ∙ long in cc);
    one_pass = stopped-pass c seen (inr e);
  }

  not-stop : (e : Cause) → (e ≡ cause.WriteFault) ⊎ (e ≡ cause.Memory) → e ≡ cause.Overlong → ⊥
  not-stop e (inl is) long = let h : cause.WriteFault ≡ cause.Overlong = sym is ∙ long in cc
  not-stop e (inr is) long = let h : cause.Memory ≡ cause.Overlong = sym is ∙ long in cc

  -- where a front of its three lines was written
  pub closed-stopped : (c : Cause) (kept : Attributes) (printed front rest : List ℕ) (e : Cause) → (e ≡ cause.WriteFault) ⊎ (e ≡ cause.Memory) → Drills c (plan_of wanted) statements kept printed → is_done c ≡ true
      → summary_of statements printed ≡ front ++ rest → IsClosed (bare e) seen (marked out front)
  unfolding reads-drill
  closed-stopped c kept printed front rest e how (ran p d caused k w) all parted =
      let s : Settles seen p = (drill_script statements, reads-drill, settled-drill p d) in
      let body : body_of wanted p ≡ marked out front ++ marked out rest =
      shown p printed w ∙ ap (λ x. shown_at x statements printed) (done-ends c p all caused) ∙ ap (marked out) parted ∙ marked-append front rest in
      record {
        closes = stopped how refl (showing p s (ap is_some named) (marked out rest, body));
        overlong = not-overlong e (not-stop e how);
        one_pass = stopped-pass e seen how;
      }
  closed-stopped c kept printed front rest e how (broken is) all parted = absurd (true≢false (sym all ∙ ap is_done is))
