-- From what stood before the last lines to how the run ends.
use Rattle.std.proofs.Common.{◌≡◌, ℕ, List, [], ◌∷◌, ◌++◌, Option, Some, None, refl, sym, ap, subst, ◌∙◌, inl, inr, arith, ◌≤◌}
use Rattle.std.specs.Prelude.{◌⊎◌, IsSome}
use Rattle.std.specs.Io.KnownBytes.{append_known}
use Rattle.std.proofs.lemmas.List.{append-nil}
use Rattle.sg_io.specs.Faults.{Rose}
use Rattle.sg_io.specs.Inputs.{Input, input_named}
use Rattle.sg_rows.specs.declared.fault.Fault.{Fault}
use Rattle.sg_rows.specs.declared.fault.Fault.TheVariants as fault
use Rattle.sg_play.specs.Record.{Record, Played, Ending, marked, err, done, refused, waiting}
use Rattle.sg_play.proofs.Plays.{one-play}
use Rattle.sgps_cli.specs.Causes.{last_line}
use Rattle.sg_words.specs.Settings.{Wanted}
use Rattle.sgps_cli.specs.Input.{HasInput, HasNamed, IsInput, TellsScript}
use Rattle.sgps_cli.specs.Statistics.{lines_with}
use Rattle.sgps_cli.specs.Settled.{Settled, keep_of}
use Rattle.sgps_cli.specs.Reports.{IsReport, told, failed, no_memory, IsFrontOfLines}
use Rattle.sgps_cli.specs.Passed.{HasRefusals}
use Rattle.sgps_cli.specs.Written.{Sinks, Wrote}
use Rattle.sgps_cli.specs.Ends.{Seen, IsScript, Settles, Comes, IsEarly, telling, RunsOut, SinkFaults, FailsToWrite, Ends, Closes, closed, stopped, PlaysToEnd, EndsWell}
use Rattle.sgps_cli.specs.declared.ended.Ended.{Ended}
use Rattle.sgps_cli.specs.declared.ending.Cause.{Cause}
use Rattle.sgps_cli.specs.declared.ending.Cause.TheVariants as cause
use Rattle.sgps_cli.proofs.Written.{wrote-err, wrote-twice}

-- a record, and a text for `err` behind it
wrote-behind : (old mid new : Sinks) (r : Record) (said : List ℕ) → Wrote old mid r → new.on_out ≡ mid.on_out → new.on_err ≡ append_known mid.on_err said → Wrote old new (r ++ marked err said)
wrote-behind old mid new r said w o e = wrote-twice old mid new r (marked err said) w (wrote-err mid new said o e)

-- nothing is a front of nothing alone
front-of-none : (a b : List ℕ) → [] ≡ a ++ b → a ≡ []
front-of-none [] b e = refl
front-of-none (x ∷ a) b e = absurd (cc)

module _ (seen : Seen) (old new : Sinks) (f : SinkFaults) (r : Record) (said : List ℕ) (wrote : Wrote old new (r ++ marked err said)) where
  -- lines were written whole
  written-so : (lines : List ℕ) → said ≡ lines → Wrote old new (r ++ marked err lines)
  written-so lines e = subst (λ s. Wrote old new (r ++ marked err s)) e wrote

  told-whole : (c : Cause) (lines : List ℕ) → Comes c seen r lines → said ≡ lines → Ends c seen old new f
  told-whole cause.Ok lines h e = (r, lines, h, written-so lines e)
  told-whole (cause.Refusals count line) lines h e = (r, lines, h, written-so lines e)
  told-whole cause.Usage lines h e = (r, lines, h, written-so lines e)
  told-whole cause.ReadFault lines h e = (r, lines, h, written-so lines e)
  told-whole cause.Overlong lines h e = (r, lines, h, written-so lines e)
  told-whole (cause.Script fault line) lines h e = (r, lines, h, written-so lines e)
  told-whole (cause.Budget line) lines h e = (r, lines, h, written-so lines e)
  told-whole cause.WriteFault lines h e = absurd h.2
  told-whole cause.Memory lines h e = absurd h.2

  -- a run that had written this and this front of a line was stopped by `err`
  stopped-by-err : IsEarly seen r said → Rose f.err_before f.err_after → FailsToWrite seen old new f
  stopped-by-err early rose = (inr rose, inl (r, said, early, inr rose, wrote))

  -- a run that had written this, and no line, was stopped by a sink
  stopped-by-out : IsEarly seen r [] → said ≡ [] → Rose f.out_before f.out_after ⊎ Rose f.err_before f.err_after → FailsToWrite seen old new f
  stopped-by-out early none rose = (rose, inl (r, [], early, inl refl, written-so [] none))

  -- a run that had written this ran out of memory, and wrote this front of that line
  no-memory-then : IsEarly seen r [] → (rest : List ℕ) → last_line cause.Memory ≡ said ++ rest → RunsOut seen old new
  no-memory-then early rest front = (r, [], said, rest, early, front, wrote)

  -- a run that had written this, and this front of a line, ran out of memory
  no-memory-there : IsEarly seen r said → RunsOut seen old new
  no-memory-there early = (r, said, [], last_line cause.Memory, early, refl, subst (λ s. Wrote old new (r ++ marked err s)) (sym (append-nil said)) wrote)

  -- a stop has no lines but that for want of memory
  lines-bare : (e : Ended) (c : Cause) → e.cause ≡ c → e.counts ≡ None → lines_with e.cause e.counts ≡ last_line c
  lines-bare e c is none = ap (lines_with e.cause) none ∙ ap last_line is

  reported : (e : Ended) (d : Cause) → Closes e seen r → IsReport e said f.err_before f.err_after d → (e.cause ≡ cause.WriteFault → Rose f.out_before f.out_after ⊎ Rose f.err_before f.err_after) → Ends d seen old new f
  reported e d (closed h) (told t) rose = subst (λ x. Ends x seen old new f) (sym t.same) (told-whole e.cause (lines_with e.cause e.counts) h t.whole)
  reported e d (closed h) (failed is front risen) rose =
      subst (λ x. Ends x seen old new f) (sym is) (stopped-by-err (telling e.cause front.0 (subst (Comes e.cause seen r) front.1 h)) risen)
  reported e d (closed h) (no_memory is front) rose = subst (λ x. Ends x seen old new f) (sym is) (no-memory-there (telling e.cause front.0 (subst (Comes e.cause seen r) front.1 h)))
  reported e d (stopped (inl w) none early) (told t) rose =
      subst (λ x. Ends x seen old new f) (sym (t.same ∙ w)) (stopped-by-out early (t.whole ∙ lines-bare e cause.WriteFault w none) (rose w))
  reported e d (stopped (inr m) none early) (told t) rose =
      subst (λ x. Ends x seen old new f) (sym (t.same ∙ m)) (no-memory-then early [] (sym (lines-bare e cause.Memory m none) ∙ sym t.whole ∙ sym (append-nil said)))
  reported e d (stopped (inl w) none early) (failed is front risen) rose =
      subst (λ x. Ends x seen old new f) (sym is) (stopped-by-out early (front-of-none said front.0 (sym (lines-bare e cause.WriteFault w none) ∙ front.1)) (inr risen))
  reported e d (stopped (inr m) none early) (failed is front risen) rose =
      subst (λ x. Ends x seen old new f) (sym is) (inr risen, inr (risen, no-memory-then early front.0 (sym (lines-bare e cause.Memory m none) ∙ front.1)))
  reported e d (stopped (inl w) none early) (no_memory is front) rose =
      let nothing = front-of-none said front.0 (sym (lines-bare e cause.WriteFault w none) ∙ front.1) in
      subst (λ x. Ends x seen old new f) (sym is) (no-memory-there (subst (λ s. IsEarly seen r s) (sym nothing) early))
  reported e d (stopped (inr m) none early) (no_memory is front) rose =
      subst (λ x. Ends x seen old new f) (sym is) (no-memory-then early front.0 (sym (lines-bare e cause.Memory m none) ∙ front.1))

-- a report counts the faults of `err` from its own beginning on
report-from : {c : Ended} {said : List ℕ} {mid now : ℕ} {end : Cause} (before : ℕ) → before ≤ mid → IsReport c said mid now end → IsReport c said before now end
report-from before l (told t) = told t
report-from before l (failed e front risen) = failed e front (omega arith)
report-from before l (no_memory e front) = no_memory e front

-- a count that rose first has risen, and one that rose then
rose-sooner : (a b c : ℕ) → b ≤ c → Rose a b → Rose a c
rose-sooner a b c l r = omega arith

-- a count that rose later rose
pub rose-later : (a b c : ℕ) → a ≤ b → Rose b c → Rose a c
rose-later a b c l r = omega arith

-- how a run ends, whatever came of its last lines
pub run-ends : (c : Ended) (d : Cause) (seen : Seen) (old mid new : Sinks) (f : SinkFaults) (err_mid : ℕ) (r : Record) (said : List ℕ) → Wrote old mid r → new.on_out ≡ mid.on_out → new.on_err ≡ append_known mid.on_err said →
    Closes c seen r → IsReport c said err_mid f.err_after d → f.err_before ≤ err_mid → err_mid ≤ f.err_after →
    (c.cause ≡ cause.WriteFault → Rose f.out_before f.out_after ⊎ Rose f.err_before err_mid) → Ends d seen old new f
run-ends c d seen old mid new f err_mid r said w o e h report first then rose =
    reported seen old new f r said (wrote-behind old mid new r said w o e) c d h (report-from f.err_before first report)
    (λ q. elim (rose q) [ inl x ↦ inl x | inr x ↦ inr (rose-sooner f.err_before err_mid f.err_after then x) ])

some-same : {A : Type 0} (o : Option A) (x y : A) → o ≡ Some x → o ≡ Some y → x ≡ y
some-same o x y e f = let h : Some x ≡ Some y = sym e ∙ f in cc

-- the script that is told has the bytes that were played
same-bytes : (drill : Option ℕ) (seen : Seen) (name : Option (List ℕ)) (b b' : List ℕ) → TellsScript drill name seen.inputs b → IsScript drill name seen b' → b' ≡ b
same-bytes (Some statements) seen name b b' script read = read ∙ sym script
same-bytes None seen name b b' script read =
    let there : IsInput (Some script.0) name b' = subst (λ i. IsInput i name b') script.1 read.1 in
    some-same (input_named name script.0) b' b there script.2

-- a script that is played to its end comes to nothing else
same-play : (seen : Seen) (p : Played) (q : PlaysToEnd seen.settings seen.inputs) → Settles seen p → p ≡ q.play
same-play seen p q s =
    let wanted : s.1.wanted ≡ q.wanted = some-same seen.settings _ _ s.1.accepted q.accepted in
    let read : IsScript q.wanted.drill q.wanted.file seen s.0 = subst (λ w. IsScript w.drill w.file seen s.0) wanted s.1.script in
    let bytes : s.0 ≡ q.bytes = same-bytes q.wanted.drill seen q.wanted.file q.bytes s.0 q.script read in
    one-play q.wanted.budget (keep_of q.wanted) (subst (λ b. Settled b q.wanted p) bytes (subst (λ w. Settled s.0 w p) wanted s.2)) q.settled

same-end : (seen : Seen) (p : Played) (q : PlaysToEnd seen.settings seen.inputs) → Settles seen p → p.ending ≡ done
same-end seen p q s = ap (λ x. x.ending) (same-play seen p q s) ∙ q.ends

none-accepted : {P : Type 0} (settings : Option Wanted) (w : Wanted) → settings ≡ None → settings ≡ Some w → P
none-accepted settings w e f = absurd (let h : None ≡ Some w = sym e ∙ f in cc)

refused-not-done : {P : Type 0} (f : Fault) (line : ℕ) (e : Ending) → e ≡ refused f line → e ≡ done → P
refused-not-done f line e h k = absurd (let x : refused f line ≡ done = sym h ∙ k in cc)

waiting-not-done : {P : Type 0} (e : Ending) → e ≡ waiting → e ≡ done → P
waiting-not-done e h k = absurd (let x : waiting ≡ done = sym h ∙ k in cc)

-- a script that is played to its end ends Ok, as Refusals, or for want of memory, where nothing failed
pub ends-well : (c : Cause) (seen : Seen) (old new : Sinks) (f : SinkFaults) → Ends c seen old new f → (q : PlaysToEnd seen.settings seen.inputs) →
    (Rose seen.faults_before seen.faults_after → ⊥) → (Rose f.out_before f.out_after → ⊥) → (Rose f.err_before f.err_after → ⊥) → EndsWell c q.play.refusals
ends-well cause.Ok seen old new f h q s o e = let p = h.2 in sym (ap (λ x. x.refusals) (same-play seen p.0 q p.1)) ∙ p.2.1
ends-well (cause.Refusals count line) seen old new f h q s o e = let p = h.2 in subst (λ x. HasRefusals x.refusals count line) (same-play seen p.0 q p.1) p.2.1
ends-well cause.Usage seen old new f h q s o e = none-accepted seen.settings q.wanted h.2.0 q.accepted
ends-well cause.ReadFault seen old new f h q s o e = absurd (s h.2.0)
ends-well cause.Overlong seen old new f h q s o e = let p = h.2 in waiting-not-done p.0.ending p.2 (same-end seen p.0 q p.1)
ends-well (cause.Script f' line) seen old new f h q s o e = let p = h.2 in refused-not-done f' line p.0.ending p.2.0 (same-end seen p.0 q p.1)
ends-well (cause.Budget line) seen old new f h q s o e = let p = h.2 in refused-not-done fault.Budget line p.0.ending p.2 (same-end seen p.0 q p.1)
ends-well cause.WriteFault seen old new f h q s o e = elim h.0 [ inl r ↦ absurd (o r) | inr r ↦ absurd (e r) ]
ends-well cause.Memory seen old new f h q s o e = tt

-- the input is there where it is told
pub input-there : (settings : Option Wanted) (inputs : Option (List Input)) → PlaysToEnd settings inputs → HasInput settings inputs
input-there settings inputs q = subst (λ s. HasInput s inputs) (sym q.accepted) (has q.wanted.drill q.script)
  where
    is-there : (o : Option (List ℕ)) (b : List ℕ) → o ≡ Some b → IsSome o
    is-there None b e = absurd (let h : None ≡ Some b = e in cc)
    is-there (Some x) b e = refl

    has : (drill : Option ℕ) → TellsScript drill q.wanted.file inputs q.bytes → HasNamed drill q.wanted.file inputs
    has (Some statements) script = tt
    has None script = subst (λ i. HasNamed None q.wanted.file i) (sym script.1) (is-there (input_named q.wanted.file script.0) q.bytes script.2)

-- no count that stays 0 rose
pub none-rose : (before now : ℕ) → before ≡ 0 → now ≡ 0 → Rose before now → ⊥
none-rose before now e f r = omega arith
