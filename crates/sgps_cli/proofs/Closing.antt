-- From the end of a play to how the run ends, but for its last line.
use Rattle.std.proofs.Common.{◌≡◌, ℕ, ◌+◌, ◌<◌, ◌≤◌, List, [], ◌++◌, length, Bool, true, false, Option, Some, None, refl, sym, ap, ap₂, subst, ◌∙◌, inl, inr, arith}
use Rattle.std.specs.Prelude.{◌⊎◌, ◌&&◌, is_some, IfSome, if◌then◌else◌}
use Rattle.sg_cut.specs.declared.limits.TheConstants.{SCRIPT_LIMIT, STATEMENT_LIMIT}
use Rattle.sg_io.specs.Faults.{Rose}
use Rattle.sg_words.specs.Settings.{Wanted}
use Rattle.sg_play.specs.Record.{Record, Played, waiting}
use Rattle.sg_play.specs.Play.{Play}
use Rattle.sg_play.specs.Left.{IsLeft}
use Rattle.sg_play.proofs.Plays.{one-play, whole-ends}
use Rattle.sg_play.proofs.Leaving.{left-front}
use Rattle.sgps_cli.specs.Input.{IsTaken}
use Rattle.sg_store.specs.Attributes.{Attributes, AreCounts}
use Rattle.sg_store.specs.declared.attributes.Counts.{Counts}
use Rattle.sgps_cli.specs.Causes.{last_line}
use Rattle.sgps_cli.specs.Statistics.{tells_counts, last_lines, lines_with}
use Rattle.sgps_cli.specs.Settled.{body_in, body_of, keep_of, plan_of}
use Rattle.sgps_cli.specs.Playing as playing
use Rattle.sgps_cli.specs.Playing.{Comes as came}
use Rattle.sgps_cli.specs.Ends.{Seen, IsScript, Reads, Settles, WaitsForMore, ReachesLimit, IsOverlongAtLimit, IsCauseOf, Comes, IsNear, ReadsInOnePass, IsEarly, Closes, IsClosed, closed, stopped, nothing, playing as early_in}
use Rattle.sgps_cli.specs.Reports.{IsReport, told, failed, no_memory}
use Rattle.sgps_cli.specs.declared.ending.Cause.{Cause}
use Rattle.sgps_cli.specs.declared.ending.Cause.TheVariants as cause
use Rattle.sgps_cli.specs.declared.ended.Ended.{Ended}
use Rattle.sgps_cli.proofs.Statistics.{lines-told, untold}
use Rattle.sgps_cli.proofs.Settling.{AreTaken, is-taken, same-taken, nothing-over, settled-whole, settled-limit, settled-early, left-in-whole}

-- what a run has when its input was begun and these bytes were taken
pub record HasTaken (seen : Seen) (bytes : List ℕ) : Type 0 where
  pub wanted : Wanted
  pub accepted : seen.settings ≡ Some wanted
  pub no_drill : wanted.drill ≡ None
  pub begun : seen.begun ≡ true
  pub taken : AreTaken seen.inputs wanted.file seen.left bytes
  pub long : length bytes ≤ SCRIPT_LIMIT

-- a cause that is that of a play comes with what it wrote, and with its last lines
pub comes-so : (c : Cause) (seen : Seen) (r : Record) (lines : List ℕ) (p : Played) (s : Settles seen p) → IsCauseOf c p → r ≡ body_of s.1.wanted p → lines ≡ last_lines s.1.wanted c p.asked → Comes c seen r lines
comes-so cause.Ok seen r lines p s h w l = (p, s, h, w, l)
comes-so (cause.Refusals count line) seen r lines p s h w l = (p, s, h, w, l)
comes-so (cause.Script f line) seen r lines p s h w l = (p, s, h, w, l)
comes-so (cause.Budget line) seen r lines p s h w l = (p, s, h, w, l)
comes-so cause.Overlong seen r lines p s h w l = (p, s, h, w, l)
comes-so cause.Usage seen r lines p s h w l = absurd h
comes-so cause.ReadFault seen r lines p s h w l = absurd h
comes-so cause.WriteFault seen r lines p s h w l = absurd h
comes-so cause.Memory seen r lines p s h w l = absurd h

-- and was near
pub near-so : (c : Cause) (seen : Seen) → IsNear c seen → ReadsInOnePass c seen
near-so cause.Ok seen h = h
near-so (cause.Refusals count line) seen h = h
near-so (cause.Script f line) seen h = h
near-so (cause.Budget line) seen h = h
near-so cause.Overlong seen h = tt
near-so cause.Usage seen h = tt
near-so cause.ReadFault seen h = tt
near-so cause.WriteFault seen h = tt
near-so cause.Memory seen h = tt

-- Overlong, or stopped before that was said
abbrev IsOverlongOrStopped : Cause → Type 0
IsOverlongOrStopped c = (c ≡ cause.Overlong) ⊎ (c ≡ cause.WriteFault) ⊎ (c ≡ cause.Memory)

-- a stop says nothing of one pass
pub stopped-pass : (c : Cause) (seen : Seen) → (c ≡ cause.WriteFault) ⊎ (c ≡ cause.Memory) → ReadsInOnePass c seen
stopped-pass c seen (inl e) = subst (λ x. ReadsInOnePass x seen) (sym e) tt
stopped-pass c seen (inr e) = subst (λ x. ReadsInOnePass x seen) (sym e) tt

stopped-short : (c : Cause) → (c ≡ cause.WriteFault) ⊎ (c ≡ cause.Memory) → c ≡ cause.Overlong → ⊥
stopped-short c (inl e) long = let h : cause.WriteFault ≡ cause.Overlong = sym e ∙ long in cc
stopped-short c (inr e) long = let h : cause.Memory ≡ cause.Overlong = sym e ∙ long in cc

-- nothing is told with a stop
pub stopped-untold : (c : Cause) → (c ≡ cause.WriteFault) ⊎ (c ≡ cause.Memory) → tells_counts c ≡ false
stopped-untold c (inl e) = ap tells_counts e
stopped-untold c (inr e) = ap tells_counts e

pub same-wanted : (settings : Option Wanted) (v w : Wanted) → settings ≡ Some v → settings ≡ Some w → v ≡ w
same-wanted settings v w e f = let h : Some v ≡ Some w = sym e ∙ f in cc

module _ (seen : Seen) (bytes : List ℕ) (h : HasTaken seen bytes) where
  reads-input : Reads seen (bytes ++ h.taken.rest)
  reads-input = record { wanted = h.wanted; accepted = h.accepted; script = subst (λ d. IsScript d h.wanted.file seen (bytes ++ h.taken.rest)) (sym h.no_drill) (h.begun, h.taken.input) }

  -- the body is what the play wrote
  all-shown : (p : Played) → p.written ≡ body_of h.wanted p
  all-shown p = ap (λ d. body_in d p) (sym h.no_drill)

  -- where the limit is reached, that many bytes were taken, and their play waits
  reached-play : is_some seen.inputs ≡ true → ReachesLimit seen → (length bytes ≡ SCRIPT_LIMIT) × (p : Played) × Play bytes false h.wanted.budget (keep_of h.wanted) p × (p.ending ≡ waiting)
  reached-play tells (p, w, full) =
      let named : w.wanted ≡ h.wanted = same-wanted seen.settings w.wanted h.wanted w.accepted h.accepted in
      let same : w.bytes ≡ bytes = same-taken seen.inputs h.wanted.file seen.left bytes w.bytes tells h.taken (subst (λ v. IsTaken seen.inputs v.file seen.left w.bytes) named w.taken) in
      (ap length (sym same) ∙ full, p, subst (λ b. Play b false h.wanted.budget (keep_of h.wanted) p) same (subst (λ v. Play w.bytes false v.budget (keep_of v) p) named w.played), w.waits)

  -- what was taken is near
  is-near : (c : Cause) (p : Played) → Settles seen p → IsCauseOf c p → ((place : ℕ) → p.place ≡ Some place → length bytes ≤ place + STATEMENT_LIMIT) → ReadsInOnePass c seen
  is-near c p s caused near = near-so c seen (p, s, caused, λ none place e. (h.wanted, h.accepted, (bytes, is-taken seen.left h.taken, near place e)))

  -- the end of the play of the bytes that were taken, with what is told of its counts
  abbrev ended-so : Cause → Counts → Ended
  ended-so c n = record { cause = c; counts = if h.wanted.stats && tells_counts c then Some n else None }

  -- it closes the run
  pub closes-so : (c : Cause) (r : Record) (kept : Attributes) (n : Counts) → AreCounts kept n → playing.Comes c (plan_of h.wanted) bytes seen.left kept r
      → (c ≡ cause.ReadFault → Rose seen.faults_before seen.faults_after) → IsClosed (ended-so c n) seen r
  unfolding reads-input all-shown
  closes-so c r kept n counts (came.early p d ended caused near k w) rose =
      let s : Settles seen p = (bytes ++ h.taken.rest, reads-input, settled-early SCRIPT_LIMIT h.wanted.budget (keep_of h.wanted) bytes h.taken.rest p h.long ended d) in
      record {
        closes = closed (comes-so c seen r (lines_with c (if h.wanted.stats && tells_counts c then Some n else None)) p s caused (w ∙ all-shown p) (lines-told h.wanted c p.asked kept n k counts));
        overlong = record {
          only = λ e. absurd (ended (subst (λ x. IsCauseOf x p) e caused));
          always = λ tells reaches. let q = reached-play tells reaches in absurd (ended (ap (λ x. x.ending) (one-play h.wanted.budget (keep_of h.wanted) d q.2) ∙ q.3));
        };
        one_pass = is-near c p s caused near;
      }
  closes-so c r kept n counts (came.whole p d all caused near k w) rose =
      let s : Settles seen p = (bytes ++ h.taken.rest, reads-input, settled-whole SCRIPT_LIMIT h.wanted.budget (keep_of h.wanted) bytes h.taken.rest p all.0 (nothing-over seen.left h.taken.rest h.taken.over all.1) d) in
      record {
        closes = closed (comes-so c seen r (lines_with c (if h.wanted.stats && tells_counts c then Some n else None)) p s caused (w ∙ all-shown p) (lines-told h.wanted c p.asked kept n k counts));
        overlong = record {
          only = λ e. absurd (whole-ends d (subst (λ x. IsCauseOf x p) e caused));
          always = λ tells reaches. let q = reached-play tells reaches in absurd (omega (arith, q.0, all.0));
        };
        one_pass = is-near c p s caused near;
      }
  closes-so c r kept n counts (came.waits p d waits (inl how) w) rose =
      let more : WaitsForMore seen p = record { wanted = h.wanted; accepted = h.accepted; no_drill = h.no_drill; begun = h.begun; bytes = bytes; taken = is-taken seen.left h.taken; played = d; waits = waits } in
      subst (λ x. IsClosed (ended-so x n) seen r) (sym how.0) (record {
        closes = closed (rose how.0, inr (p, more, w), ap (lines_with cause.ReadFault) (untold h.wanted.stats false (Some n) None refl));
        overlong = record {
          only = λ e. absurd cc;
          always = λ tells reaches. let q = reached-play tells reaches in absurd (omega (arith, q.0, how.1));
        };
        one_pass = tt;
      })
  closes-so c r kept n counts (came.waits p d waits (inr how) w) rose =
      let more : WaitsForMore seen p = record { wanted = h.wanted; accepted = h.accepted; no_drill = h.no_drill; begun = h.begun; bytes = bytes; taken = is-taken seen.left h.taken; played = d; waits = waits } in
      let s : Settles seen p = (bytes ++ h.taken.rest, reads-input, settled-limit SCRIPT_LIMIT h.wanted.budget (keep_of h.wanted) bytes h.taken.rest p how.1 d) in
      subst (λ x. IsClosed (ended-so x n) seen r) (sym how.0) (record {
        closes = closed (p, s, waits, w ∙ all-shown p, ap (lines_with cause.Overlong) (untold h.wanted.stats false (Some n) None refl) ∙ sym (untold h.wanted.stats false _ (last_line cause.Overlong) refl));
        overlong = record { only = λ e. (p, more, how.1); always = λ tells reaches. inl refl };
        one_pass = tt;
      })
  closes-so c r kept n counts (came.broken how l) rose = record {
    closes = stopped how (untold h.wanted.stats (tells_counts c) (Some n) None (stopped-untold c how))
        (early_in (bytes ++ h.taken.rest) reads-input h.no_drill (left-in-whole SCRIPT_LIMIT h.wanted.budget (keep_of h.wanted) bytes h.taken.rest r h.long l)
        (λ p s. left-front (left-in-whole SCRIPT_LIMIT h.wanted.budget (keep_of h.wanted) bytes h.taken.rest r h.long l) s));
    overlong = record { only = λ e. absurd (stopped-short c how e); always = λ tells reaches. inr how };
    one_pass = stopped-pass c seen how;
  }

-- an end of which no counts are told
abbrev pub bare : Cause → Ended
bare c = record { cause = c; counts = None }

-- an end by its parts
pub same-ended : (e : Ended) (c : Cause) (n : Option Counts) → e.cause ≡ c → e.counts ≡ n → record { cause = c; counts = n } ≡ e
same-ended e c n is counts = ap₂ (λ (x : Cause) (y : Option Counts). record { cause = x; counts = y }) (sym is) (sym counts)

-- an input that could not be begun closes it
pub closed-unbegun : (seen : Seen) → seen.begun ≡ false → Comes cause.ReadFault seen [] (last_line cause.ReadFault) → IsClosed (bare cause.ReadFault) seen []
closed-unbegun seen none h = record {
  closes = closed h;
  overlong = record {
    only = λ e. absurd cc;
    always = λ tells reaches. absurd (let begun = reaches.1.begun in cc (none));
  };
  one_pass = tt;
}

-- want of memory for it does
pub closed-without-memory : (seen : Seen) → IsClosed (bare cause.Memory) seen []
closed-without-memory seen = record {
  closes = stopped (inr refl) refl nothing;
  overlong = record { only = λ e. absurd cc; always = λ tells reaches. inr (inr refl) };
  one_pass = tt;
}

-- what is there is not missing
pub not-both : {A : Type 0} {P : Type 0} (w : Option A) (x : A) → w ≡ None → w ≡ Some x → P
not-both w x e f = absurd (let h : None ≡ Some x = sym e ∙ f in cc)

-- refused words do
pub closed-by-words : (seen : Seen) → seen.settings ≡ None → IsClosed (bare cause.Usage) seen []
closed-by-words seen none = record {
  closes = closed (none, refl, refl);
  overlong = record {
    only = λ e. absurd cc;
    always = λ tells reaches. not-both seen.settings reaches.1.wanted none reaches.1.accepted;
  };
  one_pass = tt;
}

-- whatever comes of the last lines
pub overlong-reported : (c : Ended) (d : Cause) (seen : Seen) (said : List ℕ) (before now : ℕ) → IsOverlongAtLimit c.cause seen → IsReport c said before now d → IsOverlongAtLimit d seen
overlong-reported c d seen said before now h (told t) = subst (λ x. IsOverlongAtLimit x seen) (sym t.same) h
overlong-reported c d seen said before now h (failed e front rose) = record {
  only = λ long. absurd (let k : cause.WriteFault ≡ cause.Overlong = sym e ∙ long in cc);
  always = λ tells reaches. inr (inl e);
}
overlong-reported c d seen said before now h (no_memory e front) = record {
  only = λ long. absurd (let k : cause.Memory ≡ cause.Overlong = sym e ∙ long in cc);
  always = λ tells reaches. inr (inr e);
}

pub pass-reported : (c : Ended) (d : Cause) (seen : Seen) (said : List ℕ) (before now : ℕ) → ReadsInOnePass c.cause seen → IsReport c said before now d → ReadsInOnePass d seen
pass-reported c d seen said before now h (told t) = subst (λ x. ReadsInOnePass x seen) (sym t.same) h
pass-reported c d seen said before now h (failed e front rose) = stopped-pass d seen (inl e)
pass-reported c d seen said before now h (no_memory e front) = stopped-pass d seen (inr e)
