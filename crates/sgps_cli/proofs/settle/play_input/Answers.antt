use Rattle.std.proofs.Common.{[], refl, sym, ap, subst, ◌∙◌, inl, arith}
use Rattle.std.specs.Prelude.{is_some, Some}
use Rattle.sg_words.specs.Asked.{wanted_of}
use Rattle.sgps_cli.specs.Playing as playing
use Rattle.sgps_cli.proofs.Written.{wrote-none}
use Rattle.sgps_cli.proofs.Beginning.{of-ok, of-err}
use Rattle.sgps_cli.proofs.Settling.{AreTaken, are-taken, is-taken}
use Rattle.sgps_cli.specs.Ends.{IsClosed, Seen}
use Rattle.sgps_cli.proofs.Closing.{HasTaken, closes-so, closed-unbegun, same-ended}
use Rattle.sgps_cli.proofs.Endings.{rose-later}
use Rattle.sgps_cli.proofs.settle.play_input.Goals as goal

pub returns-clause-ends : goal.returns-clause-ends
returns-clause-ends g c =
    let plays = c.play-finish.ensures.plays in
    let p = plays.2 in
    let taken : AreTaken (g.S.Source.inputs c.args.source.now) (wanted_of c.args.settings).file (g.S.Source.left c.play-finish.new.source) p.bytes =
    are-taken _ _ (g.S.Source.left c.begin.new.self) _ p.bytes
    (of-ok c.begin.result (sym c.is_err.ensures.value ∙ c.if-is_err.false) c.begin.ensures.whole)
    (g.met.S.Source.tells_both c.begin.new.self ∙ ap is_some c.begin.ensures.inputs) p.told in
    let seen : Seen = record { settings = Some (wanted_of c.args.settings); inputs = g.S.Source.inputs c.args.source.now; begun = g.S.Source.begun c.play-finish.new.source; left = g.S.Source.left c.play-finish.new.source; faults_before = g.S.Source.faults c.args.source.now; faults_after = g.S.Source.faults c.play-finish.new.source } in
    let has : HasTaken seen p.bytes = record { wanted = wanted_of c.args.settings; accepted = refl; no_drill = c.requires.no_drill; begun = c.play-finish.ensures.begun; taken = taken; long = p.within } in (
      p.written,
      p.wrote,
      subst (λ e. IsClosed e seen p.written) (same-ended c.told.result _ _ c.told.ensures.cause c.told.ensures.counts)
          (closes-so seen p.bytes has c.play-finish.result.cause p.written plays.0 c.play-finish.result.counts plays.1
          (subst (λ k. playing.Comes c.play-finish.result.cause k p.bytes (g.S.Source.left c.play-finish.new.source) plays.0 p.written) c.plan_of.ensures p.comes)
          (λ e. rose-later _ _ _ c.begin.ensures.cause.later (c.play-finish.ensures.read_fault e))),
    )

pub returns-then-is_err-clause-ends : goal.returns-then-is_err-clause-ends
returns-then-is_err-clause-ends g c =
    let is_error = sym c.is_err.ensures.value ∙ c.if-is_err.true in
    let failed = of-err c.begin.result is_error c.begin.ensures.failed in
    let seen : Seen = record { settings = Some (wanted_of c.args.settings); inputs = g.S.Source.inputs c.args.source.now; begun = g.S.Source.begun c.begin.new.self; left = g.S.Source.left c.begin.new.self; faults_before = g.S.Source.faults c.args.source.now; faults_after = g.S.Source.faults c.begin.new.self } in (
      [],
      wrote-none _,
      subst (λ e. IsClosed e seen []) (same-ended c.bare.result _ _ c.bare.ensures.cause c.bare.ensures.counts)
          (closed-unbegun seen failed.0 (of-err c.begin.result is_error c.begin.ensures.cause.failed, inl ((wanted_of c.args.settings, refl, c.requires.no_drill, failed.0), refl), refl)),
    )

pub returns-clause-taken : goal.returns-clause-taken
returns-clause-taken g c = λ b.
    let p = c.play-finish.ensures.plays.2 in (
      p.bytes,
      is-taken _ (are-taken _ (wanted_of c.args.settings).file (g.S.Source.left c.begin.new.self) (g.S.Source.left c.play-finish.new.source) p.bytes
          (of-ok c.begin.result (sym c.is_err.ensures.value ∙ c.if-is_err.false) c.begin.ensures.whole)
          (g.met.S.Source.tells_both c.begin.new.self ∙ ap is_some c.begin.ensures.inputs) p.told),
      p.within,
    )
