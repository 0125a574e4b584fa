use Rattle.std.proofs.Common.{◌≡◌, true, false, [], refl, sym, ap, subst, ◌∙◌, inl, inr}
use Rattle.sg_drill.specs.Summary.{summary_of}
use Rattle.sg_drill.specs.Tally.{printed}
use Rattle.sg_words.specs.Asked.{wanted_of}
use Rattle.sg_words.specs.Settings.{Wanted}
use Rattle.sg_play.specs.Record.{marked, out}
use Rattle.sgps_cli.specs.Drilled.{Drills, is_done}
use Rattle.sgps_cli.specs.Ends.{IsClosed}
use Rattle.sgps_cli.specs.Settled.{plan_of}
use Rattle.sgps_cli.specs.declared.ending.Cause.TheVariants as cause
use Rattle.sgps_cli.proofs.Written.{unchanged, wrote-out}
use Rattle.sgps_cli.proofs.Closing.{same-ended}
use Rattle.sgps_cli.proofs.Drilling.{closed-shown, closed-silent, closed-stopped}
use Rattle.sgps_cli.proofs.settle.play_drill.Goals as goal
use Rattle.sgps_cli.proofs.settle.play_drill.Goals.{then-is_done+in-Ok, else-is_done}

pub returns-in-Err-Failed-clause-ends : goal.returns-in-Err-Failed-clause-ends
returns-in-Err-Failed-clause-ends g c = λ seen on_err accepted.
    let wanted : Wanted = wanted_of c.args.settings in
    let finish = c.drill-finish.result in
    let text = printed c.drill-finish.new.tally in
    let plays = c.drill-finish.ensures.drills in
    let drilled : Drills finish.cause (plan_of wanted) c.args.statements plays.0 text = subst (λ k. Drills finish.cause k c.args.statements plays.0 text) c.plan_of.ensures plays.2 in
    let all : is_done finish.cause ≡ true = sym c.is_done.ensures ∙ c.if-is_done.true in
    let written = c.show.ensures.front in (
      marked out written.1.0,
      wrote-out _ _ written.1.0 written.1.2 refl,
      subst (λ e. IsClosed e seen (marked out written.1.0)) (same-ended c.bare.result _ _ c.bare.ensures.cause c.bare.ensures.counts)
          (closed-stopped seen wanted c.args.statements accepted c.requires.named c.requires.few finish.cause plays.0 text written.1.0 written.0 cause.WriteFault (inl refl) drilled all written.1.1),
    )

pub returns-in-Err-Memory-clause-ends : goal.returns-in-Err-Memory-clause-ends
returns-in-Err-Memory-clause-ends g c = λ seen on_err accepted.
    let wanted : Wanted = wanted_of c.args.settings in
    let finish = c.drill-finish.result in
    let text = printed c.drill-finish.new.tally in
    let plays = c.drill-finish.ensures.drills in
    let drilled : Drills finish.cause (plan_of wanted) c.args.statements plays.0 text = subst (λ k. Drills finish.cause k c.args.statements plays.0 text) c.plan_of.ensures plays.2 in
    let all : is_done finish.cause ≡ true = sym c.is_done.ensures ∙ c.if-is_done.true in
    let written = c.show.ensures.front in (
      marked out written.1.0,
      wrote-out _ _ written.1.0 written.1.2 refl,
      subst (λ e. IsClosed e seen (marked out written.1.0)) (same-ended c.bare-in-Err-Memory.result _ _ c.bare-in-Err-Memory.ensures.cause c.bare-in-Err-Memory.ensures.counts)
          (closed-stopped seen wanted c.args.statements accepted c.requires.named c.requires.few finish.cause plays.0 text written.1.0 written.0 cause.Memory (inr refl) drilled all written.1.1),
    )

pub returns-clause-ends : goal.returns-clause-ends
returns-clause-ends g c = λ seen on_err accepted.
    let wanted : Wanted = wanted_of c.args.settings in
    let finish = c.drill-finish.result in
    let text = printed c.drill-finish.new.tally in
    let plays = c.drill-finish.ensures.drills in
    let drilled : Drills finish.cause (plan_of wanted) c.args.statements plays.0 text = subst (λ k. Drills finish.cause k c.args.statements plays.0 text) c.plan_of.ensures plays.2 in
    let told = same-ended c.told.result _ _ c.told.ensures.cause c.told.ensures.counts in
    elim c.if-is_done.branch [
      | then-is_done+in-Ok w ↦ (
        marked out (summary_of c.args.statements text),
        wrote-out _ _ (summary_of c.args.statements text) (ap g.W.Sink.taken w.out-is ∙ w.in-Ok.ensures.all) refl,
        subst (λ e. IsClosed e seen (marked out (summary_of c.args.statements text))) told
            (closed-shown seen wanted c.args.statements accepted c.requires.named c.requires.few finish.cause plays.0 finish.counts text plays.1 drilled (sym c.is_done.ensures ∙ w.if-is_done.true)),
      )
      | else-is_done w ↦ (
        [],
        wrote-out _ _ [] (ap g.W.Sink.taken w.out-is ∙ unchanged (g.W.Sink.taken c.args.out.now)) refl,
        subst (λ e. IsClosed e seen []) told
            (closed-silent seen wanted c.args.statements accepted c.requires.named c.requires.few finish.cause plays.0 finish.counts text plays.1 drilled (sym c.is_done.ensures ∙ w.if-is_done.false)),
      )
    ]
