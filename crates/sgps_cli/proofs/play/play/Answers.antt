use Rattle.std.proofs.Common.{refl, sym, ap, subst, ◌∙◌, inl, inr, arith}
use Rattle.sg_eval.specs.Machine.{state_of}
use Rattle.sgps_cli.specs.Playing.{Begun, Concludes}
use Rattle.sgps_cli.specs.Written.{Sinks}
use Rattle.sgps_cli.specs.declared.play.Turn.TheVariants as turn
use Rattle.sgps_cli.proofs.Endings.{rose-later}
use Rattle.sg_store.specs.Attributes.{AreCounts, nothing_asked}
use Rattle.sgps_cli.proofs.Turning.{reached-first, without-memory}
use Rattle.sgps_cli.proofs.Measured.{counted-fits}
use Rattle.sgps_cli.proofs.play.play.Goals as goal

pub take_turn-requires-clause-fits : goal.take_turn-requires-clause-fits
take_turn-requires-clause-fits g c = counted-fits c.loop-now.invariant.reached

pub returns-in-Err-clause-plays : goal.returns-in-Err-clause-plays
returns-in-Err-clause-plays g c =
    let b : Begun = record { plan = c.args.plan; all = g.S.Source.left c.args.source.now; sinks = record { on_out = g.W.Sink.taken c.args.out.now; on_err = g.E.Sink.taken c.args.err.now } } in
    let now : Sinks = b.sinks in (
      nothing_asked 0,
      c.unplayed.ensures.counts,
      subst (λ x. Concludes x b (nothing_asked 0) b.all now) (sym c.unplayed.ensures.cause) (without-memory b (nothing_asked 0)),
    )

pub returns-in-Err-new-clause-plays : goal.returns-in-Err-new-clause-plays
returns-in-Err-new-clause-plays g c =
    let b : Begun = record { plan = c.args.plan; all = g.S.Source.left c.args.source.now; sinks = record { on_out = g.W.Sink.taken c.args.out.now; on_err = g.E.Sink.taken c.args.err.now } } in
    let now : Sinks = b.sinks in (
      nothing_asked 0,
      c.unplayed-in-Err-new.ensures.counts,
      subst (λ x. Concludes x b (nothing_asked 0) b.all now) (sym c.unplayed-in-Err-new.ensures.cause) (without-memory b (nothing_asked 0)),
    )

pub loop-now-init : goal.loop-now-init
loop-now-init g c =
    let b : Begun = record { plan = c.args.plan; all = g.S.Source.left c.args.source.now; sinks = record { on_out = g.W.Sink.taken c.args.out.now; on_err = g.E.Sink.taken c.args.err.now } } in
    record {
      reached = reached-first b c.in-Ok.window (state_of c.new-machine.result) c.in-Ok.ensures c.new-machine.ensures.variables (c.new-machine.ensures.attributes ∙ c.in-Ok-new.ensures.attributes) c.new-machine.ensures.budget;
      begun = c.requires;
      source_later = omega arith;
      out_later = omega arith;
      err_later = omega arith;
      missing = refl;
      inputs = refl;
      source_sure = refl;
      out_sure = refl;
      err_sure = refl;
    }

pub loop-now-preserved : goal.loop-now-preserved
loop-now-preserved g c =
    let b : Begun = record { plan = c.args.plan; all = g.S.Source.left c.args.source.now; sinks = record { on_out = g.W.Sink.taken c.args.out.now; on_err = g.E.Sink.taken c.args.err.now } } in
    let i = c.loop-now.invariant in
    let e = c.in-Goes.ensures in
    record {
      reached = e.turns b i.reached;
      begun = e.begun;
      source_later = omega (arith, i.source_later, e.source_faults);
      out_later = omega (arith, i.out_later, e.out_faults);
      err_later = omega (arith, i.err_later, e.err_faults);
      missing = e.missing ∙ i.missing;
      inputs = e.inputs ∙ i.inputs;
      source_sure = e.source_sure ∙ i.source_sure;
      out_sure = e.out_sure ∙ i.out_sure;
      err_sure = e.err_sure ∙ i.err_sure;
    }

pub returns-in-Stops-clause-plays : goal.returns-in-Stops-clause-plays
returns-in-Stops-clause-plays g c =
    let b : Begun = record { plan = c.args.plan; all = g.S.Source.left c.args.source.now; sinks = record { on_out = g.W.Sink.taken c.args.out.now; on_err = g.E.Sink.taken c.args.err.now } } in
    let now : Sinks = record { on_out = g.W.Sink.taken c.take_turn.new.out; on_err = g.E.Sink.taken c.take_turn.new.err } in
    let kept = (state_of c.take_turn.new.machine).attributes in (
      kept,
      subst (AreCounts kept) (sym c.new-in-Stops.ensures.counts) c.counts.ensures,
      subst (λ x. Concludes x b kept (g.S.Source.left c.take_turn.new.source) now) (sym c.new-in-Stops.ensures.cause) (c.in-Stops.ensures.turns b c.loop-now.invariant.reached),
    )

-- what a play stops at is what it ends with
pub returns-in-Stops-clause-read_fault : goal.returns-in-Stops-clause-read_fault
returns-in-Stops-clause-read_fault g c = λ e.
    let i = c.loop-now.invariant in
    rose-later _ _ _ i.source_later (c.in-Stops.ensures.read_fault (ap turn.Stops (sym c.new-in-Stops.ensures.cause ∙ e)))

pub returns-in-Stops-clause-write_fault : goal.returns-in-Stops-clause-write_fault
returns-in-Stops-clause-write_fault g c = λ e.
    let i = c.loop-now.invariant in
    elim (c.in-Stops.ensures.write_fault (ap turn.Stops (sym c.new-in-Stops.ensures.cause ∙ e))) [
      | inl r ↦ inl (rose-later _ _ _ i.out_later r)
      | inr r ↦ inr (rose-later _ _ _ i.err_later r)
    ]
