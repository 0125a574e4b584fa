use Rattle.std.proofs.Common.{refl, ap, ◌∙◌, inl, inr}
use Rattle.std.specs.Prelude.{◌++◌, Ok, Err}
use Rattle.sg_eval.specs.Machine.{state_of}
use Rattle.sg_play.specs.FaultLines.{fault_line}
use Rattle.sg_play.specs.Record.{marked, out, err}
use Rattle.sgps_cli.specs.Written.{Sinks}
use Rattle.sgps_cli.proofs.Written.{wrote-out, wrote-err, wrote-twice}
use Rattle.sgps_cli.proofs.Acting.{acts-on, acts-quit, acts-refused, acts-passed, acts-told, acts-write, acts-memory}
use Rattle.sgps_cli.proofs.play.perform.Goals as goal

pub returns-in-Ok-On-clause-acts : goal.returns-in-Ok-On-clause-acts
returns-in-Ok-On-clause-acts g c =
    let e = c.execute.ensures.executed in (
      marked out e.0,
      wrote-out _ _ e.0 e.1 refl,
      acts-on c.args.text.now c.args.line c.args.passed (state_of c.args.machine.now) (state_of c.execute.new.machine) e.0 c.execute.ensures.budget c.args.keep c.execute.result (c.in-Ok-On.is ∙ ap Ok c.in-Ok-On.field-0-is) e.2,
    )

pub returns-in-Ok-Quit-clause-acts : goal.returns-in-Ok-Quit-clause-acts
returns-in-Ok-Quit-clause-acts g c =
    let e = c.execute.ensures.executed in (
      marked out e.0,
      wrote-out _ _ e.0 e.1 refl,
      acts-quit c.args.text.now c.args.line c.args.passed (state_of c.args.machine.now) (state_of c.execute.new.machine) e.0 c.execute.ensures.budget c.args.keep c.execute.result c.end.result (c.in-Ok-Quit.is ∙ ap Ok c.in-Ok-Quit.field-0-is) c.end.ensures e.2,
    )

pub returns-in-Err-Write-clause-acts : goal.returns-in-Err-Write-clause-acts
returns-in-Err-Write-clause-acts g c =
    let e = c.execute.ensures.executed in (
      marked out e.0,
      wrote-out _ _ e.0 e.1 refl,
      acts-write c.args.text.now c.args.line c.args.passed (state_of c.args.machine.now) (state_of c.execute.new.machine) e.0 c.execute.ensures.budget c.args.keep c.execute.result (c.in-Err-Write.is ∙ ap Err c.in-Err-Write.field-0-is) e.2,
    )

pub returns-in-Err-Memory-clause-acts : goal.returns-in-Err-Memory-clause-acts
returns-in-Err-Memory-clause-acts g c =
    let e = c.execute.ensures.executed in (
      marked out e.0,
      wrote-out _ _ e.0 e.1 refl,
      acts-memory c.args.text.now c.args.line c.args.passed (state_of c.args.machine.now) (state_of c.execute.new.machine) e.0 c.execute.ensures.budget c.args.keep c.execute.result (c.in-Err-Memory.is ∙ ap Err c.in-Err-Memory.field-0-is) e.2,
    )

pub returns-then-not-keep-clause-acts : goal.returns-then-not-keep-clause-acts
returns-then-not-keep-clause-acts g c =
    let e = c.execute.ensures.executed in (
      marked out e.0,
      wrote-out _ _ e.0 e.1 refl,
      acts-refused c.args.text.now c.args.line c.args.passed (state_of c.args.machine.now) (state_of c.execute.new.machine) e.0 c.execute.ensures.budget c.args.keep c.execute.result c.in-Err-Script.fault c.refusal.result c.if-not-keep.true
          (c.in-Err-Script.is ∙ ap Err c.in-Err-Script.field-0-is) c.refusal.ensures e.2,
    )

pub returns-in-Ok-clause-acts : goal.returns-in-Ok-clause-acts
returns-in-Ok-clause-acts g c =
    let e = c.execute.ensures.executed in
    let f = c.in-Err-Script.fault in
    let old : Sinks = record { on_out = g.W.Sink.taken c.args.out.now; on_err = g.E.Sink.taken c.args.err.now } in
    let mid : Sinks = record { on_out = g.W.Sink.taken c.execute.new.out; on_err = g.E.Sink.taken c.args.err.now } in
    let new : Sinks = record { on_out = g.W.Sink.taken c.execute.new.out; on_err = g.E.Sink.taken c.write_fault.new.err } in (
      marked out e.0 ++ marked err (fault_line f c.args.line),
      wrote-twice old mid new (marked out e.0) (marked err (fault_line f c.args.line)) (wrote-out old mid e.0 e.1 refl) (wrote-err mid new (fault_line f c.args.line) refl c.in-Ok.ensures.all),
      acts-passed c.args.text.now c.args.line c.args.passed (state_of c.args.machine.now) (state_of c.execute.new.machine) e.0 c.execute.ensures.budget c.args.keep c.execute.result f c.and_one.result c.if-not-keep.false
          (c.in-Err-Script.is ∙ ap Err c.in-Err-Script.field-0-is) c.and_one.ensures e.2,
    )

pub returns-in-Err-Failed-clause-acts : goal.returns-in-Err-Failed-clause-acts
returns-in-Err-Failed-clause-acts g c =
    let e = c.execute.ensures.executed in
    let f = c.in-Err-Script.fault in
    let said = c.write_fault.ensures.front in
    let old : Sinks = record { on_out = g.W.Sink.taken c.args.out.now; on_err = g.E.Sink.taken c.args.err.now } in
    let mid : Sinks = record { on_out = g.W.Sink.taken c.execute.new.out; on_err = g.E.Sink.taken c.args.err.now } in
    let new : Sinks = record { on_out = g.W.Sink.taken c.execute.new.out; on_err = g.E.Sink.taken c.write_fault.new.err } in (
      marked out e.0 ++ marked err said.1.0,
      wrote-twice old mid new (marked out e.0) (marked err said.1.0) (wrote-out old mid e.0 e.1 refl) (wrote-err mid new said.1.0 refl said.1.2),
      acts-told c.args.text.now c.args.line c.args.passed (state_of c.args.machine.now) (state_of c.execute.new.machine) e.0 c.execute.ensures.budget c.args.keep c.execute.result f _ said.1.0 said.0 c.if-not-keep.false
          (c.in-Err-Script.is ∙ ap Err c.in-Err-Script.field-0-is) said.1.1 (inl refl) e.2,
    )

pub returns-in-Err-Memory-write_fault-clause-acts : goal.returns-in-Err-Memory-write_fault-clause-acts
returns-in-Err-Memory-write_fault-clause-acts g c =
    let e = c.execute.ensures.executed in
    let f = c.in-Err-Script.fault in
    let said = c.write_fault.ensures.front in
    let old : Sinks = record { on_out = g.W.Sink.taken c.args.out.now; on_err = g.E.Sink.taken c.args.err.now } in
    let mid : Sinks = record { on_out = g.W.Sink.taken c.execute.new.out; on_err = g.E.Sink.taken c.args.err.now } in
    let new : Sinks = record { on_out = g.W.Sink.taken c.execute.new.out; on_err = g.E.Sink.taken c.write_fault.new.err } in (
      marked out e.0 ++ marked err said.1.0,
      wrote-twice old mid new (marked out e.0) (marked err said.1.0) (wrote-out old mid e.0 e.1 refl) (wrote-err mid new said.1.0 refl said.1.2),
      acts-told c.args.text.now c.args.line c.args.passed (state_of c.args.machine.now) (state_of c.execute.new.machine) e.0 c.execute.ensures.budget c.args.keep c.execute.result f _ said.1.0 said.0 c.if-not-keep.false
          (c.in-Err-Script.is ∙ ap Err c.in-Err-Script.field-0-is) said.1.1 (inr refl) e.2,
    )
