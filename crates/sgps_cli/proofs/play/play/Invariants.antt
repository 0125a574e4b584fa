use Rattle.std.proofs.Common.{◌≡◌, ◌≤◌, true}
use Rattle.sg_eval.specs.Machine.{state_of}
use Rattle.sgps_cli.specs.Playing.{IsReached, work_of}
use Rattle.sgps_cli.proofs.play.play.Given as goal

-- the play has come so far, and nothing else of the source and the sinks changed
abbrev pub invariant-loop-now : goal.invariant-loop-now
invariant-loop-now g l =
    let source = g.S.Source in
    let out = g.W.Sink in
    let err = g.E.Sink in
    record {
      reached : IsReached (record { plan = l.fn.plan; all = source.left l.fn.source; sinks = record { on_out = out.taken l.fn.out; on_err = err.taken l.fn.err } }) l.window (state_of l.machine) l.passed (source.left l.source) (record { on_out = out.taken l.out; on_err = err.taken l.err });
      begun : source.begun l.source ≡ true;
      source_later : source.faults l.fn.source ≤ source.faults l.source;
      out_later : out.faults l.fn.out ≤ out.faults l.out;
      err_later : err.faults l.fn.err ≤ err.faults l.err;
      missing : source.missing l.source ≡ source.missing l.fn.source;
      inputs : source.inputs l.source ≡ source.inputs l.fn.source;
      source_sure : source.sure l.source ≡ source.sure l.fn.source;
      out_sure : out.sure l.out ≡ out.sure l.fn.out;
      err_sure : err.sure l.err ≡ err.sure l.fn.err;
    }

abbrev pub decreases-loop-now : goal.decreases-loop-now
decreases-loop-now g l = work_of l.window
