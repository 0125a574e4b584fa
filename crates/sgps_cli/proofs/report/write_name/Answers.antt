use Rattle.std.proofs.Common.{◌++◌, subst}
use Rattle.std.specs.Prelude.{codes}
use Rattle.sg_io.specs.Faults.{AppendsFront}
use Rattle.sg_play.specs.FaultLines.{name_of}
use Rattle.sgps_cli.proofs.Lines.{front-more, front-after}
use Rattle.sgps_cli.proofs.report.write_name.Goals as goal

pub returns-in_err-write_whole-clause-front : goal.returns-in_err-write_whole-clause-front
returns-in_err-write_whole-clause-front g c =
    front-more _ _ (name_of c.args.fault) (codes "\n")
    (subst (λ n. AppendsFront (g.E.Sink.taken c.args.err.now) (g.E.Sink.taken c.write_whole.new.sink) n) c.fault_name.ensures c.write_whole.ensures.front)

pub returns-clause-front : goal.returns-clause-front
returns-clause-front g c =
    subst (λ n. AppendsFront (g.E.Sink.taken c.args.err.now) (g.E.Sink.taken c.write_whole-2.new.sink) (n ++ codes "\n")) c.fault_name.ensures
    (front-after _ _ _ c.fault_name.result.now (codes "\n") c.in_ok-write_whole.ensures.all c.write_whole-2.ensures.front)
