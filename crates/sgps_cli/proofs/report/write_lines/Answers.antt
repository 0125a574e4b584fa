use Rattle.std.proofs.Common.{sym, subst}
use Rattle.std.specs.Prelude.{Some}
use Rattle.sg_io.specs.Faults.{AppendsFront}
use Rattle.sgps_cli.specs.Causes.{last_line}
use Rattle.sgps_cli.specs.Statistics.{counts_lines, lines_with}
use Rattle.sgps_cli.proofs.Lines.{front-more, front-after}
use Rattle.sgps_cli.proofs.report.write_lines.Goals as goal

pub returns-in_err-write_line-in-Some-clause-front : goal.returns-in_err-write_line-in-Some-clause-front
returns-in_err-write_line-in-Some-clause-front g c =
    let n = c.in-Some.counts in
    subst (λ o. AppendsFront (g.E.Sink.taken c.args.err.now) (g.E.Sink.taken c.write_line-in-Some.new.err) (lines_with c.args.ended.cause o)) (sym c.in-Some.is)
    (front-more _ _ (last_line c.args.ended.cause) (counts_lines n) c.write_line-in-Some.ensures.front)

pub returns-in_ok-write_line-in-Some-clause-front : goal.returns-in_ok-write_line-in-Some-clause-front
returns-in_ok-write_line-in-Some-clause-front g c =
    let n = c.in-Some.counts in
    subst (λ o. AppendsFront (g.E.Sink.taken c.args.err.now) (g.E.Sink.taken c.write_counts.new.err) (lines_with c.args.ended.cause o)) (sym c.in-Some.is)
    (front-after _ _ _ (last_line c.args.ended.cause) (counts_lines n) c.in_ok-write_line-in-Some.ensures.all c.write_counts.ensures.front)
