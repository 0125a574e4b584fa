use Rattle.std.proofs.Common.{refl, sym, ◌∙◌}
use Rattle.std.specs.Prelude.{map, string_bytes}
use Rattle.sg_words.specs.Settings.{settings_of}
use Rattle.sgps_cli.specs.Written.{Sinks}
use Rattle.sgps_cli.specs.Ends.{Seen, SinkFaults}
use Rattle.sgps_cli.proofs.Endings.{run-ends, ends-well, input-there, none-rose}
use Rattle.sgps_cli.proofs.Closing.{overlong-reported, pass-reported}
use Rattle.sgps_cli.proofs.program.run.Goals as goal

pub returns-clause-ends : goal.returns-clause-ends
returns-clause-ends g c =
    let e = c.settle-ended.ensures.ends in
    let r = c.report-cause.ensures.said in
    run-ends c.settle-ended.result c.report-cause.result _ _ _ _ _ _ e.0 r.0 e.1 refl r.1 e.2.closes r.2 c.settle-ended.ensures.err_faults c.report-cause.ensures.later c.settle-ended.ensures.write_fault

pub returns-clause-complete : goal.returns-clause-complete
returns-clause-complete g c = λ q s o e.
    let seen : Seen = record { settings = settings_of (map string_bytes c.args.words.now); inputs = g.S.Source.inputs c.args.source.now; begun = g.S.Source.begun c.settle-ended.new.source; left = g.S.Source.left c.settle-ended.new.source; faults_before = g.S.Source.faults c.args.source.now; faults_after = g.S.Source.faults c.settle-ended.new.source } in
    let old : Sinks = record { on_out = g.W.Sink.taken c.args.out.now; on_err = g.E.Sink.taken c.args.err.now } in
    let new : Sinks = record { on_out = g.W.Sink.taken c.settle-ended.new.out; on_err = g.E.Sink.taken c.report-cause.new.err } in
    let f : SinkFaults = record { out_before = g.W.Sink.faults c.args.out.now; out_after = g.W.Sink.faults c.settle-ended.new.out; err_before = g.E.Sink.faults c.args.err.now; err_after = g.E.Sink.faults c.report-cause.new.err } in
    ends-well c.report-cause.result seen old new f (returns-clause-ends g c) q s o e

pub returns-clause-complete_if_sure : goal.returns-clause-complete_if_sure
returns-clause-complete_if_sure g c = λ q s n o e.
    let still = g.met.S.Source.sure_tells c.args.source.now s in
    let later = g.met.S.Source.sure_tells c.settle-ended.new.source (c.settle-ended.ensures.source_sure ∙ s) in
    returns-clause-complete g c q
    (none-rose _ _ n (later.1 ∙ c.settle-ended.ensures.missing (input-there _ _ q) ∙ sym still.1 ∙ n))
    (none-rose _ _ (g.met.W.Sink.sure_means c.args.out.now o) (g.met.W.Sink.sure_means c.settle-ended.new.out (c.settle-ended.ensures.out_sure ∙ o)))
    (none-rose _ _ (g.met.E.Sink.sure_means c.args.err.now e) (g.met.E.Sink.sure_means c.report-cause.new.err (c.report-cause.ensures.sure ∙ c.settle-ended.ensures.err_sure ∙ e)))

pub returns-clause-overlong : goal.returns-clause-overlong
returns-clause-overlong g c =
    let e = c.settle-ended.ensures.ends in
    let r = c.report-cause.ensures.said in
    overlong-reported c.settle-ended.result c.report-cause.result _ r.0 _ _ e.2.overlong r.2

pub returns-clause-one_pass : goal.returns-clause-one_pass
returns-clause-one_pass g c =
    let e = c.settle-ended.ensures.ends in
    let r = c.report-cause.ensures.said in
    pass-reported c.settle-ended.result c.report-cause.result _ r.0 _ _ e.2.one_pass r.2
