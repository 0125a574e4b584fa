use Rattle.std.proofs.Common.{◌≡◌, [], refl, sym, ap, ◌∙◌}
use Rattle.std.specs.Io.KnownBytes.{append_known}
use Rattle.std.proofs.lemmas.Result.{on_ok_weaker}
use Rattle.sg_drill.specs.Summary.{summary_of}
use Rattle.sg_drill.specs.Tally.{printed}
use Rattle.sgps_cli.proofs.Written.{unchanged}
use Rattle.sgps_cli.proofs.drill.show.Goals as goal

pub returns-in_default-clause-front : goal.returns-in_default-clause-front
returns-in_default-clause-front g c = (summary_of c.args.statements (printed c.args.tally.now), ([], refl, unchanged (g.W.Sink.taken c.args.out.now)))

pub returns-clause-all : goal.returns-clause-all
returns-clause-all g c = on_ok_weaker c.write_whole.result (λ e. e ∙ ap (append_known (g.W.Sink.taken c.args.out.now)) (c.as_bytes.ensures.value ∙ c.in-Ok.ensures)) c.write_whole.ensures.all
