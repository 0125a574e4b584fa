use Rattle.std.proofs.Common.{◌++◌}
use Rattle.std.specs.Prelude.{codes}
use Rattle.sgps_cli.specs.Statistics.{counts_line}
use Rattle.std.proofs.lemmas.Result.{on_ok_weaker}
use Rattle.sgps_cli.proofs.Written.{written-twice}
use Rattle.sgps_cli.proofs.Lines.{front-more, front-after}
use Rattle.sgps_cli.proofs.report.write_counts.Goals as goal

pub returns-in_err-write_count-clause-front : goal.returns-in_err-write_count-clause-front
returns-in_err-write_count-clause-front g c =
    front-more _ _ (counts_line (codes "table") c.args.counts.tables_asked c.args.counts.tables_made) (counts_line (codes "pseudo") c.args.counts.pseudo_asked c.args.counts.pseudo_made ++ (counts_line (codes "presentation") c.args.counts.presentations_asked c.args.counts.presentations_made)) c.write_count.ensures.front

pub returns-in_err-write_count-2-clause-front : goal.returns-in_err-write_count-2-clause-front
returns-in_err-write_count-2-clause-front g c =
    front-after _ _ _ (counts_line (codes "table") c.args.counts.tables_asked c.args.counts.tables_made) (counts_line (codes "pseudo") c.args.counts.pseudo_asked c.args.counts.pseudo_made ++ (counts_line (codes "presentation") c.args.counts.presentations_asked c.args.counts.presentations_made)) c.in_ok-write_count.ensures.all
    (front-more _ _ (counts_line (codes "pseudo") c.args.counts.pseudo_asked c.args.counts.pseudo_made) (counts_line (codes "presentation") c.args.counts.presentations_asked c.args.counts.presentations_made) c.write_count-2.ensures.front)

pub returns-clause-all : goal.returns-clause-all
returns-clause-all g c = on_ok_weaker c.write_count-3.result
    (λ e.
    written-twice _ _ _ (counts_line (codes "table") c.args.counts.tables_asked c.args.counts.tables_made) (counts_line (codes "pseudo") c.args.counts.pseudo_asked c.args.counts.pseudo_made ++ (counts_line (codes "presentation") c.args.counts.presentations_asked c.args.counts.presentations_made)) c.in_ok-write_count.ensures.all
    (written-twice _ _ _ (counts_line (codes "pseudo") c.args.counts.pseudo_asked c.args.counts.pseudo_made) (counts_line (codes "presentation") c.args.counts.presentations_asked c.args.counts.presentations_made) c.in_ok-write_count-2.ensures.all
    (e)))
    c.write_count-3.ensures.all

pub returns-clause-front : goal.returns-clause-front
returns-clause-front g c =
    front-after _ _ _ (counts_line (codes "table") c.args.counts.tables_asked c.args.counts.tables_made) (counts_line (codes "pseudo") c.args.counts.pseudo_asked c.args.counts.pseudo_made ++ (counts_line (codes "presentation") c.args.counts.presentations_asked c.args.counts.presentations_made)) c.in_ok-write_count.ensures.all
    (front-after _ _ _ (counts_line (codes "pseudo") c.args.counts.pseudo_asked c.args.counts.pseudo_made) (counts_line (codes "presentation") c.args.counts.presentations_asked c.args.counts.presentations_made) c.in_ok-write_count-2.ensures.all
    (c.write_count-3.ensures.front))
