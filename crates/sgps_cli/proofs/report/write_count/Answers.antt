use Rattle.std.proofs.Common.{◌++◌}
use Rattle.std.specs.Prelude.{codes, decimal}
use Rattle.std.proofs.lemmas.Result.{on_ok_weaker}
use Rattle.sgps_cli.proofs.Written.{written-twice}
use Rattle.sgps_cli.proofs.Lines.{front-more, front-after}
use Rattle.sgps_cli.proofs.report.write_count.Goals as goal

pub returns-in_err-write_whole-clause-front : goal.returns-in_err-write_whole-clause-front
returns-in_err-write_whole-clause-front g c =
    front-more _ _ c.args.name.now (codes " asked " ++ (decimal c.args.asked ++ (codes " made " ++ (decimal c.args.made ++ (codes "\n"))))) c.write_whole.ensures.front

pub returns-in_err-write_whole-2-clause-front : goal.returns-in_err-write_whole-2-clause-front
returns-in_err-write_whole-2-clause-front g c =
    front-after _ _ _ c.args.name.now (codes " asked " ++ (decimal c.args.asked ++ (codes " made " ++ (decimal c.args.made ++ (codes "\n"))))) c.in_ok-write_whole.ensures.all
    (front-more _ _ (codes " asked ") (decimal c.args.asked ++ (codes " made " ++ (decimal c.args.made ++ (codes "\n")))) c.write_whole-2.ensures.front)

pub returns-in_err-write_number-clause-front : goal.returns-in_err-write_number-clause-front
returns-in_err-write_number-clause-front g c =
    front-after _ _ _ c.args.name.now (codes " asked " ++ (decimal c.args.asked ++ (codes " made " ++ (decimal c.args.made ++ (codes "\n"))))) c.in_ok-write_whole.ensures.all
    (front-after _ _ _ (codes " asked ") (decimal c.args.asked ++ (codes " made " ++ (decimal c.args.made ++ (codes "\n")))) c.in_ok-write_whole-2.ensures.all
    (front-more _ _ (decimal c.args.asked) (codes " made " ++ (decimal c.args.made ++ (codes "\n"))) c.write_number.ensures.front))

pub returns-in_err-write_whole-3-clause-front : goal.returns-in_err-write_whole-3-clause-front
returns-in_err-write_whole-3-clause-front g c =
    front-after _ _ _ c.args.name.now (codes " asked " ++ (decimal c.args.asked ++ (codes " made " ++ (decimal c.args.made ++ (codes "\n"))))) c.in_ok-write_whole.ensures.all
    (front-after _ _ _ (codes " asked ") (decimal c.args.asked ++ (codes " made " ++ (decimal c.args.made ++ (codes "\n")))) c.in_ok-write_whole-2.ensures.all
    (front-after _ _ _ (decimal c.args.asked) (codes " made " ++ (decimal c.args.made ++ (codes "\n"))) c.in_ok-write_number.ensures.all
    (front-more _ _ (codes " made ") (decimal c.args.made ++ (codes "\n")) c.write_whole-3.ensures.front)))

pub returns-in_err-write_number-2-clause-front : goal.returns-in_err-write_number-2-clause-front
returns-in_err-write_number-2-clause-front g c =
    front-after _ _ _ c.args.name.now (codes " asked " ++ (decimal c.args.asked ++ (codes " made " ++ (decimal c.args.made ++ (codes "\n"))))) c.in_ok-write_whole.ensures.all
    (front-after _ _ _ (codes " asked ") (decimal c.args.asked ++ (codes " made " ++ (decimal c.args.made ++ (codes "\n")))) c.in_ok-write_whole-2.ensures.all
    (front-after _ _ _ (decimal c.args.asked) (codes " made " ++ (decimal c.args.made ++ (codes "\n"))) c.in_ok-write_number.ensures.all
    (front-after _ _ _ (codes " made ") (decimal c.args.made ++ (codes "\n")) c.in_ok-write_whole-3.ensures.all
    (front-more _ _ (decimal c.args.made) (codes "\n") c.write_number-2.ensures.front))))

pub returns-clause-all : goal.returns-clause-all
returns-clause-all g c = on_ok_weaker c.write_whole-4.result
    (λ e.
    written-twice _ _ _ c.args.name.now (codes " asked " ++ (decimal c.args.asked ++ (codes " made " ++ (decimal c.args.made ++ (codes "\n"))))) c.in_ok-write_whole.ensures.all
    (written-twice _ _ _ (codes " asked ") (decimal c.args.asked ++ (codes " made " ++ (decimal c.args.made ++ (codes "\n")))) c.in_ok-write_whole-2.ensures.all
    (written-twice _ _ _ (decimal c.args.asked) (codes " made " ++ (decimal c.args.made ++ (codes "\n"))) c.in_ok-write_number.ensures.all
    (written-twice _ _ _ (codes " made ") (decimal c.args.made ++ (codes "\n")) c.in_ok-write_whole-3.ensures.all
    (written-twice _ _ _ (decimal c.args.made) (codes "\n") c.in_ok-write_number-2.ensures.all
    (e))))))
    c.write_whole-4.ensures.all

pub returns-clause-front : goal.returns-clause-front
returns-clause-front g c =
    front-after _ _ _ c.args.name.now (codes " asked " ++ (decimal c.args.asked ++ (codes " made " ++ (decimal c.args.made ++ (codes "\n"))))) c.in_ok-write_whole.ensures.all
    (front-after _ _ _ (codes " asked ") (decimal c.args.asked ++ (codes " made " ++ (decimal c.args.made ++ (codes "\n")))) c.in_ok-write_whole-2.ensures.all
    (front-after _ _ _ (decimal c.args.asked) (codes " made " ++ (decimal c.args.made ++ (codes "\n"))) c.in_ok-write_number.ensures.all
    (front-after _ _ _ (codes " made ") (decimal c.args.made ++ (codes "\n")) c.in_ok-write_whole-3.ensures.all
    (front-after _ _ _ (decimal c.args.made) (codes "\n") c.in_ok-write_number-2.ensures.all
    (c.write_whole-4.ensures.front)))))
