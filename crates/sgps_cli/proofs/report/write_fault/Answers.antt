use Rattle.std.proofs.Common.{◌++◌}
use Rattle.std.specs.Prelude.{codes, decimal}
use Rattle.std.proofs.lemmas.Result.{on_ok_weaker}
use Rattle.sg_play.specs.FaultLines.{name_of}
use Rattle.sgps_cli.proofs.Written.{written-twice}
use Rattle.sgps_cli.proofs.Lines.{front-more, front-after}
use Rattle.sgps_cli.proofs.report.write_fault.Goals as goal

pub returns-in_err-write_whole-clause-front : goal.returns-in_err-write_whole-clause-front
returns-in_err-write_whole-clause-front g c =
    front-more _ _ (codes "sgps: line ") (decimal c.args.line ++ (codes ": " ++ (name_of c.args.fault ++ codes "\n"))) c.write_whole.ensures.front

pub returns-in_err-write_number-clause-front : goal.returns-in_err-write_number-clause-front
returns-in_err-write_number-clause-front g c =
    front-after _ _ _ (codes "sgps: line ") (decimal c.args.line ++ (codes ": " ++ (name_of c.args.fault ++ codes "\n"))) c.in_ok-write_whole.ensures.all
    (front-more _ _ (decimal c.args.line) (codes ": " ++ (name_of c.args.fault ++ codes "\n")) c.write_number.ensures.front)

pub returns-in_err-write_whole-2-clause-front : goal.returns-in_err-write_whole-2-clause-front
returns-in_err-write_whole-2-clause-front g c =
    front-after _ _ _ (codes "sgps: line ") (decimal c.args.line ++ (codes ": " ++ (name_of c.args.fault ++ codes "\n"))) c.in_ok-write_whole.ensures.all
    (front-after _ _ _ (decimal c.args.line) (codes ": " ++ (name_of c.args.fault ++ codes "\n")) c.in_ok-write_number.ensures.all
    (front-more _ _ (codes ": ") (name_of c.args.fault ++ codes "\n") c.write_whole-2.ensures.front))

pub returns-clause-all : goal.returns-clause-all
returns-clause-all g c = on_ok_weaker c.write_name.result
    (λ e.
    written-twice _ _ _ (codes "sgps: line ") (decimal c.args.line ++ (codes ": " ++ (name_of c.args.fault ++ codes "\n"))) c.in_ok-write_whole.ensures.all
    (written-twice _ _ _ (decimal c.args.line) (codes ": " ++ (name_of c.args.fault ++ codes "\n")) c.in_ok-write_number.ensures.all
    (written-twice _ _ _ (codes ": ") (name_of c.args.fault ++ codes "\n") c.in_ok-write_whole-2.ensures.all e)))
    c.write_name.ensures.all

pub returns-clause-front : goal.returns-clause-front
returns-clause-front g c =
    front-after _ _ _ (codes "sgps: line ") (decimal c.args.line ++ (codes ": " ++ (name_of c.args.fault ++ codes "\n"))) c.in_ok-write_whole.ensures.all
    (front-after _ _ _ (decimal c.args.line) (codes ": " ++ (name_of c.args.fault ++ codes "\n")) c.in_ok-write_number.ensures.all
    (front-after _ _ _ (codes ": ") (name_of c.args.fault ++ codes "\n") c.in_ok-write_whole-2.ensures.all c.write_name.ensures.front))
