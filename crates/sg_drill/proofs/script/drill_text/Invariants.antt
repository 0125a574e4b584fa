use Rattle.std.proofs.Common.{◌≡◌, ◌<◌, ◌≤◌, ◌-◌}
use Rattle.sg_drill.specs.Script.{first_lines, number_of}
use Rattle.sg_drill.proofs.script.drill_text.Given as goal

-- so many lines are there
abbrev pub invariant-loop-lines : goal.invariant-loop-lines
invariant-loop-lines l =
    record {
      written : l.text ≡ first_lines l.statements l.lines;
      drawn : l.number ≡ number_of l.statements l.lines;
      small : l.number < 2147483648;
      within : l.lines ≤ l.statements;
    }

abbrev pub decreases-loop-lines : goal.decreases-loop-lines
decreases-loop-lines l = l.statements - l.lines
