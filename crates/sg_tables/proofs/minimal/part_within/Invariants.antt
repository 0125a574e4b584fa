use Rattle.sg_tables.specs.Minimal.{IsPartOf}
use Rattle.sg_tables.proofs.minimal.part_within.Given as goal

-- the part of the entries so far
abbrev pub invariant-loop-entry : goal.invariant-loop-entry
invariant-loop-entry l = IsPartOf l.table l.entries l.part l.entry-index
