use Rattle.std.proofs.Common.{◌≤◌}
use Rattle.sg_tables.specs.Modulus.{AreFirst}
use Rattle.sg_tables.proofs.modulus.list_modulo.Given as goal

abbrev pub invariant-loop-class : goal.invariant-loop-class
invariant-loop-class l = record {
  near : l.near ≤ l.top;
  list : AreFirst l.apery l.modulus l.list.items l.class;
}
