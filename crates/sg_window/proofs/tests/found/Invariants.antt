use Rattle.std.proofs.Common.{◌≡◌, true}
use Rattle.sg_io.specs.MemSource.{is_begun}
use Rattle.sg_window.proofs.tests.found.Given as goal

abbrev pub invariant-loop : goal.invariant-loop
invariant-loop l = is_begun l.source ≡ true
