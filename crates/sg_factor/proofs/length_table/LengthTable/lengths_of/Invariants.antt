use Rattle.sg_defs.specs.Membership.{IsFactorization}
use Rattle.sg_nonunique.specs.Factorizations.{IsLengthIn}
use Rattle.sg_classes.proofs.ListingLemmas.{ListsBelow}
use Rattle.sg_factor.proofs.length_table.LengthTable.lengths_of.Given as goal

abbrev pub invariant-loop-length : goal.invariant-loop-length
invariant-loop-length l = ListsBelow (IsLengthIn (IsFactorization l.self.generators l.n)) l.length l.found
