use Rattle.sg_defs.specs.Ideals.{IsIdealMember}
use Rattle.sg_laws_ideals.proofs.SizeDecisions.{small-decided, large_generator-none}
use Rattle.sg_laws_ideals.proofs.laws.keeping_the_limit_is_decided.Goals as goal

pub returns-clause-small : goal.returns-clause-small
returns-clause-small c = small-decided

pub returns-clause-large : goal.returns-clause-large
returns-clause-large c G zs I large = large_generator-none G (IsIdealMember G zs) large I
