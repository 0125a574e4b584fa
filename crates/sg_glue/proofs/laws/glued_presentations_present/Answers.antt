use Rattle.sg_glue.proofs.GluedLemmas.{glued-presents}
use Rattle.sg_glue.proofs.laws.glued_presentations_present.Goals as goal

pub returns : goal.returns
returns c G s A B p q P semigroup up gluing first second rp pp rq pq g = glued-presents G s semigroup up gluing A B p q P first second rp pp rq pq g
