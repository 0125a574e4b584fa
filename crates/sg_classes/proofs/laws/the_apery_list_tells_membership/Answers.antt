use Rattle.sg_classes.proofs.AperyLemmas.{apery-member}
use Rattle.sg_classes.proofs.laws.the_apery_list_tells_membership.Goals as goal

pub returns : goal.returns
returns c = λ G n t positive modulus a x. apery-member G n t positive modulus a x
