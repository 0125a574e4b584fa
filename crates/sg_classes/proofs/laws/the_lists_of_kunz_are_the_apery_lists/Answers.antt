use Rattle.sg_classes.proofs.KunzLemmas.{kunz-apery, kunz-has_table}
use Rattle.sg_classes.proofs.laws.the_lists_of_kunz_are_the_apery_lists.Goals as goal

pub returns : goal.returns
returns c = λ t. (kunz-has_table t, λ h. kunz-apery h.0 t h.1)
