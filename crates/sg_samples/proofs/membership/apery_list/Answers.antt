use Rattle.sg_samples.proofs.MemberSamples.{apery, apery_entry, not_entry}
use Rattle.sg_samples.proofs.membership.apery_list.Goals as goal

pub returns-clause-list : goal.returns-clause-list
returns-clause-list c = apery

pub returns-clause-entry : goal.returns-clause-entry
returns-clause-entry c = apery_entry

pub returns-clause-greater : goal.returns-clause-greater
returns-clause-greater c = not_entry
