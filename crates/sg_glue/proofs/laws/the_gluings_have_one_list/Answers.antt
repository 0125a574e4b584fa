use Rattle.sg_glue.proofs.GluingsExist.{gluings-exist, one-list_of_gluings}
use Rattle.sg_glue.proofs.laws.the_gluings_have_one_list.Goals as goal

pub returns-clause-exists : goal.returns-clause-exists
returns-clause-exists c = gluings-exist

pub returns-clause-one : goal.returns-clause-one
returns-clause-one c = one-list_of_gluings
