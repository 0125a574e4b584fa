use Rattle.sg_window.proofs.AnyCutting.{whole_from, one_list}
use Rattle.sg_window.proofs.laws.any_cutting.Goals as goal

pub returns : goal.returns
returns c = record { whole = λ pieces texts close f. whole_from f; one = λ bytes texts others close other s t. one_list s t }
