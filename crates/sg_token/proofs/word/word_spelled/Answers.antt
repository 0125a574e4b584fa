use Rattle.sg_token.specs.ReservedWords.{reserved}
use Rattle.sg_token.proofs.word.word_spelled.Goals as goal

pub returns : goal.returns
unfolding reserved
returns c = c.first_spelled.ensures
