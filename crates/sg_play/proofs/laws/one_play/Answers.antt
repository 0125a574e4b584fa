use Rattle.sg_play.proofs.Plays.{one-play}
use Rattle.sg_play.proofs.laws.one_play.Goals as goal

pub returns : goal.returns
returns c = λ bytes whole budget keep p q d e. one-play budget keep d e
