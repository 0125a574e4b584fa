use Rattle.std.proofs.Common.{[]}
use Rattle.sg_play.proofs.SomePlays.{plays_some}
use Rattle.sg_play.proofs.laws.some_play.Goals as goal

pub returns : goal.returns
returns c = λ bytes whole budget keep. plays_some budget keep whole bytes 0 0 [] tt
