use Rattle.sg_play.proofs.Plays.{ended-stays, waits-front}
use Rattle.sg_play.proofs.laws.play_extends.Goals as goal

pub returns : goal.returns
returns c = record {
  ended = λ bytes more whole budget keep p no d. ended-stays budget keep d more whole no;
  waits = λ bytes more whole budget keep p q w d e. (waits-front more whole d e w).0;
  passes = λ bytes more whole budget keep p q w d e. (waits-front more whole d e w).2;
  asks = λ bytes more whole budget keep p q w d e. (waits-front more whole d e w).1;
}
