use Rattle.sg_play.proofs.Leaving.{left-front, left-longer}
use Rattle.sg_play.proofs.laws.left_in_front.Goals as goal

pub returns : goal.returns
returns c = record {
  front = λ bytes r whole budget keep p left d. left-front left d;
  longer = λ bytes more r budget keep left. left-longer more left;
}
