use Rattle.std.proofs.Common.{[], refl}
use Rattle.sg_window.specs.Window.{fresh}
use Rattle.sg_window.proofs.Holding.{holds_at_once, holds-append}
use Rattle.sg_window.proofs.laws.stands_for.Goals as goal

pub returns-clause-fresh : goal.returns-clause-fresh
returns-clause-fresh c = holds_at_once [] 0 fresh refl refl

pub returns-clause-more : goal.returns-clause-more
returns-clause-more c = λ bytes got feeds taken w h. holds-append bytes got feeds taken w h
