use Rattle.sg_token.proofs.SymbolLemmas.{longest-read}
use Rattle.sg_token.proofs.laws.longest_symbol.Goals as goal

pub returns : goal.returns
returns c = λ other rest. longest-read other rest
