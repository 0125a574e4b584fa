use Rattle.sg_token.specs.Symbols.{symbol_before}
use Rattle.sg_token.proofs.symbol.longest_symbol.Goals as goal

pub returns-clause-symbol : goal.returns-clause-symbol
unfolding symbol_before
returns-clause-symbol c = c.first_before.ensures.symbol
