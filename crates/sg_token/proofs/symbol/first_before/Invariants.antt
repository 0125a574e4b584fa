use Rattle.std.proofs.Common.{◌≡◌, drop}
use Rattle.std.specs.List.{find, starts_with}
use Rattle.std.specs.Prelude.{◌==◌}
use Rattle.sg_token.specs.Symbols.{spelling_of_symbol}
use Rattle.sg_token.proofs.symbol.first_before.Given as goal

-- the symbol is found among those that are left
abbrev pub invariant-loop-symbol : goal.invariant-loop-symbol
invariant-loop-symbol l = find (λ s. starts_with ◌==◌ l.text (spelling_of_symbol s)) l.symbols ≡ find (λ s. starts_with ◌==◌ l.text (spelling_of_symbol s)) (drop l.symbol-index l.symbols)
