-- Symbols and their spelling.
use Rattle.std.proofs.Common.{◌≡◌, ℕ, suc, ◌≤◌, List, [], ◌∷◌, ◌++◌, length, take, drop, Bool, true, Some, refl, arith, subst}
use Rattle.std.specs.Prelude.{◌==◌, find}
use Rattle.std.specs.List.{starts_with}
use Rattle.std.proofs.lemmas.Bool.{cond_both}
use Rattle.sg_token.specs.Symbols.{spelling_of_symbol, symbol_before, symbols}
use Rattle.sg_token.specs.declared.symbol.Symbol.{Symbol}
use Rattle.sg_token.specs.declared.symbol.Symbol.TheVariants as symbol

-- each symbol has a byte
pub spelling-some : (s : Symbol) → 1 ≤ length (spelling_of_symbol s)
spelling-some symbol.Assign = omega arith
spelling-some symbol.Dots = omega arith
spelling-some symbol.Arrow = omega arith
spelling-some symbol.Unequal = omega arith
spelling-some symbol.AtMost = omega arith
spelling-some symbol.AtLeast = omega arith
spelling-some symbol.Semicolon = omega arith
spelling-some symbol.Comma = omega arith
spelling-some symbol.OpenParenthesis = omega arith
spelling-some symbol.CloseParenthesis = omega arith
spelling-some symbol.OpenBracket = omega arith
spelling-some symbol.CloseBracket = omega arith
spelling-some symbol.Plus = omega arith
spelling-some symbol.Minus = omega arith
spelling-some symbol.Times = omega arith
spelling-some symbol.Equal = omega arith
spelling-some symbol.Below = omega arith
spelling-some symbol.Above = omega arith

-- one that passes, or one before it, is found
found-by : (test : Symbol → Bool) (before : List Symbol) (s : Symbol) (after : List Symbol) → test s ≡ true → (r : Symbol) × (find test (before ++ s ∷ after) ≡ Some r)
found-by test [] s after passes = (s, rw passes refl)
found-by test (b ∷ before) s after passes =
    let more = found-by test before s after passes in
    cond_both (test b) (Some b) (find test (before ++ s ∷ after)) (λ o. (r : Symbol) × (o ≡ Some r)) (λ p. (b, refl)) (λ p. more)

-- a symbol is read that is at least as long as this one, which begins the text
abbrev pub IsReadBefore : Symbol → List ℕ → Type 0
IsReadBefore s rest = (r : Symbol) × (symbol_before (spelling_of_symbol s ++ rest) ≡ Some r) × (length (spelling_of_symbol s) ≤ length (spelling_of_symbol r))

-- where it has one byte any symbol is
one-byte : (n : ℕ) (s : Symbol) (rest : List ℕ) → take n symbols ++ s ∷ drop (suc n) symbols ≡ symbols → starts_with ◌==◌ (spelling_of_symbol s ++ rest) (spelling_of_symbol s) ≡ true → length (spelling_of_symbol s) ≡ 1 → IsReadBefore s rest
unfolding symbol_before
one-byte n s rest parted begins one =
    let test = λ (x : Symbol). starts_with ◌==◌ (spelling_of_symbol s ++ rest) (spelling_of_symbol x) in
    let f = subst (λ xs. (r : Symbol) × (find test xs ≡ Some r)) parted (found-by test (take n symbols) s (drop (suc n) symbols) begins) in
    (f.0, f.1, omega (arith, one, spelling-some f.0))

-- the longest symbol that begins a text is read: those of two bytes are tried first
pub longest-read : (s : Symbol) (rest : List ℕ) → IsReadBefore s rest
unfolding symbol_before
longest-read symbol.Assign rest = (symbol.Assign, refl, omega arith)
longest-read symbol.Dots rest = (symbol.Dots, refl, omega arith)
longest-read symbol.Arrow rest = (symbol.Arrow, refl, omega arith)
longest-read symbol.Unequal rest = (symbol.Unequal, refl, omega arith)
longest-read symbol.AtMost rest = (symbol.AtMost, refl, omega arith)
longest-read symbol.AtLeast rest = (symbol.AtLeast, refl, omega arith)
longest-read symbol.Semicolon rest = one-byte 6 symbol.Semicolon rest refl refl refl
longest-read symbol.Comma rest = one-byte 7 symbol.Comma rest refl refl refl
longest-read symbol.OpenParenthesis rest = one-byte 8 symbol.OpenParenthesis rest refl refl refl
longest-read symbol.CloseParenthesis rest = one-byte 9 symbol.CloseParenthesis rest refl refl refl
longest-read symbol.OpenBracket rest = one-byte 10 symbol.OpenBracket rest refl refl refl
longest-read symbol.CloseBracket rest = one-byte 11 symbol.CloseBracket rest refl refl refl
longest-read symbol.Plus rest = one-byte 12 symbol.Plus rest refl refl refl
longest-read symbol.Minus rest = one-byte 13 symbol.Minus rest refl refl refl
longest-read symbol.Times rest = one-byte 14 symbol.Times rest refl refl refl
longest-read symbol.Equal rest = one-byte 15 symbol.Equal rest refl refl refl
longest-read symbol.Below rest = one-byte 16 symbol.Below rest refl refl refl
longest-read symbol.Above rest = one-byte 17 symbol.Above rest refl refl refl
