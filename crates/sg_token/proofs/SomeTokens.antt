-- A text falls into tokens, or it does not: what stands first is taken off, and what is left is shorter.
use Rattle.std.proofs.Common.{◌≡◌, ℕ, zero, suc, ◌+◌, ◌<◌, ◌≤◌, Bool, true, false, List, [], ◌∷◌, length, drop, Option, None, Some, cond, refl, inl, inr, arith}
use Rattle.std.specs.Prelude.{◌⊎◌, ◌==◌, IfSome}
use Rattle.sg_token.specs.FirstByte.{beginning_at}
use Rattle.sg_token.specs.Runs.{run_at}
use Rattle.sg_token.specs.Steps.{IsFirst, prefixed}
use Rattle.sg_token.specs.Strings.{string_at, escape_at, escaped, is_printable, with_byte, with_escape}
use Rattle.sg_token.specs.Symbols.{spelling_of_symbol, symbol_before}
use Rattle.sg_token.specs.Tokens.{FallsInto, at_end, after_line}
use Rattle.sg_token.specs.declared.beginning.Beginning.{Beginning}
use Rattle.sg_token.specs.declared.beginning.Beginning.TheVariants as begins
use Rattle.sg_token.specs.declared.symbol.Symbol.{Symbol}
use Rattle.sg_token.specs.declared.token.Token.{Token}
use Rattle.sg_token.specs.declared.token.Token.TheVariants as token
use Rattle.sg_token.proofs.StepLemmas.{first-blank, first-comment, first-run, torn-run, first-string, torn-string, first-symbol, torn-symbol}

-- it falls into these tokens, or into none
abbrev pub Falls : List ℕ → Type 0
Falls text = ((ts : List Token) × FallsInto text ts) ⊎ ((ts : List Token) → FallsInto text ts → ⊥)

-- ---- strings

abbrev IsRest : List ℕ → Option (List ℕ × List ℕ) → Type 0
IsRest text o = IfSome o (λ found. length found.1 ≤ length text)

rest-byte : (b : ℕ) (c : ℕ) (text : List ℕ) (o : Option (List ℕ × List ℕ)) → IsRest text o → IsRest (c ∷ text) (with_byte b o)
rest-byte b c text None h = tt
rest-byte b c text (Some found) h = omega (arith, h)

rest-more : (c : ℕ) (text : List ℕ) (o : Option (List ℕ × List ℕ)) → IsRest text o → IsRest (c ∷ text) o
rest-more c text None h = tt
rest-more c text (Some found) h = omega (arith, h)

rest-escape : (e : Option ℕ) (c : ℕ) (text : List ℕ) (o : Option (List ℕ × List ℕ)) → IsRest text o → IsRest (c ∷ text) (with_escape e o)
rest-escape None c text o h = tt
rest-escape (Some b) c text o h = rest-byte b c text o h

rest-cond : (b : Bool) (text : List ℕ) (o p : Option (List ℕ × List ℕ)) → IsRest text o → IsRest text p → IsRest text (cond b o p)
rest-cond true text o p h k = h
rest-cond false text o p h k = k

mutual
  string-rest : (text : List ℕ) → IsRest text (string_at text)
  string-rest [] = tt
  string-rest (b ∷ text) = rest-cond (b == 34) (b ∷ text) (Some ([], text)) _ (let l : length text ≤ length (b ∷ text) = omega arith in l)
      (rest-cond (b == 92) (b ∷ text) (escape_at text) _ (rest-more b text (escape_at text) (escape-rest text))
      (rest-cond (is_printable b) (b ∷ text) (with_byte b (string_at text)) None (rest-byte b b text (string_at text) (string-rest text)) tt))

  escape-rest : (text : List ℕ) → IsRest text (escape_at text)
  escape-rest [] = tt
  escape-rest (letter ∷ text) = rest-escape (escaped letter) letter text (string_at text) (string-rest text)

-- ---- what stands first

falls-first : (text : List ℕ) (first : Option Token) (rest : List ℕ) → IsFirst text first rest → Falls rest → Falls text
falls-first text first rest f (inl r) = inl (prefixed first r.0, f.joins r.0 r.1)
falls-first text first rest f (inr none) = inr (λ ts d. let o = f.only ts d in none o.0 o.2)

-- each shorter text falls into tokens or into none
abbrev Shorter : List ℕ → Type 0
Shorter text = (rest : List ℕ) → length rest < length text → Falls rest

at-first : (text : List ℕ) (first : Option Token) (rest : List ℕ) → Shorter text → IsFirst text first rest → Falls text
at-first text first rest shorter f = falls-first text first rest f (shorter rest f.shorter)

at-run : (b : ℕ) (text : List ℕ) → Shorter (b ∷ text) → beginning_at b ≡ begins.Run → (o : Option (Token × List ℕ)) → run_at b (b ∷ text) ≡ o → Falls (b ∷ text)
at-run b text shorter is None made = inr (torn-run b text is made)
at-run b text shorter is (Some found) made = at-first (b ∷ text) (Some found.0) found.1 shorter (first-run b text found.0 found.1 is made)

at-string : (b : ℕ) (text : List ℕ) → Shorter (b ∷ text) → beginning_at b ≡ begins.Quote → (o : Option (List ℕ × List ℕ)) → string_at text ≡ o → IsRest text o → Falls (b ∷ text)
at-string b text shorter is None made l = inr (torn-string b text is made)
at-string b text shorter is (Some found) made l = at-first (b ∷ text) (Some (token.Text found.0)) found.1 shorter (first-string b text found.0 found.1 is made l)

at-symbol : (b : ℕ) (text : List ℕ) → Shorter (b ∷ text) → beginning_at b ≡ begins.Symbol → (o : Option Symbol) → symbol_before (b ∷ text) ≡ o → Falls (b ∷ text)
at-symbol b text shorter is None made = inr (torn-symbol b text is made)
at-symbol b text shorter is (Some s) made = at-first (b ∷ text) (Some (token.Symbol s)) (drop (length (spelling_of_symbol s)) (b ∷ text)) shorter (first-symbol b text s is made)

by-beginning : (b : ℕ) (text : List ℕ) → Shorter (b ∷ text) → (k : Beginning) → beginning_at b ≡ k → Falls (b ∷ text)
by-beginning b text shorter begins.Blank is = at-first (b ∷ text) None text shorter (first-blank b text is)
by-beginning b text shorter begins.Comment is = at-first (b ∷ text) None (after_line text) shorter (first-comment b text is)
by-beginning b text shorter begins.Run is = at-run b text shorter is (run_at b (b ∷ text)) refl
by-beginning b text shorter begins.Quote is = at-string b text shorter is (string_at text) refl (string-rest text)
by-beginning b text shorter begins.Symbol is = at-symbol b text shorter is (symbol_before (b ∷ text)) refl

falls-below : (k : ℕ) (text : List ℕ) → length text < k → Falls text
falls-below zero text l = absurd (omega arith)
falls-below (suc k) [] l = inl ([], at_end)
falls-below (suc k) (b ∷ text) l = by-beginning b text (λ rest less. falls-below k rest (omega arith)) (beginning_at b) refl

-- each text falls into tokens, or into none
pub falls-or_none : (text : List ℕ) → Falls text
falls-or_none text = falls-below (length text + 1) text (omega arith)
