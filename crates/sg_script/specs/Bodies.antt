-- What follows a block, and what follows its last arm.
use Rattle.std.specs.Prelude.{◌≡◌, Bool, true, false, List, [], ◌∷◌}
use Rattle.sg_tree.specs.Tree.{Code}
use Rattle.sg_token.specs.declared.token.Token.{Token}
use Rattle.sg_token.specs.declared.token.Token.TheVariants as token
use Rattle.sg_token.specs.declared.word.Word.{Word}
use Rattle.sg_token.specs.declared.word.Word.TheVariants as word
use Rattle.sg_script.specs.Grammar.{Inner}

-- whether a word ends a block
abbrev pub word_ends_body : Word → Bool
word_ends_body word.Elif = true
word_ends_body word.Else = true
word_ends_body word.Fi = true
word_ends_body word.Od = true
word_ends_body _ = false

-- whether a token does
abbrev pub token_ends_body : Token → Bool
token_ends_body (token.Number z) = false
token_ends_body (token.Name x) = false
token_ends_body (token.Word w) = word_ends_body w
token_ends_body (token.Text bytes) = false
token_ends_body (token.Symbol s) = false

-- whether the tokens begin with a word that ends a block
abbrev pub ends_body : List Token → Bool
ends_body [] = false
ends_body (t ∷ ts) = token_ends_body t

-- the same, as a fact
abbrev pub EndsBody : List Token → Type 0
EndsBody ts = ends_body ts ≡ true

-- no other arm follows
abbrev pub EndsArms : List Token → Type 0
EndsArms ts = (us : List Token) → ts ≡ token.Word word.Elif ∷ us → ⊥

-- what `if` begins, from behind it
abbrev pub Choice : List Token → Code → List Token → Type 0
Choice ts c us = Inner (token.Word word.If ∷ ts) c us

-- what `for` begins, from behind it
abbrev pub Repetition : List Token → Code → List Token → Type 0
Repetition ts c us = Inner (token.Word word.For ∷ ts) c us

-- the arms of a choice end here
abbrev pub EndsChoice : List Token → Type 0
EndsChoice ts = (ends_body ts ≡ true) × EndsArms ts
