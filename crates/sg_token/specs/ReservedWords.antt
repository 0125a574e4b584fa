-- The reserved words.
use Rattle.std.specs.Prelude.{ℕ, List, [], ◌∷◌, Option, find, codes, bytes_eq}
use Rattle.sg_token.specs.declared.word.Word.{Word}
use Rattle.sg_token.specs.declared.word.Word.TheVariants as word

-- the bytes that spell the word
abbrev pub spelling_of_word : Word → List ℕ
spelling_of_word word.And = codes "and"
spelling_of_word word.Do = codes "do"
spelling_of_word word.Elif = codes "elif"
spelling_of_word word.Else = codes "else"
spelling_of_word word.Fail = codes "fail"
spelling_of_word word.False = codes "false"
spelling_of_word word.Fi = codes "fi"
spelling_of_word word.For = codes "for"
spelling_of_word word.If = codes "if"
spelling_of_word word.In = codes "in"
spelling_of_word word.Mod = codes "mod"
spelling_of_word word.Not = codes "not"
spelling_of_word word.Od = codes "od"
spelling_of_word word.Or = codes "or"
spelling_of_word word.Quit = codes "quit"
spelling_of_word word.Then = codes "then"
spelling_of_word word.True = codes "true"
spelling_of_word word.Break = codes "break"
spelling_of_word word.Continue = codes "continue"
spelling_of_word word.End = codes "end"
spelling_of_word word.Function = codes "function"
spelling_of_word word.Local = codes "local"
spelling_of_word word.Rec = codes "rec"
spelling_of_word word.Repeat = codes "repeat"
spelling_of_word word.Return = codes "return"
spelling_of_word word.Until = codes "until"
spelling_of_word word.While = codes "while"

-- all reserved words
abbrev pub words : List Word
words = word.And ∷ word.Do ∷ word.Elif ∷ word.Else ∷ word.Fail ∷ word.False ∷ word.Fi ∷ word.For ∷ word.If ∷ word.In ∷ word.Mod ∷ word.Not ∷ word.Od ∷ word.Or ∷ word.Quit ∷ word.Then ∷ word.True ∷ word.Break ∷ word.Continue ∷ word.End ∷ word.Function ∷ word.Local ∷ word.Rec ∷ word.Repeat ∷ word.Return ∷ word.Until ∷ word.While ∷ []

-- the reserved word that is spelled so
unfoldable pub reserved : List ℕ → Option Word
reserved run = find (λ w. bytes_eq (spelling_of_word w) run) words
