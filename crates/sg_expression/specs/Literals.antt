-- Tokens that are an expression by themselves.
use Rattle.std.specs.Prelude.{true, false, Option, None, Some}
use Rattle.sg_tree.specs.Tree.{Tree, number, quoted, truth, failing}
use Rattle.sg_token.specs.declared.token.Token.{Token}
use Rattle.sg_token.specs.declared.token.Token.TheVariants as token
use Rattle.sg_token.specs.declared.word.Word.{Word}
use Rattle.sg_token.specs.declared.word.Word.TheVariants as word

-- the literal that a word is
abbrev pub literal_of_word : Word → Option Tree
literal_of_word word.True = Some (truth true)
literal_of_word word.False = Some (truth false)
literal_of_word word.Fail = Some failing
literal_of_word _ = None

-- the literal that a token is
abbrev pub literal_of : Token → Option Tree
literal_of (token.Number z) = Some (number z)
literal_of (token.Name x) = None
literal_of (token.Word w) = literal_of_word w
literal_of (token.Text bytes) = Some (quoted bytes)
literal_of (token.Symbol s) = None
