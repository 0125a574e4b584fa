-- What a byte begins.
use Rattle.std.specs.Prelude.{ℕ, ◌==◌, if◌then◌else◌}
use Rattle.sg_cut.specs.Bytes.{is_blank, is_word_byte}
use Rattle.sg_token.specs.declared.beginning.Beginning.{Beginning}
use Rattle.sg_token.specs.declared.beginning.Beginning.TheVariants.{Blank, Comment, Run, Quote, Symbol}

-- what a byte begins, outside strings and comments: # a comment, a quote a string, and what is nothing else a symbol
unfoldable pub beginning_at : ℕ → Beginning
beginning_at b = if is_blank b then Blank else if b == 35 then Comment else if is_word_byte b then Run else if b == 34 then Quote else Symbol
