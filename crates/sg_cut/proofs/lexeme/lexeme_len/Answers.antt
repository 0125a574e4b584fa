use Rattle.std.proofs.Common.{◌∙◌, sym}
use Rattle.sg_cut.proofs.FirstLexeme.{comment_at, word_at}
use Rattle.sg_cut.proofs.lexeme.lexeme_len.Goals as goal

pub returns-in-35-clause-first : goal.returns-in-35-clause-first
returns-in-35-clause-first c =
    comment_at c.args.bytes.now c.line_len.result c.requires c.in-35.is c.line_len.ensures.line

pub returns-in_default-clause-first : goal.returns-in_default-clause-first
returns-in_default-clause-first c =
    word_at c.args.bytes.now c.word_len.result c.requires (sym c.is_word_byte.ensures ∙ c.if-is_word_byte.true) c.word_len.ensures.word
