use Rattle.std.proofs.Common.{◌≡◌, [], ◌∷◌, sym, ap, ◌∙◌, subst}
use Rattle.sg_token.specs.declared.symbol.Symbol.TheVariants as symbol
use Rattle.sg_token.specs.declared.token.Token.TheVariants as token
use Rattle.sg_token.specs.declared.word.Word.TheVariants as word
use Rattle.sg_tree.specs.Tree.{quit}
use Rattle.sg_tree.specs.TreeView.{code_of}
use Rattle.sg_tree.proofs.StatementLevels.{view-Quit}
use Rattle.sg_script.specs.Grammar.{IsStatement, the_last, a_statement, OneOf}
use Rattle.sg_script.proofs.ReaderLemmas.{empty-list, filled-list}
use Rattle.sg_script.proofs.UniqueStatementLemmas.{quit-alone}
use Rattle.sg_script.proofs.reader.whole_statement.Goals as goal

pub returns-in_default-after_symbol : goal.returns-in_default-after_symbol
returns-in_default-after_symbol c = λ code s. c.in_default-after_symbol.ensures.after [] (quit-alone (subst (λ ts. IsStatement ts code) c.in-Some.ensures.after s))

pub returns-then-is_empty : goal.returns-then-is_empty
returns-then-is_empty c =
    let nothing : c.in-Some-after_symbol.rest.now ≡ [] = empty-list c.in-Some-after_symbol.rest.now (sym c.is_empty.ensures ∙ c.if-is_empty.true) in
    let whole = c.in-Some.ensures.after ∙ ap (λ ts. token.Word word.Quit ∷ ts) (c.in-Some-after_symbol.ensures.after ∙ ap (λ ts. token.Symbol symbol.Semicolon ∷ ts) nothing) in
    subst (λ x. IsStatement c.args.tokens.now x) (sym view-Quit) (subst (λ ts. IsStatement ts quit) (sym whole) the_last)

pub returns-else-is_empty : goal.returns-else-is_empty
returns-else-is_empty c = λ code s.
    let whole = sym c.in-Some-after_symbol.ensures.after ∙ quit-alone (subst (λ ts. IsStatement ts code) c.in-Some.ensures.after s) in
    let nothing : c.in-Some-after_symbol.rest.now ≡ [] = cc (whole) in
    filled-list c.in-Some-after_symbol.rest.now (sym c.is_empty.ensures ∙ c.if-is_empty.false) nothing

pub returns-then-is_empty-2 : goal.returns-then-is_empty-2
returns-then-is_empty-2 c =
    let nothing : c.in_ok-stmt.rest.now ≡ [] = empty-list c.in_ok-stmt.rest.now (sym c.is_empty-2.ensures ∙ c.if-is_empty-2.true) in
    a_statement (subst (λ us. OneOf c.args.tokens.now (code_of c.in_ok-stmt.stmt) us) nothing c.in_ok-stmt.ensures.reads.is)
