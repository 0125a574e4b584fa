use Rattle.std.proofs.Common.{Err, sym, subst}
use Rattle.sg_tree.specs.TreeView.{code_of}
use Rattle.sg_script.specs.Depth.{IsDeep}
use Rattle.sg_script.specs.Grammar.{IsStatement}
use Rattle.sg_script.specs.Outcome.{deep, parsed, IsMadeOf}
use Rattle.sg_script.proofs.ReaderLemmas.{told-torn, told-unparsed}
use Rattle.sg_script.proofs.reader.outcome_of.Goals as goal

pub returns-in_err-tokens : goal.returns-in_err-tokens
returns-in_err-tokens c = told-torn _ c.from_residual.result c.from_residual.ensures.1 c.in_err-tokens.ensures.syntax

pub returns-then-is_too_deep : goal.returns-then-is_too_deep
returns-then-is_too_deep c = deep c.in_ok-tokens.ensures.tokens (subst IsDeep c.deref.ensures.value (c.is_too_deep.ensures.0 c.if-is_too_deep.true))

pub returns-in_err-whole_statement : goal.returns-in_err-whole_statement
returns-in_err-whole_statement c =
    told-unparsed {ts = c.in_ok-tokens.tokens.items} _ c.from_residual-in_err-whole_statement.result c.from_residual-in_err-whole_statement.ensures.1 c.in_ok-tokens.ensures.tokens
    (λ d. let is_deep = c.is_too_deep.ensures.1 (subst IsDeep (sym c.deref.ensures.value) d) in let not = c.if-is_too_deep.false in cc)
    (subst (λ ts. IsMadeOf ts (Err c.in_err-whole_statement.field-0.0)) c.deref-2.ensures.value c.in_err-whole_statement.ensures)

pub returns : goal.returns
returns c =
    parsed c.in_ok-tokens.ensures.tokens (λ d. let is_deep = c.is_too_deep.ensures.1 (subst IsDeep (sym c.deref.ensures.value) d) in let not = c.if-is_too_deep.false in cc)
    (subst (λ ts. IsStatement ts (code_of c.in_ok-whole_statement.field-0)) c.deref-2.ensures.value c.in_ok-whole_statement.ensures)
