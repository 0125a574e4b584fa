use Rattle.std.proofs.Common.{◌≡◌, ◌+◌, ◌∷◌, ◌++◌, List, [], map, sym, ap, ◌∙◌, subst, append_assoc, arith}
use Rattle.std.specs.Prelude.{option_map}
use Rattle.std.proofs.lemmas.List.{map-append}
use Rattle.sg_token.specs.declared.symbol.Symbol.TheVariants as symbol
use Rattle.sg_token.specs.declared.token.Token.TheVariants as token
use Rattle.sg_tree.specs.declared.expr.Op.{Op}
use Rattle.sg_tree.specs.declared.expr.Expr.{Expr}
use Rattle.sg_tree.specs.Tree.{Tree, Argument, arrow, variable, call, display, arguments, trees}
use Rattle.sg_tree.specs.TreeView.{tree_of, argument_of}
use Rattle.sg_tree.proofs.ExpressionLevels.{view-Plain, view-Arrow, view-Var}
use Rattle.sg_expression.specs.declared.rank.Rank.TheVariants as rank
use Rattle.sg_expression.specs.Grammar.{Chain, Linked, Operand, Comparison, Item, Indices, Atom, Entries, Given, MoreGiven, OneGiven}
use Rattle.sg_expression.specs.Reading.{Reads, Found, Nothing, Onward, Closed, Always, Named, Bracketed, Listed, EndsGiven}
use Rattle.sg_expression.specs.Binding.{StopsAt, level}
use Rattle.sg_expression.proofs.OnwardLemmas.{onward-then, onward-nothing}
use Rattle.sg_expression.proofs.ExitLemmas.{reads-exit, reads-pass, onward-end, one-link-at, no-link-at, no-right-at, found-compared-at}
use Rattle.sg_expression.proofs.ChainLemmas.{found-chain, no-chain, no-chain-links, end-links, found-conjunction, no-conjunction, found-product, no-product, found-negative, no-negative, found-unary, no-unary, found-alone, no-comparison}
use Rattle.sg_expression.proofs.AtomLemmas.{found-item, no-item, no-item-indices, one-index, no-index, end-indices, found-literal, no-atom, found-parenthesized, no-parenthesized, found-variable, found-call, no-call, found-none-given, found-given, no-given, no-given-more, one-given, no-one-given, found-last-given, no-more-given}
use Rattle.sg_expression.proofs.ArgumentLemmas.{found-arrow, no-arrow, found-value}
use Rattle.sg_expression.proofs.BracketLemmas.{found-empty, found-range, no-range, found-list, no-list, no-first-entry, one-entry, no-entry, found-last-entry, found-listed, no-listed}
use Rattle.sg_expression.proofs.expression.+expressions.Goals as goal

pub chain-returns-in_err-first-clause-reads : goal.chain-returns-in_err-first-clause-reads
chain-returns-in_err-first-clause-reads t c =
    let r = c.args.rank in
    let ts = c.args.tokens.now in
    reads-exit (Operand r) (StopsAt (level r + 1)) ts tree_of (Chain r) (StopsAt (level r)) ts no-chain c.from_residual.result _ c.from_residual.ensures.1 c.in_err-first.ensures.reads

pub chain-returns-in_err-next-clause-reads : goal.chain-returns-in_err-next-clause-reads
chain-returns-in_err-next-clause-reads t c =
    let r = c.args.rank in
    reads-exit (Operand r) (StopsAt (level r + 1)) c.in-Some.after.now tree_of (Chain r) (StopsAt (level r)) c.args.tokens.now
    (λ n. no-chain-links c.in_ok-first.ensures.reads (onward-nothing c.loop-op.invariant.links (no-link-at c.in-Some.ensures.operator n)))
    c.from_residual-in_err-next.result _ c.from_residual-in_err-next.ensures.1 c.in_err-next.ensures.reads

pub chain-loop-op-preserved : goal.chain-loop-op-preserved
chain-loop-op-preserved t c =
    let r = c.args.rank in
    let before = c.loop-op.links.items in
    let link : Op × Expr = (c.in-Some.op, c.in_ok-next.next) in
    record {
      first = c.loop-op.invariant.first;
      links = subst (λ ls. Onward (Linked r) (StopsAt (level r)) c.in_ok-first.rest.now ls c.in_ok-next.after.now)
          (sym (ap (map (λ k. (k.0, tree_of k.1))) c.in_ok-push.ensures.items ∙ map-append (λ k. (k.0, tree_of k.1)) before (link ∷ [])))
          (onward-then c.loop-op.invariant.links (one-link-at c.in-Some.ensures.operator c.in_ok-next.ensures.reads));
      shorter = omega (arith, c.in-Some.ensures.shorter, c.in_ok-next.ensures.shorter, c.loop-op.invariant.shorter);
    }

pub chain-returns-clause-reads : goal.chain-returns-clause-reads
chain-returns-clause-reads t c =
    let r = c.args.rank in
    subst (λ x. Found (Chain r) (StopsAt (level r)) c.args.tokens.now x c.loop-op.rest.now) (sym c.in_ok-chain.ensures)
    (found-chain c.loop-op.invariant.first (onward-end c.loop-op.invariant.links (end-links c.in_default.ensures.operator)))

pub operand-returns-in-Or-clause-reads : goal.operand-returns-in-Or-clause-reads
operand-returns-in-Or-clause-reads t c =
    let ts = c.args.tokens.now in
    subst (λ k. Reads tree_of (Operand k) (StopsAt (level k + 1)) ts c.chain.result) (sym c.in-Or.is)
    (reads-pass tree_of (Chain rank.And) (StopsAt 2) ts (Operand rank.Or) (StopsAt 2) ts (λ a vs f. found-conjunction f) no-conjunction c.chain.result c.chain.ensures.reads)

pub operand-returns-in-Sum-clause-reads : goal.operand-returns-in-Sum-clause-reads
operand-returns-in-Sum-clause-reads t c =
    let ts = c.args.tokens.now in
    subst (λ k. Reads tree_of (Operand k) (StopsAt (level k + 1)) ts c.chain-in-Sum.result) (sym c.in-Sum.is)
    (reads-pass tree_of (Chain rank.Product) (StopsAt 5) ts (Operand rank.Sum) (StopsAt 5) ts (λ a vs f. found-product f) no-product c.chain-in-Sum.result c.chain-in-Sum.ensures.reads)

pub operand-returns-in_err-operand-in-And-clause-reads : goal.operand-returns-in_err-operand-in-And-clause-reads
operand-returns-in_err-operand-in-And-clause-reads t c =
    let ts = c.args.tokens.now in
    subst (λ k. Reads tree_of (Operand k) (StopsAt (level k + 1)) ts c.from_residual.result) (sym c.in-And.is)
    (reads-exit Comparison (StopsAt 3) c.count_not-count.result.1.now tree_of (Operand rank.And) (StopsAt 3) ts (no-negative c.count_not-count.ensures.counts) c.from_residual.result _ c.from_residual.ensures.1 c.in_err-operand-in-And.ensures.reads)

pub operand-returns-in_ok-negation-in-And-clause-reads : goal.operand-returns-in_ok-negation-in-And-clause-reads
operand-returns-in_ok-negation-in-And-clause-reads t c =
    let ts = c.args.tokens.now in
    let us = c.in_ok-operand-in-And.rest.now in
    let found = c.in_ok-negation-in-And.field-0 in
    subst (λ k. Found (Operand k) (StopsAt (level k + 1)) ts (tree_of found) us) (sym c.in-And.is)
    (subst (λ x. Found (Operand rank.And) (StopsAt 3) ts x us) (sym c.in_ok-negation-in-And.ensures) (found-negative c.count_not-count.ensures.counts c.in_ok-operand-in-And.ensures.reads))

pub operand-returns-in_err-operand-in-Product-clause-reads : goal.operand-returns-in_err-operand-in-Product-clause-reads
operand-returns-in_err-operand-in-Product-clause-reads t c =
    let ts = c.args.tokens.now in
    subst (λ k. Reads tree_of (Operand k) (StopsAt (level k + 1)) ts c.from_residual-in_err-operand-in-Product.result) (sym c.in-Product.is)
    (reads-exit Item (StopsAt 6) c.count_minus-count.result.1.now tree_of (Operand rank.Product) (StopsAt 6) ts (no-unary c.count_minus-count.ensures.counts) c.from_residual-in_err-operand-in-Product.result _ c.from_residual-in_err-operand-in-Product.ensures.1 c.in_err-operand-in-Product.ensures.reads)

pub operand-returns-in_ok-minus-in-Product-clause-reads : goal.operand-returns-in_ok-minus-in-Product-clause-reads
operand-returns-in_ok-minus-in-Product-clause-reads t c =
    let ts = c.args.tokens.now in
    let us = c.in_ok-operand-in-Product.rest.now in
    let found = c.in_ok-minus-in-Product.field-0 in
    subst (λ k. Found (Operand k) (StopsAt (level k + 1)) ts (tree_of found) us) (sym c.in-Product.is)
    (subst (λ x. Found (Operand rank.Product) (StopsAt 6) ts x us) (sym c.in_ok-minus-in-Product.ensures) (found-unary c.count_minus-count.ensures.counts c.in_ok-operand-in-Product.ensures.reads))

pub compared-returns-in_err-left-clause-reads : goal.compared-returns-in_err-left-clause-reads
compared-returns-in_err-left-clause-reads t c =
    let ts = c.args.tokens.now in
    reads-exit (Chain rank.Sum) (StopsAt 4) ts tree_of Comparison (StopsAt 3) ts no-comparison c.from_residual.result _ c.from_residual.ensures.1 c.in_err-left.ensures.reads

pub compared-returns-in_default-clause-reads : goal.compared-returns-in_default-clause-reads
compared-returns-in_default-clause-reads t c = found-alone c.in_ok-left.ensures.reads c.in_default.ensures.comparison

pub compared-returns-in_err-right-clause-reads : goal.compared-returns-in_err-right-clause-reads
compared-returns-in_err-right-clause-reads t c =
    reads-exit (Chain rank.Sum) (StopsAt 4) c.in-Some.rest.now tree_of Comparison (StopsAt 3) c.args.tokens.now (no-right-at c.in_ok-left.ensures.reads c.in-Some.ensures.comparison)
    c.from_residual-in_err-right.result _ c.from_residual-in_err-right.ensures.1 c.in_err-right.ensures.reads

pub compared-returns-clause-reads : goal.compared-returns-clause-reads
compared-returns-clause-reads t c =
    subst (λ x. Found Comparison (StopsAt 3) c.args.tokens.now x c.in_ok-right.rest.now) (sym c.in_ok-compared.ensures)
    (found-compared-at c.in_ok-left.ensures.reads c.in-Some.ensures.comparison c.in_ok-right.ensures.reads)

pub item-returns-in_err-list-clause-reads : goal.item-returns-in_err-list-clause-reads
item-returns-in_err-list-clause-reads t c =
    let ts = c.args.tokens.now in
    reads-exit Atom (StopsAt 7) ts tree_of Item (StopsAt 6) ts no-item c.from_residual.result _ c.from_residual.ensures.1 c.in_err-list.ensures.reads

pub item-returns-in_err-index-clause-reads : goal.item-returns-in_err-index-clause-reads
item-returns-in_err-index-clause-reads t c =
    reads-exit (Closed (token.Symbol symbol.CloseBracket)) Always c.in-Some.after.now tree_of Item (StopsAt 6) c.args.tokens.now
    (λ n. no-item-indices c.in_ok-list.ensures.reads (onward-nothing c.loop-after.invariant.indices (subst (λ x. Nothing {A = List Tree} Indices (StopsAt 6) x) (sym c.in-Some.ensures.after) (no-index n))))
    c.from_residual-in_err-index.result _ c.from_residual-in_err-index.ensures.1 c.in_err-index.ensures.reads

pub item-loop-after-preserved : goal.item-loop-after-preserved
item-loop-after-preserved t c =
    let index = c.in_ok-index.index in
    let after = c.in_ok-index.after.now in
    record {
      list = c.loop-after.invariant.list;
      indices = subst (λ is. Onward Indices (StopsAt 6) c.in_ok-list.rest.now is after)
          (sym (ap (map tree_of) c.in_ok-push.ensures.items ∙ map-append tree_of c.loop-after.indices.items (index ∷ [])))
          (onward-then c.loop-after.invariant.indices (subst (λ x. Onward Indices (StopsAt 6) x (tree_of index ∷ []) after) (sym c.in-Some.ensures.after) (one-index c.in_ok-index.ensures.reads)));
      shorter = omega (arith, c.in-Some.ensures.shorter, c.in_ok-index.ensures.shorter, c.loop-after.invariant.shorter);
    }

pub item-returns-clause-reads : goal.item-returns-clause-reads
item-returns-clause-reads t c =
    subst (λ x. Found Item (StopsAt 6) c.args.tokens.now x c.loop-after.rest.now) (sym c.in_ok-item.ensures)
    (found-item c.loop-after.invariant.list (onward-end c.loop-after.invariant.indices (end-indices c.in_default.ensures.after)))

pub atom-returns-in-Some-clause-reads : goal.atom-returns-in-Some-clause-reads
atom-returns-in-Some-clause-reads t c =
    let us = c.in-Some.rest.now in
    subst (λ x. Reads tree_of Atom (StopsAt 7) x c.closed.result) (sym c.in-Some.ensures.after)
    (reads-pass tree_of (Closed (token.Symbol symbol.CloseParenthesis)) Always us Atom (StopsAt 7) (token.Symbol symbol.OpenParenthesis ∷ us) (λ a vs f. found-parenthesized f) no-parenthesized c.closed.result c.closed.ensures.reads)

pub atom-returns-in-Some-2 : goal.atom-returns-in-Some-2
atom-returns-in-Some-2 t c =
    let front = c.in-Some-split_first.ensures.cases in
    record {
      reads = subst (λ x. Found Atom (StopsAt 7) x (tree_of c.in-Some-2.found) c.in-Some-split_first.rest.now) (sym front.0) (found-literal (sym c.in_ok-found.ensures ∙ ap (option_map tree_of) c.in-Some-2.is));
      shorter = omega (arith, front.1);
    }

pub atom-returns-in-None : goal.atom-returns-in-None
atom-returns-in-None t c =
    let front = c.in-Some-split_first.ensures.cases in
    let rest = c.in-Some-split_first.rest.now in
    record {
      reads = subst (λ x. Nothing {A = Tree} Atom (StopsAt 7) x) (sym front.0)
          (no-atom (sym c.in_ok-found.ensures ∙ ap (option_map tree_of) c.in-None.is) (λ x e. c.in_default-first.not-Name x e)
          (λ e. c.in_default.ensures.after rest (front.0 ∙ ap (λ x. x ∷ rest) e)) (λ e. c.in_default-after_symbol.ensures.after rest (front.0 ∙ ap (λ x. x ∷ rest) e)));
      shorter = tt;
    }

pub argument-returns-in_err-body-clause-reads : goal.argument-returns-in_err-body-clause-reads
argument-returns-in_err-body-clause-reads t c =
    let us = c.in-Some.rest.now in
    subst (λ x. Reads argument_of OneGiven EndsGiven x c.from_residual.result) (sym c.in-Some.ensures.name)
    (reads-exit (Chain rank.Or) (StopsAt 1) us argument_of OneGiven EndsGiven (token.Name c.in-Some.parameter.now ∷ (token.Symbol symbol.Arrow ∷ us)) no-arrow c.from_residual.result _ c.from_residual.ensures.1 c.in_err-body.ensures.reads)

pub argument-returns-in-Some-clause-reads : goal.argument-returns-in-Some-clause-reads
argument-returns-in-Some-clause-reads t c =
    let body = c.in_ok-body.body in
    let us = c.in_ok-body.rest.now in
    let seen = view-Arrow c.in_ok-try_clone.field-0 body ∙ ap (λ x. arrow x (tree_of body)) c.in_ok-try_clone.ensures in
    subst (λ a. Found OneGiven EndsGiven c.args.tokens.now a us) (sym seen)
    (subst (λ x. Found OneGiven EndsGiven x (arrow c.in-Some.parameter.now (tree_of body)) us) (sym c.in-Some.ensures.name) (found-arrow c.in_ok-body.ensures.reads))

pub argument-returns-clause-reads : goal.argument-returns-clause-reads
argument-returns-clause-reads t c =
    subst (λ a. Found OneGiven EndsGiven c.args.tokens.now a c.in_ok-value.rest.now) (sym (view-Plain c.in_ok-value.value)) (found-value c.in_default.ensures.name c.in_ok-value.ensures.reads)

pub arguments-returns-in-Some-clause-reads : goal.arguments-returns-in-Some-clause-reads
arguments-returns-in-Some-clause-reads t c =
    let us = c.in-Some.rest.now in
    subst (λ x. Found Given Always c.args.tokens.now (map argument_of x) us) (sym c.new-given.ensures.items)
    (subst (λ x. Found Given Always x [] us) (sym c.in-Some.ensures.after) found-none-given)

pub arguments-returns-in_err-first-clause-reads : goal.arguments-returns-in_err-first-clause-reads
arguments-returns-in_err-first-clause-reads t c =
    let ts = c.args.tokens.now in
    reads-exit OneGiven EndsGiven ts (λ given. map argument_of given.items) Given Always ts (no-given c.in_default.ensures.after) c.from_residual.result _ c.from_residual.ensures.1 c.in_err-first.ensures.reads

pub arguments-returns-in_err-next-clause-reads : goal.arguments-returns-in_err-next-clause-reads
arguments-returns-in_err-next-clause-reads t c =
    reads-exit OneGiven EndsGiven c.in-Some-after_symbol.after.now (λ given. map argument_of given.items) Given Always c.args.tokens.now
    (λ n. no-given-more c.in_default.ensures.after c.in_ok-first.ensures.reads (onward-nothing c.loop-after.invariant.2 (subst (λ x. Nothing {A = List Argument} MoreGiven Always x) (sym c.in-Some-after_symbol.ensures.after) (no-one-given n))))
    c.from_residual-in_err-next.result _ c.from_residual-in_err-next.ensures.1 c.in_err-next.ensures.reads

pub arguments-loop-after-preserved : goal.arguments-loop-after-preserved
arguments-loop-after-preserved t c =
    let so_far = c.loop-after.invariant in
    let next = c.in_ok-next.next in
    let after = c.in_ok-next.after.now in
    let last = argument_of next ∷ [] in (
      so_far.0 ++ last,
      ap (map argument_of) c.in_ok-push-2.ensures.items ∙ (map-append argument_of c.loop-after.given.items (next ∷ []) ∙ (ap (λ xs. xs ++ last) so_far.1 ∙ append_assoc (map argument_of c.push.new.self.items) so_far.0 last)),
      onward-then so_far.2 (subst (λ x. Onward MoreGiven Always x last after) (sym c.in-Some-after_symbol.ensures.after) (one-given c.in_ok-next.ensures.reads)),
      omega (arith, c.in-Some-after_symbol.ensures.shorter, c.in_ok-next.ensures.shorter, so_far.3),
    )

pub arguments-returns-in-Some-after_symbol-2-clause-reads : goal.arguments-returns-in-Some-after_symbol-2-clause-reads
arguments-returns-in-Some-after_symbol-2-clause-reads t c =
    let so_far = c.loop-after.invariant in
    let first = c.in_ok-first.first in
    let us = c.in-Some-after_symbol-2.rest.now in
    let begun : map argument_of c.push.new.self.items ≡ argument_of first ∷ [] = ap (map argument_of) (c.in_ok-push.ensures.items ∙ ap (λ xs. xs ++ first ∷ []) c.new-given.ensures.items) in
    subst (λ all. Found Given Always c.args.tokens.now all us) (sym (so_far.1 ∙ ap (λ xs. xs ++ so_far.0) begun))
    (found-given c.in_default.ensures.after c.in_ok-first.ensures.reads (onward-end so_far.2 (subst (λ x. Found MoreGiven Always x [] us) (sym c.in-Some-after_symbol-2.ensures.after) found-last-given)))

pub arguments-returns-clause-reads : goal.arguments-returns-clause-reads
arguments-returns-clause-reads t c =
    no-given-more c.in_default.ensures.after c.in_ok-first.ensures.reads (onward-nothing c.loop-after.invariant.2 (no-more-given c.in_default-after_symbol.ensures.after c.in-None.ensures.after))

pub bracketed-returns-in-Some-clause-reads : goal.bracketed-returns-in-Some-clause-reads
bracketed-returns-in-Some-clause-reads t c =
    let us = c.in-Some.rest.now in
    let seen = c.list.ensures ∙ ap (λ es. display (trees (map tree_of es))) c.new.ensures.items in
    subst (λ x. Found Bracketed Always c.args.tokens.now x us) (sym seen) (subst (λ x. Found Bracketed Always x (display (trees [])) us) (sym c.in-Some.ensures.after) found-empty)

pub bracketed-returns-in_err-first-clause-reads : goal.bracketed-returns-in_err-first-clause-reads
bracketed-returns-in_err-first-clause-reads t c =
    let ts = c.args.tokens.now in
    reads-exit (Chain rank.Or) (StopsAt 1) ts tree_of Bracketed Always ts (no-first-entry c.in_default.ensures.after) c.from_residual.result _ c.from_residual.ensures.1 c.in_err-first.ensures.reads

pub bracketed-returns-in_err-high-in-Some-after_symbol-clause-reads : goal.bracketed-returns-in_err-high-in-Some-after_symbol-clause-reads
bracketed-returns-in_err-high-in-Some-after_symbol-clause-reads t c =
    let ts = c.args.tokens.now in
    let low = subst (λ x. Found (Chain rank.Or) (StopsAt 1) ts (tree_of c.in_ok-first.first) x) c.in-Some-after_symbol.ensures.after c.in_ok-first.ensures.reads in
    reads-exit (Closed (token.Symbol symbol.CloseBracket)) Always c.in-Some-after_symbol.rest.now tree_of Bracketed Always ts (no-range low)
    c.from_residual-in_err-high-in-Some-after_symbol.result _ c.from_residual-in_err-high-in-Some-after_symbol.ensures.1 c.in_err-high-in-Some-after_symbol.ensures.reads

pub bracketed-returns-in_ok-range-in-Some-after_symbol-clause-reads : goal.bracketed-returns-in_ok-range-in-Some-after_symbol-clause-reads
bracketed-returns-in_ok-range-in-Some-after_symbol-clause-reads t c =
    let ts = c.args.tokens.now in
    let low = subst (λ x. Found (Chain rank.Or) (StopsAt 1) ts (tree_of c.in_ok-first.first) x) c.in-Some-after_symbol.ensures.after c.in_ok-first.ensures.reads in
    subst (λ x. Found Bracketed Always ts x c.in_ok-high-in-Some-after_symbol.rest.now) (sym c.in_ok-range-in-Some-after_symbol.ensures) (found-range low c.in_ok-high-in-Some-after_symbol.ensures.reads)

pub bracketed-returns-in-None-clause-reads : goal.bracketed-returns-in-None-clause-reads
bracketed-returns-in-None-clause-reads t c =
    let ts = c.args.tokens.now in
    let us = c.in_ok-first.rest.now in
    reads-pass tree_of (Listed (tree_of c.in_ok-first.first)) Always us Bracketed Always ts (λ a vs f. found-list c.in_ok-first.ensures.reads c.in-None.ensures.after f) (no-list c.in_ok-first.ensures.reads c.in-None.ensures.after) c.listed.result c.listed.ensures.reads

pub listed-returns-in_err-next-clause-reads : goal.listed-returns-in_err-next-clause-reads
listed-returns-in_err-next-clause-reads t c =
    reads-exit (Chain rank.Or) (StopsAt 1) c.in-Some.after.now tree_of (Listed (tree_of c.args.first)) Always c.args.tokens.now
    (λ n. no-listed (onward-nothing c.loop-after.invariant.2 (subst (λ x. Nothing {A = List Tree} Entries Always x) (sym c.in-Some.ensures.after) (no-entry n))))
    c.from_residual-in_err-next.result _ c.from_residual-in_err-next.ensures.1 c.in_err-next.ensures.reads

pub listed-loop-after-preserved : goal.listed-loop-after-preserved
listed-loop-after-preserved t c =
    let so_far = c.loop-after.invariant in
    let next = c.in_ok-next.next in
    let after = c.in_ok-next.after.now in
    let last = tree_of next ∷ [] in (
      so_far.0 ++ last,
      ap (map tree_of) c.in_ok-push-2.ensures.items ∙ (map-append tree_of c.loop-after.entries.items (next ∷ []) ∙ (ap (λ xs. xs ++ last) so_far.1 ∙ append_assoc (map tree_of c.push.new.self.items) so_far.0 last)),
      onward-then so_far.2 (subst (λ x. Onward Entries Always x last after) (sym c.in-Some.ensures.after) (one-entry c.in_ok-next.ensures.reads)),
      omega (arith, c.in-Some.ensures.shorter, c.in_ok-next.ensures.shorter, so_far.3),
    )

pub listed-returns-in-Some-after_symbol-clause-reads : goal.listed-returns-in-Some-after_symbol-clause-reads
listed-returns-in-Some-after_symbol-clause-reads t c =
    let so_far = c.loop-after.invariant in
    let first = c.args.first in
    let us = c.in-Some-after_symbol.rest.now in
    let begun : map tree_of c.push.new.self.items ≡ tree_of first ∷ [] = ap (map tree_of) (c.in_ok-push.ensures.items ∙ ap (λ xs. xs ++ first ∷ []) c.new-entries.ensures.items) in
    let seen = c.list.ensures ∙ ap (λ ts. display (trees ts)) (so_far.1 ∙ ap (λ xs. xs ++ so_far.0) begun) in
    subst (λ x. Found (Listed (tree_of first)) Always c.args.tokens.now x us) (sym seen)
    (found-listed (onward-end so_far.2 (subst (λ x. Found Entries Always x [] us) (sym c.in-Some-after_symbol.ensures.after) found-last-entry)))

pub named-returns-in_default-clause-reads : goal.named-returns-in_default-clause-reads
named-returns-in_default-clause-reads t c =
    let ts = c.args.tokens.now in
    let x = c.args.name.now in
    subst (λ a. Found (Named x) (StopsAt 7) ts a ts) (sym (view-Var c.in_ok-try_clone.field-0 ∙ ap variable c.in_ok-try_clone.ensures)) (found-variable c.in_default.ensures.after)

pub named-returns-in_err-given-clause-reads : goal.named-returns-in_err-given-clause-reads
named-returns-in_err-given-clause-reads t c =
    let us = c.in-Some.rest.now in
    let x = c.args.name.now in
    subst (λ ts. Reads tree_of (Named x) (StopsAt 7) ts c.from_residual-in_err-given.result) (sym c.in-Some.ensures.after)
    (reads-exit Given Always us tree_of (Named x) (StopsAt 7) (token.Symbol symbol.OpenParenthesis ∷ us) no-call c.from_residual-in_err-given.result _ c.from_residual-in_err-given.ensures.1 c.in_err-given.ensures.reads)

pub named-returns-clause-reads : goal.named-returns-clause-reads
named-returns-clause-reads t c =
    let us = c.in_ok-given.rest.now in
    let x = c.args.name.now in
    let given = map argument_of c.in_ok-given.given.items in
    let seen = c.called.ensures ∙ ap (λ y. call y (arguments given)) c.in_ok-try_clone-2.ensures in
    subst (λ a. Found (Named x) (StopsAt 7) c.args.tokens.now a us) (sym seen)
    (subst (λ ts. Found (Named x) (StopsAt 7) ts (call x (arguments given)) us) (sym c.in-Some.ensures.after) (found-call c.in_ok-given.ensures.reads))
