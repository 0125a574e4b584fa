use Rattle.std.proofs.Common.{◌≡◌, ◌∷◌, ◌++◌, List, [], map, true, false, sym, ap, ◌∙◌, subst, append_assoc, arith, Vec, Global}
use Rattle.std.proofs.lemmas.List.{map-append}
use Rattle.sg_token.specs.declared.symbol.Symbol.TheVariants as symbol
use Rattle.sg_token.specs.declared.token.Token.TheVariants as token
use Rattle.sg_token.specs.declared.word.Word.TheVariants as word
use Rattle.sg_tree.specs.declared.expr.Expr.{Expr}
use Rattle.sg_tree.specs.declared.stmt.Stmt.{Stmt}
use Rattle.sg_tree.specs.Tree.{Tree, Code, Block, assign, choose, each, arms, block}
use Rattle.sg_tree.specs.TreeView.{tree_of, code_of, block_of}
use Rattle.sg_tree.proofs.StatementLevels.{view-Empty, view-Assign, view-If, view-For, view-Do}
use Rattle.sg_script.specs.Bodies.{ends_body, EndsBody, EndsChoice, Choice, Repetition}
use Rattle.sg_script.specs.Grammar.{Arm, Elifs, Otherwise, Body, OneOf}
use Rattle.sg_expression.specs.Reading.{Reads, Found, Nothing, Onward, Closed, Always}
use Rattle.sg_expression.proofs.OnwardLemmas.{onward-begin, onward-then, onward-nothing}
use Rattle.sg_expression.proofs.ExitLemmas.{reads-exit, reads-pass, onward-end}
use Rattle.sg_script.proofs.StatementLemmas.{found-nothing, found-assigned, no-assigned, found-if, no-if, found-for, no-for, IsPlain, found-performed, no-performed, one-of-body, no-body, end-body, found-arm, no-arm-test, no-arm-body, one-elif, no-elif, end-elifs, found-fi, found-else, no-else-body, no-else-end, no-otherwise, found-choice, no-choice-arm, no-choice-elifs, no-choice-other, no-choice-end, found-repetition, no-repetition-list, no-repetition-body, no-repetition-end, no-repetition-name}
use Rattle.sg_script.proofs.statement.+statements.Goals as goal

abbrev arm_of : (Expr × Vec Stmt Global) → Tree × Block
arm_of a = (tree_of a.0, block_of a.1.items)

-- arms

pub arm-returns-in_err-test-clause-reads : goal.arm-returns-in_err-test-clause-reads
arm-returns-in_err-test-clause-reads t c =
    let ts = c.args.tokens.now in
    reads-exit (Closed (token.Word word.Then)) Always ts arm_of Arm EndsBody ts no-arm-test c.from_residual.result _ c.from_residual.ensures.1 c.in_err-test.ensures.reads

pub arm-returns-in_err-guarded-clause-reads : goal.arm-returns-in_err-guarded-clause-reads
arm-returns-in_err-guarded-clause-reads t c =
    reads-exit Body EndsBody c.in_ok-test.rest.now arm_of Arm EndsBody c.args.tokens.now (no-arm-body c.in_ok-test.ensures.reads)
    c.from_residual-in_err-guarded.result _ c.from_residual-in_err-guarded.ensures.1 c.in_err-guarded.ensures.reads

pub arm-returns-clause-reads : goal.arm-returns-clause-reads
arm-returns-clause-reads t c = found-arm c.in_ok-test.ensures.reads c.in_ok-guarded.ensures.reads

-- blocks

pub body-loop-alloc-init : goal.body-loop-alloc-init
body-loop-alloc-init t c =
    let ts = c.args.tokens.now in
    record {
      statements = subst (λ x. Onward Body EndsBody ts (map code_of x) ts) (sym c.new-found.ensures.items) (onward-begin Body EndsBody ts);
      shorter = omega arith;
    }

pub body-returns-in_err-next-clause-reads : goal.body-returns-in_err-next-clause-reads
body-returns-in_err-next-clause-reads t c =
    let goes : ends_body c.loop-alloc.rest.now ≡ false = sym c.is_block_over.ensures ∙ c.loop-alloc-test.true in
    reads-exit OneOf Always c.loop-alloc.rest.now (λ b. map code_of b.items) Body EndsBody c.args.tokens.now (λ n. onward-nothing c.loop-alloc.invariant.statements (no-body goes n))
    c.from_residual.result _ c.from_residual.ensures.1 c.in_err-next.ensures.reads

pub body-loop-alloc-preserved : goal.body-loop-alloc-preserved
body-loop-alloc-preserved t c =
    let goes : ends_body c.loop-alloc.rest.now ≡ false = sym c.is_block_over.ensures ∙ c.loop-alloc-test.true in
    let next = c.in_ok-next.next in
    record {
      statements = subst (λ x. Onward Body EndsBody c.args.tokens.now x c.in_ok-next.after.now)
          (sym (ap (map code_of) c.in_ok-push.ensures.items ∙ map-append code_of c.loop-alloc.found.items (next ∷ [])))
          (onward-then c.loop-alloc.invariant.statements (one-of-body goes c.in_ok-next.ensures.reads));
      shorter = omega (arith, c.in_ok-next.ensures.shorter, c.loop-alloc.invariant.shorter);
    }

pub body-returns-clause-reads : goal.body-returns-clause-reads
body-returns-clause-reads t c =
    let ends : ends_body c.loop-alloc.rest.now ≡ true = sym c.is_block_over.ensures ∙ c.loop-alloc-test.false in
    onward-end c.loop-alloc.invariant.statements (end-body ends)

-- choices

pub choice-returns-in_err-first-clause-reads : goal.choice-returns-in_err-first-clause-reads
choice-returns-in_err-first-clause-reads t c =
    let ts = c.args.tokens.now in
    reads-exit Arm EndsBody ts code_of Choice Always ts no-choice-arm c.from_residual.result _ c.from_residual.ensures.1 c.in_err-first.ensures.reads

pub choice-returns-in_err-next-clause-reads : goal.choice-returns-in_err-next-clause-reads
choice-returns-in_err-next-clause-reads t c =
    reads-exit Arm EndsBody c.in-Some.after.now code_of Choice Always c.args.tokens.now
    (λ n. no-choice-elifs c.in_ok-first.ensures.reads (onward-nothing c.loop-after.invariant.2 (subst (λ x. Nothing {A = List (Tree × Block)} Elifs EndsChoice x) (sym c.in-Some.ensures.after) (no-elif n))))
    c.from_residual-in_err-next.result _ c.from_residual-in_err-next.ensures.1 c.in_err-next.ensures.reads

pub choice-loop-after-preserved : goal.choice-loop-after-preserved
choice-loop-after-preserved t c =
    let so_far = c.loop-after.invariant in
    let next = c.in_ok-next.next in
    let after = c.in_ok-next.after.now in
    let last = arm_of next ∷ [] in (
      so_far.0 ++ last,
      ap (map arm_of) c.in_ok-push-2.ensures.items ∙ (map-append arm_of c.loop-after.arms.items (next ∷ []) ∙ (ap (λ xs. xs ++ last) so_far.1 ∙ append_assoc (map arm_of c.push.new.self.items) so_far.0 last)),
      onward-then so_far.2 (subst (λ x. Onward Elifs EndsChoice x last after) (sym c.in-Some.ensures.after) (one-elif c.in_ok-next.ensures.reads)),
      omega (arith, c.in-Some.ensures.shorter, c.in_ok-next.ensures.shorter, so_far.3),
    )

pub choice-returns-in_err-other-clause-reads : goal.choice-returns-in_err-other-clause-reads
choice-returns-in_err-other-clause-reads t c =
    let so_far = c.loop-after.invariant in
    reads-exit Otherwise Always c.loop-after.rest.now code_of Choice Always c.args.tokens.now
    (no-choice-other c.in_ok-first.ensures.reads (onward-end so_far.2 (end-elifs c.in_default.ensures.after)))
    c.from_residual-in_err-other.result _ c.from_residual-in_err-other.ensures.1 c.in_err-other.ensures.reads

pub choice-returns-in-Some-after_symbol-clause-reads : goal.choice-returns-in-Some-after_symbol-clause-reads
choice-returns-in-Some-after_symbol-clause-reads t c =
    let ts = c.args.tokens.now in
    let so_far = c.loop-after.invariant in
    let first = c.in_ok-first.first in
    let us = c.in-Some-after_symbol.rest.now in
    let other = map code_of c.in_ok-other.other.items in
    let begun : map arm_of c.push.new.self.items ≡ arm_of first ∷ [] = ap (map arm_of) (c.in_ok-push.ensures.items ∙ ap (λ xs. xs ++ first ∷ []) c.new-arms.ensures.items) in
    let seen = view-If c.loop-after.arms c.in_ok-other.other ∙ ap (λ x. choose (arms x) (block other)) (so_far.1 ∙ ap (λ xs. xs ++ so_far.0) begun) in
    let behind = subst (λ x. Found Otherwise Always c.loop-after.rest.now other x) c.in-Some-after_symbol.ensures.after c.in_ok-other.ensures.reads in
    subst (λ x. Found Choice Always ts x us) (sym seen)
    (found-choice c.in_ok-first.ensures.reads (onward-end so_far.2 (end-elifs c.in_default.ensures.after)) behind)

pub choice-returns-clause-reads : goal.choice-returns-clause-reads
choice-returns-clause-reads t c =
    no-choice-end c.in_ok-first.ensures.reads (onward-end c.loop-after.invariant.2 (end-elifs c.in_default.ensures.after)) c.in_ok-other.ensures.reads c.in-None.ensures.after

-- the block behind `else`

pub otherwise-returns-in-Some-clause-reads : goal.otherwise-returns-in-Some-clause-reads
otherwise-returns-in-Some-clause-reads t c =
    let us = c.in-Some.rest.now in
    subst (λ x. Found Otherwise Always c.args.tokens.now (map code_of x) us) (sym c.new.ensures.items) (subst (λ x. Found Otherwise Always x [] us) (sym c.in-Some.ensures.after) found-fi)

pub otherwise-returns-in_default-after_word-clause-reads : goal.otherwise-returns-in_default-after_word-clause-reads
otherwise-returns-in_default-after_word-clause-reads t c = no-otherwise c.in_default.ensures.after c.in_default-after_word.ensures.after

pub otherwise-returns-in_err-other-clause-reads : goal.otherwise-returns-in_err-other-clause-reads
otherwise-returns-in_err-other-clause-reads t c =
    let us = c.in-Some-after_word.rest.now in
    subst (λ x. Reads (λ b. map code_of b.items) Otherwise Always x c.from_residual.result) (sym c.in-Some-after_word.ensures.after)
    (reads-exit Body EndsBody us (λ b. map code_of b.items) Otherwise Always (token.Word word.Else ∷ us) no-else-body c.from_residual.result _ c.from_residual.ensures.1 c.in_err-other.ensures.reads)

pub otherwise-returns-in-Some-after_word-2-clause-reads : goal.otherwise-returns-in-Some-after_word-2-clause-reads
otherwise-returns-in-Some-after_word-2-clause-reads t c =
    let us = c.in-Some-after_word-2.rest.now in
    let other = map code_of c.in_ok-other.other.items in
    subst (λ x. Found Otherwise Always x other us) (sym c.in-Some-after_word.ensures.after)
    (found-else (subst (λ x. Found Body EndsBody c.in-Some-after_word.rest.now other x) c.in-Some-after_word-2.ensures.after c.in_ok-other.ensures.reads))

pub otherwise-returns-in-None-clause-reads : goal.otherwise-returns-in-None-clause-reads
otherwise-returns-in-None-clause-reads t c =
    subst (λ x. Nothing {A = List Code} Otherwise Always x) (sym c.in-Some-after_word.ensures.after) (no-else-end c.in_ok-other.ensures.reads c.in-None.ensures.after)

-- repetitions

pub repetition-returns-in_default-clause-reads : goal.repetition-returns-in_default-clause-reads
repetition-returns-in_default-clause-reads t c = no-repetition-name c.in_default.ensures.name

pub repetition-returns-in_err-list-clause-reads : goal.repetition-returns-in_err-list-clause-reads
repetition-returns-in_err-list-clause-reads t c =
    let us = c.in-Some.rest.now in
    let x = c.in-Some.name.now in
    subst (λ z. Reads code_of Repetition Always z c.from_residual.result) (sym c.in-Some.ensures.name)
    (reads-exit (Closed (token.Word word.Do)) Always us code_of Repetition Always (token.Name x ∷ (token.Word word.In ∷ us)) no-repetition-list c.from_residual.result _ c.from_residual.ensures.1 c.in_err-list.ensures.reads)

pub repetition-returns-in_err-guarded-clause-reads : goal.repetition-returns-in_err-guarded-clause-reads
repetition-returns-in_err-guarded-clause-reads t c =
    let us = c.in-Some.rest.now in
    let x = c.in-Some.name.now in
    subst (λ z. Reads code_of Repetition Always z c.from_residual-in_err-guarded.result) (sym c.in-Some.ensures.name)
    (reads-exit Body EndsBody c.in_ok-list.rest.now code_of Repetition Always (token.Name x ∷ (token.Word word.In ∷ us)) (no-repetition-body c.in_ok-list.ensures.reads) c.from_residual-in_err-guarded.result _ c.from_residual-in_err-guarded.ensures.1 c.in_err-guarded.ensures.reads)

pub repetition-returns-in_default-after_word-clause-reads : goal.repetition-returns-in_default-after_word-clause-reads
repetition-returns-in_default-after_word-clause-reads t c =
    subst (λ z. Nothing {A = Code} Repetition Always z) (sym c.in-Some.ensures.name)
    (no-repetition-end c.in_ok-list.ensures.reads c.in_ok-guarded.ensures.reads (λ zs e. c.in_default-after_word.ensures.after (token.Symbol symbol.Semicolon ∷ zs) e))

pub repetition-returns-in_ok-try_clone-in-Some-after_symbol-clause-reads : goal.repetition-returns-in_ok-try_clone-in-Some-after_symbol-clause-reads
repetition-returns-in_ok-try_clone-in-Some-after_symbol-clause-reads t c =
    let us = c.in-Some-after_symbol.rest.now in
    let list = tree_of c.in_ok-list.list in
    let guarded = map code_of c.in_ok-guarded.guarded.items in
    let x = c.in-Some.name.now in
    let seen = view-For c.in_ok-try_clone-in-Some-after_symbol.field-0 c.in_ok-list.list c.in_ok-guarded.guarded ∙ ap (λ y. each y list (block guarded)) c.in_ok-try_clone-in-Some-after_symbol.ensures in
    let behind = subst (λ z. Found Body EndsBody c.in_ok-list.rest.now guarded z) (c.in-Some-after_word.ensures.after ∙ ap (λ z. token.Word word.Od ∷ z) c.in-Some-after_symbol.ensures.after) c.in_ok-guarded.ensures.reads in
    subst (λ z. Found Repetition Always c.args.tokens.now z us) (sym seen)
    (subst (λ z. Found Repetition Always z (each x list (block guarded)) us) (sym c.in-Some.ensures.name) (found-repetition c.in_ok-list.ensures.reads behind))

pub repetition-returns-in-None-clause-reads : goal.repetition-returns-in-None-clause-reads
repetition-returns-in-None-clause-reads t c =
    subst (λ z. Nothing {A = Code} Repetition Always z) (sym c.in-Some.ensures.name)
    (no-repetition-end c.in_ok-list.ensures.reads c.in_ok-guarded.ensures.reads
    (λ zs e. c.in-None.ensures.after zs (let both = sym c.in-Some-after_word.ensures.after ∙ e in cc)))

-- one statement

pub one_statement-returns-in-Some-clause-reads : goal.one_statement-returns-in-Some-clause-reads
one_statement-returns-in-Some-clause-reads t c =
    let us = c.in-Some.rest.now in
    subst (λ x. Found OneOf Always c.args.tokens.now x us) (sym view-Empty) (subst (λ x. Found OneOf Always x _ us) (sym c.in-Some.ensures.after) found-nothing)

pub one_statement-returns-in_err-value-clause-reads : goal.one_statement-returns-in_err-value-clause-reads
one_statement-returns-in_err-value-clause-reads t c =
    let us = c.in-Some-name_before.rest.now in
    let x = c.in-Some-name_before.name.now in
    subst (λ z. Reads code_of OneOf Always z c.from_residual.result) (sym c.in-Some-name_before.ensures.name)
    (reads-exit (Closed (token.Symbol symbol.Semicolon)) Always us code_of OneOf Always (token.Name x ∷ (token.Symbol symbol.Assign ∷ us)) no-assigned c.from_residual.result _ c.from_residual.ensures.1 c.in_err-value.ensures.reads)

pub one_statement-returns-in-Some-name_before-clause-reads : goal.one_statement-returns-in-Some-name_before-clause-reads
one_statement-returns-in-Some-name_before-clause-reads t c =
    let us = c.in_ok-value.rest.now in
    let x = c.in-Some-name_before.name.now in
    let value = tree_of c.in_ok-value.value in
    let seen = view-Assign c.in_ok-try_clone.field-0 c.in_ok-value.value ∙ ap (λ y. assign y value) c.in_ok-try_clone.ensures in
    subst (λ z. Found OneOf Always c.args.tokens.now z us) (sym seen)
    (subst (λ z. Found OneOf Always z (assign x value) us) (sym c.in-Some-name_before.ensures.name) (found-assigned c.in_ok-value.ensures.reads))

pub one_statement-returns-in-Some-after_word-clause-reads : goal.one_statement-returns-in-Some-after_word-clause-reads
one_statement-returns-in-Some-after_word-clause-reads t c =
    let us = c.in-Some-after_word.rest.now in
    subst (λ z. Reads code_of OneOf Always z c.choice.result) (sym c.in-Some-after_word.ensures.after)
    (reads-pass code_of Choice Always us OneOf Always (token.Word word.If ∷ us) (λ a vs f. found-if f) no-if c.choice.result c.choice.ensures.reads)

pub one_statement-returns-in-Some-after_word-2-clause-reads : goal.one_statement-returns-in-Some-after_word-2-clause-reads
one_statement-returns-in-Some-after_word-2-clause-reads t c =
    let us = c.in-Some-after_word-2.rest.now in
    subst (λ z. Reads code_of OneOf Always z c.repetition.result) (sym c.in-Some-after_word-2.ensures.after)
    (reads-pass code_of Repetition Always us OneOf Always (token.Word word.For ∷ us) (λ a vs f. found-for f) no-for c.repetition.result c.repetition.ensures.reads)

pub one_statement-returns-in_err-value-2-clause-reads : goal.one_statement-returns-in_err-value-2-clause-reads
one_statement-returns-in_err-value-2-clause-reads t c =
    let ts = c.args.tokens.now in
    let simple : IsPlain ts = record { empty = c.in_default.ensures.after; assigned = c.in_default-name_before.ensures.name; chosen = c.in_default-after_word.ensures.after; repeated = c.in_default-after_word-2.ensures.after } in
    reads-exit (Closed (token.Symbol symbol.Semicolon)) Always ts code_of OneOf Always ts (no-performed simple) c.from_residual-in_err-value-2.result _ c.from_residual-in_err-value-2.ensures.1 c.in_err-value-2.ensures.reads

pub one_statement-returns-clause-reads : goal.one_statement-returns-clause-reads
one_statement-returns-clause-reads t c =
    let ts = c.args.tokens.now in
    let simple : IsPlain ts = record { empty = c.in_default.ensures.after; assigned = c.in_default-name_before.ensures.name; chosen = c.in_default-after_word.ensures.after; repeated = c.in_default-after_word-2.ensures.after } in
    subst (λ z. Found OneOf Always ts z c.in_ok-value-2.rest.now) (sym (view-Do c.in_ok-value-2.value)) (found-performed simple c.in_ok-value-2.ensures.reads)
