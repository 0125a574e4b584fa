-- Blocks, arms, loops and whole statements, piece by piece.
use Rattle.std.proofs.Common.{◌≡◌, ◌<◌, ◌+◌, ℕ, List, [], length, get_or, drop, Bool, true, false, Option, Some, None, Vec, Global, refl, ap, sym, ◌∙◌}
use Rattle.sg_value.specs.Plain.{Things}
use Rattle.std.specs.Prelude.{if◌then◌else◌}
use Rattle.std.proofs.Math.Path.{fun_ext}
use Rattle.std.proofs.lemmas.List.{drop_more}
use Rattle.sg_value.specs.Data.{Items, truth, int, text, list, ratio, fail, semigroup, ideal}
use Rattle.sg_rows.specs.Kinds.{as_list}
use Rattle.sg_rows.specs.Order.{Plain}
use Rattle.sg_calls.specs.Commands.{word_named}
use Rattle.sg_tree.specs.Tree.{Tree, number, quoted, truth as truth_tree, failing, variable, call, display, span, item as item_tree, minus, negation, chain, compare, Arguments, Code, nothing, quit, assign, choose, each, perform, Arms, no_arms, arm, Block, code}
use Rattle.sg_tree.specs.TreeView.{tree_of, code_of, block_of, arms_of}
use Rattle.sg_tree.specs.declared.expr.Expr.{Expr}
use Rattle.sg_tree.specs.declared.stmt.Stmt.{Stmt}
use Rattle.sg_meaning.specs.Expressions.{eval, eval_given, decided, listed}
use Rattle.sg_meaning.specs.Process.{Process, gives, sets, ◌>>=◌}
use Rattle.sg_meaning.specs.Statements.{on, ended, exec, exec_all, exec_arms, over, done, is_print, call_done, printed, whole}
use Rattle.sg_eval.specs.Steps.{arm_done, held, listed_of, is_quit, printing, printed_arguments}
use Rattle.sg_meaning.proofs.Sequels.{assoc, right_unit}
use Rattle.sg_eval.proofs.Deciding.{decided_bind}

-- the statements from one on
pub block_of-drop : (ss : List Stmt) (i : ℕ) (c : Stmt) → i < length ss → c ≡ get_or ss i c → block_of (drop i ss) ≡ code (code_of c) (block_of (drop (i + 1) ss))
block_of-drop ss i c within is = ap block_of (drop_more ss i c within) ∙ ap (λ x. code (code_of x) (block_of (drop (i + 1) ss))) (sym is)

-- the arms from one on
pub arms_of-drop : (gs : List (Expr × Vec Stmt Global)) (i : ℕ) (g : Expr × Vec Stmt Global) → i < length gs → g ≡ get_or gs i g → arms_of (drop i gs) ≡ arm (tree_of g.0) (block_of g.1.items) (arms_of (drop (i + 1) gs))
arms_of-drop gs i g within is = ap arms_of (drop_more gs i g within) ∙ ap (λ x. arm (tree_of x.0) (block_of x.1.items) (arms_of (drop (i + 1) gs))) (sym is)

-- an arm, once its condition is known
pub arm_step : (t : Tree) (body : Block) (others : Arms) → held [] t >>= (λ b. if b then exec_all body >>= (λ u. gives true) else arm_done others) ≡ arm_done (arm t body others)
arm_step t body others =
    assoc (eval [] t) (λ d. decided d (λ b. gives b)) (λ b. if b then exec_all body >>= (λ u. gives true) else arm_done others)
    ∙ ap (λ k. eval [] t >>= k) (fun_ext (λ d. decided_bind d (λ b. if b then exec_all body >>= (λ u. gives true) else arm_done others)))

after_decided : (d : Plain) (body : Block) (others : Arms) (other : Process (Unit {0})) → arm_done others >>= (λ b. if b then gives tt else other) ≡ exec_arms others other
    → decided d (λ b. if b then exec_all body >>= (λ u. gives true) else arm_done others) >>= (λ b. if b then gives tt else other) ≡ decided d (λ b. if b then exec_all body else exec_arms others other)
after_decided (truth true) body others other more = assoc (exec_all body) (λ u. gives true) (λ b. if b then gives tt else other) ∙ right_unit (exec_all body)
after_decided (truth false) body others other more = more
after_decided (int z) body others other more = refl
after_decided (text bs) body others other more = refl
after_decided (list ds) body others other more = refl
after_decided (ratio p q) body others other more = refl
after_decided fail body others other more = refl
after_decided (semigroup h) body others other more = refl
after_decided (ideal h) body others other more = refl

-- a choice: its arms, and what is done where none is taken
pub choose_step : (guarded : Arms) (other : Process (Unit {0})) → arm_done guarded >>= (λ b. if b then gives tt else other) ≡ exec_arms guarded other
choose_step no_arms other = refl
choose_step (arm t body others) other =
    assoc (eval [] t) (λ d. decided d (λ b. if b then exec_all body >>= (λ u. gives true) else arm_done others)) (λ b. if b then gives tt else other)
    ∙ ap (λ k. eval [] t >>= k) (fun_ext (λ d. after_decided d body others other (choose_step others other)))

listed_next : (o : Option (Items Things)) (f : Items Things → Process (Unit {0})) → listed o (λ ds. gives ds) >>= f ≡ listed o f
listed_next None f = refl
listed_next (Some ds) f = refl

-- a loop: its list, and what is done for each entry
pub each_step : (x : List ℕ) (t : Tree) (body : Block) → listed_of [] t >>= over (λ e. sets x e (exec_all body)) ≡ exec (each x t body)
each_step x t body =
    assoc (eval [] t) (λ d. listed (as_list d) (λ ds. gives ds)) (over (λ e. sets x e (exec_all body)))
    ∙ ap (λ k. eval [] t >>= k) (fun_ext (λ d. listed_next (as_list d) (over (λ e. sets x e (exec_all body)))))

-- Print, and any other expression
some-same : (a b : Arguments) → Some a ≡ Some b → a ≡ b
some-same a b h = cc

-- a call of Print is done as such
pub done_printed : (t : Tree) (args : Arguments) → printed_arguments t ≡ Some args → eval_given [] args >>= printed ≡ done t
done_printed (call name given) args is = by_name (is_print (word_named name)) is
  where
    by_name : (b : Bool) → printing b given ≡ Some args → eval_given [] args >>= printed ≡ call_done b name given
    by_name true h = ap (λ x. eval_given [] x >>= printed) (sym (some-same given args h))
    by_name false h = absurd (cc)
done_printed (number z) args is = absurd (cc)
done_printed (quoted bs) args is = absurd (cc)
done_printed (truth_tree b) args is = absurd (cc)
done_printed failing args is = absurd (cc)
done_printed (variable x) args is = absurd (cc)
done_printed (display ts) args is = absurd (cc)
done_printed (span low high) args is = absurd (cc)
done_printed (item_tree t places) args is = absurd (cc)
done_printed (minus n t) args is = absurd (cc)
done_printed (negation n t) args is = absurd (cc)
done_printed (chain t ls) args is = absurd (cc)
done_printed (compare r left right) args is = absurd (cc)

-- any other expression is computed and dropped
pub done_dropped : (t : Tree) → printed_arguments t ≡ None → eval [] t >>= (λ d. gives tt) ≡ done t
done_dropped (call name given) is = by_name (is_print (word_named name)) is
  where
    by_name : (b : Bool) → printing b given ≡ None → eval [] (call name given) >>= (λ d. gives tt) ≡ call_done b name given
    by_name true h = absurd (cc)
    by_name false h = refl
done_dropped (number z) is = refl
done_dropped (quoted bs) is = refl
done_dropped (truth_tree b) is = refl
done_dropped failing is = refl
done_dropped (variable x) is = refl
done_dropped (display ts) is = refl
done_dropped (span low high) is = refl
done_dropped (item_tree t places) is = refl
done_dropped (minus n t) is = refl
done_dropped (negation n t) is = refl
done_dropped (chain t ls) is = refl
done_dropped (compare r left right) is = refl

-- a whole statement
pub whole_on : (c : Code) → is_quit c ≡ false → exec c >>= (λ u. gives on) ≡ whole c
whole_on nothing is = refl
whole_on quit is = absurd (cc)
whole_on (assign x t) is = refl
whole_on (choose guarded other) is = refl
whole_on (each x t body) is = refl
whole_on (perform t) is = refl

-- the statement that ends the run
pub whole_ended : (c : Code) → is_quit c ≡ true → gives ended ≡ whole c
whole_ended nothing is = absurd (cc)
whole_ended quit is = refl
whole_ended (assign x t) is = absurd (cc)
whole_ended (choose guarded other) is = absurd (cc)
whole_ended (each x t body) is = absurd (cc)
whole_ended (perform t) is = absurd (cc)
