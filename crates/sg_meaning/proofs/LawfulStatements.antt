-- Statements over lawful variables ask about lawful values, and leave lawful variables.
use Rattle.std.proofs.Common.{ℕ, Bool, true, false, List, [], Option, Some, None}
use Rattle.sg_value.specs.Plain.{Things}
use Rattle.std.specs.Prelude.{if◌then◌else◌, ⊤}
use Rattle.sg_value.specs.Data.{Items, none, item}
use Rattle.sg_tree.specs.Tree.{Tree, number, quoted, truth, failing, variable, call, display, span, minus, negation, chain, compare, item as item_tree, Arguments, Code, nothing, quit, assign, choose, each, perform, Arms, no_arms, arm, Block, skip, code}
use Rattle.sg_rows.specs.Order.{Plain}
use Rattle.sg_rows.specs.Kinds.{as_list}
use Rattle.sg_rows.specs.Lawful.{IsLawful, AreLawful, IsLawfulThing}
use Rattle.sg_rows.proofs.KindLemmas.{as_list-each}
use Rattle.sg_calls.specs.Commands.{word_named}
use Rattle.sg_meaning.specs.Process.{Process, gives, sets, ◌>>=◌}
use Rattle.sg_meaning.specs.Expressions.{eval, eval_given, decided, listed}
use Rattle.sg_meaning.specs.Statements.{on, printed, is_print, call_done, done, over, exec, exec_all, exec_arms, whole}
use Rattle.sg_meaning.specs.Lawful.{AreLawfulVars, SomeEnd}
use Rattle.sg_meaning.specs.Vars.{Vars}
use Rattle.sg_meaning.proofs.SomeEnd.{StaysLawful, then_lawful, end_some}
use Rattle.sg_meaning.proofs.LawfulExpressions.{decided_lawful, listed_lawful, if_lawful, AreLawfulIf, eval_lawful, eval_given_lawful}

-- what gives nothing
abbrev Fine : {A : Type 0} → Process A → Type 0
Fine p = StaysLawful (λ a. ⊤) p

printed_lawful : (o : Option (Items Things)) → Fine (printed o)
printed_lawful None = tt
printed_lawful (Some ds) = tt

abbrev dropped : Plain → Process (Unit {0})
dropped d = gives tt

dropped_lawful : (t : Tree) → Fine (eval [] t >>= dropped)
dropped_lawful t = then_lawful IsLawful (λ a. ⊤) (eval [] t) dropped (eval_lawful [] t tt) (λ d l. tt)

call_done_lawful : (b : Bool) (name : List ℕ) (args : Arguments) → Fine (call_done b name args)
call_done_lawful true name args = then_lawful AreLawfulIf (λ a. ⊤) (eval_given [] args) printed (eval_given_lawful [] args tt) (λ o l. printed_lawful o)
call_done_lawful false name args = dropped_lawful (call name args)

done_lawful : (t : Tree) → Fine (done t)
done_lawful (call name args) = call_done_lawful (is_print (word_named name)) name args
done_lawful (number z) = dropped_lawful (number z)
done_lawful (quoted bs) = dropped_lawful (quoted bs)
done_lawful (truth b) = dropped_lawful (truth b)
done_lawful failing = dropped_lawful failing
done_lawful (variable x) = dropped_lawful (variable x)
done_lawful (display ts) = dropped_lawful (display ts)
done_lawful (span low high) = dropped_lawful (span low high)
done_lawful (item_tree t places) = dropped_lawful (item_tree t places)
done_lawful (minus n t) = dropped_lawful (minus n t)
done_lawful (negation n t) = dropped_lawful (negation n t)
done_lawful (chain t ls) = dropped_lawful (chain t ls)
done_lawful (compare r left right) = dropped_lawful (compare r left right)

over_lawful : (f : Plain → Process (Unit {0})) → ((d : Plain) → IsLawful d → Fine (f d)) → (ds : Items Things) → AreLawful ds → Fine (over f ds)
over_lawful f lawful none h = tt
over_lawful f lawful (item d ds) h = then_lawful (λ u. ⊤) (λ u. ⊤) (f d) (λ u. over f ds) (lawful d h.0) (λ u l. over_lawful f lawful ds h.1)

mutual
  exec_lawful : (c : Code) → Fine (exec c)
  exec_lawful nothing = tt
  exec_lawful quit = tt
  exec_lawful (assign x t) = then_lawful IsLawful (λ u. ⊤) (eval [] t) (λ d. sets x d (gives tt)) (eval_lawful [] t tt) (λ d l. (l, tt))
  exec_lawful (choose guarded other) = exec_arms_lawful guarded (exec_all other) (exec_all_lawful other)
  exec_lawful (each x t body) = then_lawful IsLawful (λ u. ⊤) (eval [] t) (λ d. listed (as_list d) (over (λ e. sets x e (exec_all body)))) (eval_lawful [] t tt)
      (λ d l. listed_lawful (λ u. ⊤) (as_list d) (over (λ e. sets x e (exec_all body))) ((as_list-each IsLawfulThing) d l)
      (λ ds m. over_lawful (λ e. sets x e (exec_all body)) (λ e k. (k, exec_all_lawful body)) ds m))
  exec_lawful (perform t) = done_lawful t

  exec_all_lawful : (b : Block) → Fine (exec_all b)
  exec_all_lawful skip = tt
  exec_all_lawful (code c cs) = then_lawful (λ u. ⊤) (λ u. ⊤) (exec c) (λ u. exec_all cs) (exec_lawful c) (λ u l. exec_all_lawful cs)

  exec_arms_lawful : (guarded : Arms) (otherwise : Process (Unit {0})) → Fine otherwise → Fine (exec_arms guarded otherwise)
  exec_arms_lawful no_arms otherwise h = h
  exec_arms_lawful (arm t body others) otherwise h = then_lawful IsLawful (λ u. ⊤) (eval [] t) (λ d. decided d (λ b. if b then exec_all body else exec_arms others otherwise)) (eval_lawful [] t tt)
      (λ d l. decided_lawful (λ u. ⊤) d (λ b. if b then exec_all body else exec_arms others otherwise)
      (λ b. if_lawful (λ u. ⊤) b (exec_all body) (exec_arms others otherwise) (exec_all_lawful body) (exec_arms_lawful others otherwise h)))

on_lawful : (p : Process (Unit {0})) → Fine p → Fine (p >>= (λ u. gives on))
on_lawful p h = then_lawful (λ u. ⊤) (λ g. ⊤) p (λ u. gives on) h (λ u l. tt)

whole_lawful : (c : Code) → Fine (whole c)
whole_lawful quit = tt
whole_lawful nothing = on_lawful (exec nothing) (exec_lawful nothing)
whole_lawful (assign x t) = on_lawful (exec (assign x t)) (exec_lawful (assign x t))
whole_lawful (choose guarded other) = on_lawful (exec (choose guarded other)) (exec_lawful (choose guarded other))
whole_lawful (each x t body) = on_lawful (exec (each x t body)) (exec_lawful (each x t body))
whole_lawful (perform t) = on_lawful (exec (perform t)) (exec_lawful (perform t))

-- a statement over lawful variables ends
pub statement_some : (n : ℕ) (c : Code) (vars : Vars) → AreLawfulVars vars → SomeEnd n (λ g. ⊤) (whole c) vars
statement_some n c vars l = end_some n (λ g. ⊤) (whole c) vars (whole_lawful c) l
