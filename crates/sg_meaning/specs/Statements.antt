-- What statements do.
use Rattle.std.specs.Prelude.{ℕ, Bool, true, false, List, [], ◌++◌, Option, Some, None, if◌then◌else◌}
use Rattle.sg_value.specs.Plain.{Things}
use Rattle.sg_value.specs.Data.{Items, none, item}
use Rattle.sg_value.specs.Text.{text_of}
use Rattle.sg_tree.specs.Tree.{Tree, number, quoted, truth, failing, variable, call, display, span, minus, negation, chain, compare, item as item_tree, Arguments, Code, nothing, quit, assign, choose, each, perform, Arms, no_arms, arm, Block, skip, code}
use Rattle.sg_rows.specs.declared.fault.Fault.TheVariants.{WrongType}
use Rattle.sg_rows.specs.Order.{Plain}
use Rattle.sg_rows.specs.Kinds.{as_list}
use Rattle.sg_calls.specs.Commands.{word_named}
use Rattle.sg_calls.specs.declared.command.Word.{Word}
use Rattle.sg_calls.specs.declared.command.Word.TheVariants as word
use Rattle.sg_meaning.specs.Process.{Process, gives, refuses, sets, writes, ◌>>=◌}
use Rattle.sg_meaning.specs.Expressions.{eval, eval_given, decided, listed}

-- how a statement ends that is not refused
pub data Going : Type 0 where
  on : Going
  ended : Going

-- the texts of values, one after the other
abbrev pub texts_of : Items Things → List ℕ
texts_of none = []
texts_of (item d ds) = text_of d ++ texts_of ds

-- once all arguments are values, their texts are written
abbrev pub printed : Option (Items Things) → Process (Unit {0})
printed None = refuses WrongType
printed (Some ds) = writes (texts_of ds) (gives tt)

-- whether a name stands for the statement that prints
abbrev pub is_print : Option Word → Bool
is_print (Some word.Print) = true
is_print (Some (word.Arrow f)) = false
is_print (Some (word.Command c)) = false
is_print None = false

-- a call of this name as a whole statement
abbrev pub call_done : Bool → List ℕ → Arguments → Process (Unit {0})
call_done true name args = eval_given [] args >>= printed
call_done false name args = eval [] (call name args) >>= (λ d. gives tt)

-- a value is computed and dropped; Print is a whole statement, and known as no other expression
abbrev pub done : Tree → Process (Unit {0})
done (call name args) = call_done (is_print (word_named name)) name args
done (number z) = eval [] (number z) >>= (λ d. gives tt)
done (quoted bs) = eval [] (quoted bs) >>= (λ d. gives tt)
done (truth b) = eval [] (truth b) >>= (λ d. gives tt)
done failing = eval [] failing >>= (λ d. gives tt)
done (variable x) = eval [] (variable x) >>= (λ d. gives tt)
done (display ts) = eval [] (display ts) >>= (λ d. gives tt)
done (span low high) = eval [] (span low high) >>= (λ d. gives tt)
done (item_tree t places) = eval [] (item_tree t places) >>= (λ d. gives tt)
done (minus n t) = eval [] (minus n t) >>= (λ d. gives tt)
done (negation n t) = eval [] (negation n t) >>= (λ d. gives tt)
done (chain t ls) = eval [] (chain t ls) >>= (λ d. gives tt)
done (compare r left right) = eval [] (compare r left right) >>= (λ d. gives tt)

-- something for each entry in its order
abbrev pub over : (Plain → Process (Unit {0})) → Items Things → Process (Unit {0})
over f none = gives tt
over f (item d ds) = f d >>= (λ u. over f ds)

abbrev mutual
  -- a statement inside a block, which never ends the run
  pub exec : Code → Process (Unit {0})
  exec nothing = gives tt
  exec quit = gives tt
  exec (assign x t) = eval [] t >>= (λ d. sets x d (gives tt))
  exec (choose guarded other) = exec_arms guarded (exec_all other)
  exec (each x t body) = eval [] t >>= (λ d. listed (as_list d) (over (λ e. sets x e (exec_all body))))
  exec (perform t) = done t

  pub exec_all : Block → Process (Unit {0})
  exec_all skip = gives tt
  exec_all (code c cs) = exec c >>= (λ u. exec_all cs)

  -- the first arm whose condition is true
  pub exec_arms : Arms → Process (Unit {0}) → Process (Unit {0})
  exec_arms no_arms otherwise = otherwise
  exec_arms (arm t body others) otherwise = eval [] t >>= (λ d. decided d (λ b. if b then exec_all body else exec_arms others otherwise))

-- a whole statement: it ends the run, or the run goes on
abbrev pub whole : Code → Process Going
whole quit = gives ended
whole nothing = exec nothing >>= (λ u. gives on)
whole (assign x t) = exec (assign x t) >>= (λ u. gives on)
whole (choose guarded other) = exec (choose guarded other) >>= (λ u. gives on)
whole (each x t body) = exec (each x t body) >>= (λ u. gives on)
whole (perform t) = exec (perform t) >>= (λ u. gives on)
