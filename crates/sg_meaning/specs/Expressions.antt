-- What expressions do.
use Rattle.std.specs.Prelude.{ℕ, zero, suc, Bool, true, false, not, List, ◌∷◌, pos, Option, Some, None, Ok, Err, if◌then◌else◌}
use Rattle.sg_value.specs.Plain.{Things}
use Rattle.std.specs.Map.{lookup}
use Rattle.std.specs.Str.{bytes_eq}
use Rattle.std.specs.Option.{option_map}
use Rattle.sg_value.specs.Data.{int, truth as a_truth, text, list, ratio, fail, semigroup, ideal, Items, none, item}
use Rattle.sg_tree.specs.Tree.{Tree, number, quoted, truth, failing, variable, call, display, span, item as item_tree, minus, negation, chain, compare, Trees, no_trees, tree, plain, arrow, Arguments, no_arguments, argument, Links, no_links, link}
use Rattle.sg_tree.specs.declared.expr.Op.TheVariants.{Or, And, Plus, Less, Times, Mod}
use Rattle.sg_tree.specs.declared.expr.Rel.{Rel}
use Rattle.sg_tree.specs.declared.expr.Rel.TheVariants.{Eq, Ne, Lt, Le, Gt, Ge, Member}
use Rattle.sg_calls.specs.declared.operator.Operator.{Operator}
use Rattle.sg_calls.specs.declared.operator.Operator.TheVariants as operator
use Rattle.sg_rows.specs.declared.fault.Fault.TheVariants.{UnknownName, WrongType, WrongCount}
use Rattle.sg_rows.specs.Order.{Plain, Reply}
use Rattle.sg_rows.specs.Kinds.{as_list}
use Rattle.sg_calls.specs.Commands.{takes, word_named}
use Rattle.sg_rows.specs.Entries.{entry_count}
use Rattle.sg_calls.specs.declared.command.Command.{Command}
use Rattle.sg_calls.specs.declared.command.Folding.{Folding}
use Rattle.sg_calls.specs.declared.command.Folding.TheVariants.{EachValue, ThoseTrue, AllTrue, AnyTrue, CountTrue}
use Rattle.sg_calls.specs.declared.command.Word.{Word}
use Rattle.sg_calls.specs.declared.command.Word.TheVariants as word
use Rattle.sg_meaning.specs.Queries.{Query, calls, combines, negates, lists, spans, indexes}
use Rattle.sg_meaning.specs.Process.{Process, gives, refuses, reads, asks, ◌>>=◌}
use Rattle.sg_meaning.specs.Vars.{Vars}

abbrev pub known : Option Plain → Process Plain
known None = refuses UnknownName
known (Some d) = gives d

-- a name is that of a parameter, or else of a variable
abbrev pub looked_up : Option Plain → List ℕ → Process Plain
looked_up (Some d) x = gives d
looked_up None x = reads x known

abbrev pub replied : Reply → Process Plain
replied (Ok d) = gives d
replied (Err e) = refuses e

abbrev pub ask : Query → Process Plain
ask q = asks q replied

-- a truth value, or it is refused
abbrev pub decided : {A : Type 0} → Plain → (Bool → Process A) → Process A
decided (a_truth b) f = f b
decided (int z) f = refuses WrongType
decided (text bs) f = refuses WrongType
decided (list ds) f = refuses WrongType
decided (ratio p q) f = refuses WrongType
decided fail f = refuses WrongType
decided (semigroup G) f = refuses WrongType
decided (ideal G) f = refuses WrongType

-- the entries of a list, or it is refused
abbrev pub listed : {A : Type 0} → Option (Items Things) → (Items Things → Process A) → Process A
listed None f = refuses WrongType
listed (Some ds) f = f ds

-- so many minus signs, the innermost first
abbrev pub negated : ℕ → Plain → Process Plain
negated zero d = gives d
negated (suc n) d = ask (negates d) >>= negated n

-- so many times the other truth value
abbrev pub turned : ℕ → Bool → Bool
turned zero b = b
turned (suc n) b = turned n (not b)

abbrev pub relation : Rel → Operator
relation Eq = operator.Eq
relation Ne = operator.Ne
relation Lt = operator.Lt
relation Le = operator.Le
relation Gt = operator.Gt
relation Ge = operator.Ge
relation Member = operator.Member

-- the arguments of a command, none of which may be an arrow
abbrev pub plain_alone : Option (Items Things) → (Items Things → Process Plain) → Process Plain
plain_alone None f = refuses WrongType
plain_alone (Some ds) f = f ds

abbrev pub argument_count : Arguments → ℕ
argument_count no_arguments = 0
argument_count (argument a others) = suc (argument_count others)

-- a command of values, by how many arguments it has and what they give
abbrev pub answered : Command → ℕ → Process (Option (Items Things)) → Process Plain
answered c count given = if takes c count then given >>= (λ values. plain_alone values (λ ds. ask (calls c ds))) else refuses WrongCount

-- a call, by what its name stands for; a command with an arrow is answered here, and Print is a whole statement alone
abbrev pub called : Option Word → ℕ → Process (Option (Items Things)) → (Folding → Process Plain) → Process Plain
called (Some (word.Arrow f)) count given fold = fold f
called (Some (word.Command c)) count given fold = answered c count given
called (Some word.Print) count given fold = refuses UnknownName
called None count given fold = refuses UnknownName

-- over the entries in their order, with what an arrow gives of each
abbrev pub values_over : (Plain → Process Plain) → Items Things → Process (Items Things)
values_over f none = gives none
values_over f (item d ds) = f d >>= (λ v. values_over f ds >>= (λ vs. gives (item v vs)))

abbrev pub true_over : (Plain → Process Plain) → Items Things → Process (Items Things)
true_over f none = gives none
true_over f (item d ds) = f d >>= (λ v. decided v (λ b. true_over f ds >>= (λ es. gives (if b then item d es else es))))

-- whether it is b for each; it stops at the first for which it is not
abbrev pub is_each : Bool → (Plain → Process Plain) → Items Things → Process Bool
is_each b f none = gives b
is_each b f (item d ds) = f d >>= (λ v. decided v (λ c. if (if b then c else not c) then is_each b f ds else gives (not b)))

abbrev pub folded : Folding → (Plain → Process Plain) → Items Things → Process Plain
folded EachValue f ds = values_over f ds >>= (λ vs. ask (lists vs))
folded ThoseTrue f ds = true_over f ds >>= (λ es. ask (lists es))
folded AllTrue f ds = is_each true f ds >>= (λ b. gives (a_truth b))
folded AnyTrue f ds = is_each false f ds >>= (λ b. gives (a_truth b))
folded CountTrue f ds = true_over f ds >>= (λ es. gives (int (pos (entry_count es))))

abbrev mutual
  pub eval : Vars → Tree → Process Plain
  eval env (number z) = gives (int z)
  eval env (quoted bs) = gives (text bs)
  eval env (truth b) = gives (a_truth b)
  eval env failing = gives fail
  eval env (variable x) = looked_up (lookup (bytes_eq x) env) x
  eval env (call name args) = called (word_named name) (argument_count args) (eval_given env args) (eval_folding env args)
  eval env (display ts) = eval_all env ts >>= (λ ds. ask (lists ds))
  eval env (span low high) = eval env low >>= (λ a. eval env high >>= (λ b. ask (spans a b)))
  eval env (item_tree t places) = eval env t >>= (λ d. eval_places env d places)
  eval env (minus n t) = eval env t >>= negated n
  eval env (negation n t) = eval env t >>= (λ d. decided d (λ b. gives (a_truth (turned n b))))
  eval env (chain t ls) = eval env t >>= (λ d. eval_links env d ls)
  eval env (compare r left right) = eval env left >>= (λ a. eval env right >>= (λ b. ask (combines (relation r) a b)))

  pub eval_all : Vars → Trees → Process (Items Things)
  eval_all env no_trees = gives none
  eval_all env (tree t ts) = eval env t >>= (λ d. eval_all env ts >>= (λ ds. gives (item d ds)))

  -- each place is used before the next is computed
  pub eval_places : Vars → Plain → Trees → Process Plain
  eval_places env d no_trees = gives d
  eval_places env d (tree t ts) = eval env t >>= (λ i. ask (indexes d i) >>= (λ e. eval_places env e ts))

  -- operators are applied from the left, each before the next operand is computed; a truth value that decides ends a
  -- chain of its kind
  pub eval_links : Vars → Plain → Links → Process Plain
  eval_links env d no_links = gives d
  eval_links env d (link Or t ls) = decided d (λ b. if b then gives (a_truth true) else eval env t >>= (λ e. decided e (λ c. eval_links env e ls)))
  eval_links env d (link And t ls) = decided d (λ b. if b then eval env t >>= (λ e. decided e (λ c. eval_links env e ls)) else gives (a_truth false))
  eval_links env d (link Plus t ls) = eval env t >>= (λ e. ask (combines operator.Plus d e) >>= (λ s. eval_links env s ls))
  eval_links env d (link Less t ls) = eval env t >>= (λ e. ask (combines operator.Less d e) >>= (λ s. eval_links env s ls))
  eval_links env d (link Times t ls) = eval env t >>= (λ e. ask (combines operator.Times d e) >>= (λ s. eval_links env s ls))
  eval_links env d (link Mod t ls) = eval env t >>= (λ e. ask (combines operator.Mod d e) >>= (λ s. eval_links env s ls))

  -- the values of arguments, or none where there is an arrow among them
  pub eval_given : Vars → Arguments → Process (Option (Items Things))
  eval_given env no_arguments = gives (Some none)
  eval_given env (argument (plain t) others) = eval env t >>= (λ d. eval_given env others >>= (λ ds. gives (option_map (item d) ds)))
  eval_given env (argument (arrow x t) others) = eval_given env others >>= (λ ds. gives None)

  -- a list, and what is computed of each of its entries
  pub eval_folding : Vars → Arguments → Folding → Process Plain
  eval_folding env no_arguments f = refuses WrongCount
  eval_folding env (argument a no_arguments) f = refuses WrongCount
  eval_folding env (argument (plain t) (argument (arrow x body) no_arguments)) f = eval env t >>= (λ d. listed (as_list d) (folded f (λ e. eval ((x, e) ∷ env) body)))
  eval_folding env (argument (plain t) (argument (plain u) no_arguments)) f = eval env t >>= (λ d. eval env u >>= (λ e. refuses WrongType))
  eval_folding env (argument (plain t) (argument b (argument c others))) f = refuses WrongCount
  eval_folding env (argument (arrow x t) (argument (plain u) no_arguments)) f = eval env u >>= (λ e. refuses WrongType)
  eval_folding env (argument (arrow x t) (argument (arrow y u) no_arguments)) f = refuses WrongType
  eval_folding env (argument (arrow x t) (argument b (argument c others))) f = refuses WrongCount
