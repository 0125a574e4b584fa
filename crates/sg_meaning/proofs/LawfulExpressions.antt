-- Expressions over lawful parameters and variables ask about lawful values, and give such.
use Rattle.std.proofs.Common.{ℕ, zero, suc, pos, Bool, true, false, not, List, ◌∷◌, Option, Some, None, Ok, Err}
use Rattle.sg_value.specs.Plain.{Things}
use Rattle.std.specs.Prelude.{if◌then◌else◌, IfSome, ⊤}
use Rattle.std.specs.Map.{lookup}
use Rattle.std.specs.Str.{bytes_eq}
use Rattle.std.specs.Option.{option_map}
use Rattle.sg_value.specs.Data.{int, truth as a_truth, text, list, ratio, fail, semigroup, ideal, Items, none, item}
use Rattle.sg_tree.specs.Tree.{Tree, number, quoted, truth, failing, variable, call, display, span, item as item_tree, minus, negation, chain, compare, Trees, no_trees, tree, plain, arrow, Arguments, no_arguments, argument, Links, no_links, link}
use Rattle.sg_tree.specs.declared.expr.Op.TheVariants.{Or, And, Plus, Less, Times, Mod}
use Rattle.sg_calls.specs.declared.operator.Operator.TheVariants as operator
use Rattle.sg_rows.specs.declared.fault.Fault.TheVariants.{WrongCount}
use Rattle.sg_rows.specs.Order.{Plain, Reply}
use Rattle.sg_rows.specs.Kinds.{as_list}
use Rattle.sg_rows.specs.Entries.{entry_count}
use Rattle.sg_rows.specs.Lawful.{IsLawful, AreLawful, IsLawfulReply, IsLawfulThing}
use Rattle.sg_rows.proofs.KindLemmas.{as_list-each}
use Rattle.sg_calls.specs.Commands.{takes, word_named}
use Rattle.sg_meaning.specs.Queries.{Query, calls, combines, negates, lists, spans, indexes}
use Rattle.sg_meaning.specs.Process.{Process, gives, refuses, ◌>>=◌}
use Rattle.sg_meaning.specs.Vars.{Vars}
use Rattle.sg_meaning.specs.Lawful.{AreLawfulVars, IsLawfulQuery}
use Rattle.sg_calls.specs.declared.command.Command.{Command}
use Rattle.sg_calls.specs.declared.command.Folding.{Folding}
use Rattle.sg_calls.specs.declared.command.Folding.TheVariants.{EachValue, ThoseTrue, AllTrue, AnyTrue, CountTrue}
use Rattle.sg_calls.specs.declared.command.Word.{Word}
use Rattle.sg_calls.specs.declared.command.Word.TheVariants as word
use Rattle.sg_meaning.specs.Expressions.{known, looked_up, replied, ask, decided, listed, negated, turned, relation, plain_alone, argument_count, answered, called, values_over, true_over, is_each, folded, eval, eval_all, eval_places, eval_links, eval_given, eval_folding}
use Rattle.sg_meaning.proofs.SomeEnd.{StaysLawful, then_lawful, value_at_lawful}

known_lawful : (o : Option Plain) → IfSome o IsLawful → StaysLawful IsLawful (known o)
known_lawful None h = tt
known_lawful (Some d) h = h

named_lawful : (o : Option Plain) (x : List ℕ) → IfSome o IsLawful → StaysLawful IsLawful (looked_up o x)
named_lawful (Some d) x h = h
named_lawful None x h = known_lawful

replied_lawful : (r : Reply) → IsLawfulReply r → StaysLawful IsLawful (replied r)
replied_lawful (Ok d) h = h
replied_lawful (Err e) h = tt

ask_lawful : (q : Query) → IsLawfulQuery q → StaysLawful IsLawful (ask q)
ask_lawful q h = (h, replied_lawful)

-- what comes of a value as a truth value
pub decided_lawful : {A : Type 0} (M : A → Type 0) (d : Plain) (f : Bool → Process A) → ((b : Bool) → StaysLawful M (f b)) → StaysLawful M (decided d f)
decided_lawful M (a_truth b) f h = h b
decided_lawful M (int z) f h = tt
decided_lawful M (text bs) f h = tt
decided_lawful M (list ds) f h = tt
decided_lawful M (ratio p q) f h = tt
decided_lawful M fail f h = tt
decided_lawful M (semigroup G) f h = tt
decided_lawful M (ideal G) f h = tt

-- what comes of a value as a list
pub listed_lawful : {A : Type 0} (M : A → Type 0) (o : Option (Items Things)) (f : Items Things → Process A) → IfSome o AreLawful →
    ((ds : Items Things) → AreLawful ds → StaysLawful M (f ds)) → StaysLawful M (listed o f)
listed_lawful M None f l h = tt
listed_lawful M (Some ds) f l h = h ds l

-- what comes of either branch
pub if_lawful : {A : Type 0} (M : A → Type 0) (b : Bool) (p q : Process A) → StaysLawful M p → StaysLawful M q → StaysLawful M (if b then p else q)
if_lawful M true p q h k = h
if_lawful M false p q h k = k

if_items : (b : Bool) (ds es : Items Things) → AreLawful ds → AreLawful es → AreLawful (if b then ds else es)
if_items true ds es h k = h
if_items false ds es h k = k

negated_lawful : (n : ℕ) (d : Plain) → IsLawful d → StaysLawful IsLawful (negated n d)
negated_lawful zero d h = h
negated_lawful (suc n) d h = then_lawful IsLawful IsLawful (ask (negates d)) (negated n) (ask_lawful (negates d) h) (negated_lawful n)

-- all arguments, where none is an arrow
abbrev pub AreLawfulIf : Option (Items Things) → Type 0
AreLawfulIf o = IfSome o AreLawful

plain_alone_lawful : (o : Option (Items Things)) (f : Items Things → Process Plain) → IfSome o AreLawful →
    ((ds : Items Things) → AreLawful ds → StaysLawful IsLawful (f ds)) → StaysLawful IsLawful (plain_alone o f)
plain_alone_lawful None f l h = tt
plain_alone_lawful (Some ds) f l h = h ds l

answered_lawful : (c : Command) (n : ℕ) (args : Process (Option (Items Things))) → StaysLawful AreLawfulIf args → StaysLawful IsLawful (answered c n args)
answered_lawful c n args h = if_lawful IsLawful (takes c n) (args >>= (λ values. plain_alone values (λ ds. ask (calls c ds)))) (refuses WrongCount)
    (then_lawful AreLawfulIf IsLawful args (λ values. plain_alone values (λ ds. ask (calls c ds))) h
    (λ o l. plain_alone_lawful o (λ ds. ask (calls c ds)) l (λ ds m. ask_lawful (calls c ds) m))) tt

called_lawful : (w : Option Word) (n : ℕ) (args : Process (Option (Items Things))) (fold : Folding → Process Plain) →
    StaysLawful AreLawfulIf args → ((f : Folding) → StaysLawful IsLawful (fold f)) → StaysLawful IsLawful (called w n args fold)
called_lawful (Some (word.Arrow f)) n args fold h k = k f
called_lawful (Some (word.Command c)) n args fold h k = answered_lawful c n args h
called_lawful (Some word.Print) n args fold h k = tt
called_lawful None n args fold h k = tt

with_lawful : (d : Plain) (o : Option (Items Things)) → IsLawful d → IfSome o AreLawful → IfSome (option_map (item d) o) AreLawful
with_lawful d None l h = tt
with_lawful d (Some ds) l h = (l, h)

-- ---- arrows

module _ (f : Plain → Process Plain) (each : (d : Plain) → IsLawful d → StaysLawful IsLawful (f d)) where
  values_lawful : (ds : Items Things) → AreLawful ds → StaysLawful AreLawful (values_over f ds)
  values_lawful none h = tt
  values_lawful (item d ds) h = then_lawful IsLawful AreLawful (f d) (λ v. values_over f ds >>= (λ vs. gives (item v vs))) (each d h.0)
      (λ v l. then_lawful AreLawful AreLawful (values_over f ds) (λ vs. gives (item v vs)) (values_lawful ds h.1) (λ vs m. (l, m)))

  true_lawful : (ds : Items Things) → AreLawful ds → StaysLawful AreLawful (true_over f ds)
  true_lawful none h = tt
  true_lawful (item d ds) h = then_lawful IsLawful AreLawful (f d) (λ v. decided v (λ b. true_over f ds >>= (λ es. gives (if b then item d es else es)))) (each d h.0)
      (λ v l. decided_lawful AreLawful v (λ b. true_over f ds >>= (λ es. gives (if b then item d es else es)))
      (λ b. then_lawful AreLawful AreLawful (true_over f ds) (λ es. gives (if b then item d es else es)) (true_lawful ds h.1) (λ es m. if_items b (item d es) es (h.0, m) m)))

  is_each_lawful : (b : Bool) (ds : Items Things) → AreLawful ds → StaysLawful (λ c. ⊤) (is_each b f ds)
  is_each_lawful b none h = tt
  is_each_lawful b (item d ds) h = then_lawful IsLawful (λ c. ⊤) (f d) (λ v. decided v (λ c. if (if b then c else not c) then is_each b f ds else gives (not b))) (each d h.0)
      (λ v l. decided_lawful (λ c. ⊤) v (λ c. if (if b then c else not c) then is_each b f ds else gives (not b))
      (λ c. if_lawful (λ c. ⊤) (if b then c else not c) (is_each b f ds) (gives (not b)) (is_each_lawful b ds h.1) tt))

  folded_lawful : (fold : Folding) (ds : Items Things) → AreLawful ds → StaysLawful IsLawful (folded fold f ds)
  folded_lawful EachValue ds h = then_lawful AreLawful IsLawful (values_over f ds) (λ vs. ask (lists vs)) (values_lawful ds h) (λ vs l. ask_lawful (lists vs) l)
  folded_lawful ThoseTrue ds h = then_lawful AreLawful IsLawful (true_over f ds) (λ es. ask (lists es)) (true_lawful ds h) (λ es l. ask_lawful (lists es) l)
  folded_lawful AllTrue ds h = then_lawful (λ b. ⊤) IsLawful (is_each true f ds) (λ b. gives (a_truth b)) (is_each_lawful true ds h) (λ b l. tt)
  folded_lawful AnyTrue ds h = then_lawful (λ b. ⊤) IsLawful (is_each false f ds) (λ b. gives (a_truth b)) (is_each_lawful false ds h) (λ b l. tt)
  folded_lawful CountTrue ds h = then_lawful AreLawful IsLawful (true_over f ds) (λ es. gives (int (pos (entry_count es)))) (true_lawful ds h) (λ es l. tt)

-- ---- expressions

mutual
  -- expressions give lawful values
  pub eval_lawful : (env : Vars) (t : Tree) → AreLawfulVars env → StaysLawful IsLawful (eval env t)
  eval_lawful env (number z) h = tt
  eval_lawful env (quoted bs) h = tt
  eval_lawful env (truth b) h = tt
  eval_lawful env failing h = tt
  eval_lawful env (variable x) h = named_lawful (lookup (bytes_eq x) env) x (value_at_lawful env x h)
  eval_lawful env (call name args) h =
      called_lawful (word_named name) (argument_count args) (eval_given env args) (eval_folding env args) (eval_given_lawful env args h) (λ f. eval_folding_lawful env args f h)
  eval_lawful env (display ts) h = then_lawful AreLawful IsLawful (eval_all env ts) (λ ds. ask (lists ds)) (eval_all_lawful env ts h) (λ ds l. ask_lawful (lists ds) l)
  eval_lawful env (span low high) h = then_lawful IsLawful IsLawful (eval env low) (λ a. eval env high >>= (λ b. ask (spans a b))) (eval_lawful env low h)
      (λ a l. then_lawful IsLawful IsLawful (eval env high) (λ b. ask (spans a b)) (eval_lawful env high h) (λ b m. ask_lawful (spans a b) (l, m)))
  eval_lawful env (item_tree t places) h = then_lawful IsLawful IsLawful (eval env t) (λ d. eval_places env d places) (eval_lawful env t h) (λ d l. eval_places_lawful env d places h l)
  eval_lawful env (minus n t) h = then_lawful IsLawful IsLawful (eval env t) (negated n) (eval_lawful env t h) (negated_lawful n)
  eval_lawful env (negation n t) h = then_lawful IsLawful IsLawful (eval env t) (λ d. decided d (λ b. gives (a_truth (turned n b)))) (eval_lawful env t h)
      (λ d l. decided_lawful IsLawful d (λ b. gives (a_truth (turned n b))) (λ b. tt))
  eval_lawful env (chain t ls) h = then_lawful IsLawful IsLawful (eval env t) (λ d. eval_links env d ls) (eval_lawful env t h) (λ d l. eval_links_lawful env d ls h l)
  eval_lawful env (compare r left right) h = then_lawful IsLawful IsLawful (eval env left) (λ a. eval env right >>= (λ b. ask (combines (relation r) a b))) (eval_lawful env left h)
      (λ a l. then_lawful IsLawful IsLawful (eval env right) (λ b. ask (combines (relation r) a b)) (eval_lawful env right h) (λ b m. ask_lawful (combines (relation r) a b) (l, m)))

  eval_all_lawful : (env : Vars) (ts : Trees) → AreLawfulVars env → StaysLawful AreLawful (eval_all env ts)
  eval_all_lawful env no_trees h = tt
  eval_all_lawful env (tree t ts) h = then_lawful IsLawful AreLawful (eval env t) (λ d. eval_all env ts >>= (λ ds. gives (item d ds))) (eval_lawful env t h)
      (λ d l. then_lawful AreLawful AreLawful (eval_all env ts) (λ ds. gives (item d ds)) (eval_all_lawful env ts h) (λ ds m. (l, m)))

  eval_places_lawful : (env : Vars) (d : Plain) (ts : Trees) → AreLawfulVars env → IsLawful d → StaysLawful IsLawful (eval_places env d ts)
  eval_places_lawful env d no_trees h k = k
  eval_places_lawful env d (tree t ts) h k = then_lawful IsLawful IsLawful (eval env t) (λ i. ask (indexes d i) >>= (λ e. eval_places env e ts)) (eval_lawful env t h)
      (λ i l. then_lawful IsLawful IsLawful (ask (indexes d i)) (λ e. eval_places env e ts) (ask_lawful (indexes d i) (k, l)) (λ e m. eval_places_lawful env e ts h m))

  eval_links_lawful : (env : Vars) (d : Plain) (ls : Links) → AreLawfulVars env → IsLawful d → StaysLawful IsLawful (eval_links env d ls)
  eval_links_lawful env d no_links h k = k
  eval_links_lawful env d (link Or t ls) h k = decided_lawful IsLawful d (λ b. if b then gives (a_truth true) else eval env t >>= (λ e. decided e (λ c. eval_links env e ls)))
      (λ b. if_lawful IsLawful b (gives (a_truth true)) (eval env t >>= (λ e. decided e (λ c. eval_links env e ls))) tt
      (then_lawful IsLawful IsLawful (eval env t) (λ e. decided e (λ c. eval_links env e ls)) (eval_lawful env t h) (λ e l. decided_lawful IsLawful e (λ c. eval_links env e ls) (λ c. eval_links_lawful env e ls h l))))
  eval_links_lawful env d (link And t ls) h k = decided_lawful IsLawful d (λ b. if b then eval env t >>= (λ e. decided e (λ c. eval_links env e ls)) else gives (a_truth false))
      (λ b. if_lawful IsLawful b (eval env t >>= (λ e. decided e (λ c. eval_links env e ls))) (gives (a_truth false))
      (then_lawful IsLawful IsLawful (eval env t) (λ e. decided e (λ c. eval_links env e ls)) (eval_lawful env t h) (λ e l. decided_lawful IsLawful e (λ c. eval_links env e ls) (λ c. eval_links_lawful env e ls h l))) tt)
  eval_links_lawful env d (link Plus t ls) h k = then_lawful IsLawful IsLawful (eval env t) (λ e. ask (combines operator.Plus d e) >>= (λ s. eval_links env s ls)) (eval_lawful env t h)
      (λ e l. then_lawful IsLawful IsLawful (ask (combines operator.Plus d e)) (λ s. eval_links env s ls) (ask_lawful (combines operator.Plus d e) (k, l)) (λ s m. eval_links_lawful env s ls h m))
  eval_links_lawful env d (link Less t ls) h k = then_lawful IsLawful IsLawful (eval env t) (λ e. ask (combines operator.Less d e) >>= (λ s. eval_links env s ls)) (eval_lawful env t h)
      (λ e l. then_lawful IsLawful IsLawful (ask (combines operator.Less d e)) (λ s. eval_links env s ls) (ask_lawful (combines operator.Less d e) (k, l)) (λ s m. eval_links_lawful env s ls h m))
  eval_links_lawful env d (link Times t ls) h k = then_lawful IsLawful IsLawful (eval env t) (λ e. ask (combines operator.Times d e) >>= (λ s. eval_links env s ls)) (eval_lawful env t h)
      (λ e l. then_lawful IsLawful IsLawful (ask (combines operator.Times d e)) (λ s. eval_links env s ls) (ask_lawful (combines operator.Times d e) (k, l)) (λ s m. eval_links_lawful env s ls h m))
  eval_links_lawful env d (link Mod t ls) h k = then_lawful IsLawful IsLawful (eval env t) (λ e. ask (combines operator.Mod d e) >>= (λ s. eval_links env s ls)) (eval_lawful env t h)
      (λ e l. then_lawful IsLawful IsLawful (ask (combines operator.Mod d e)) (λ s. eval_links env s ls) (ask_lawful (combines operator.Mod d e) (k, l)) (λ s m. eval_links_lawful env s ls h m))

  -- arguments give lawful values
  pub eval_given_lawful : (env : Vars) (args : Arguments) → AreLawfulVars env → StaysLawful AreLawfulIf (eval_given env args)
  eval_given_lawful env no_arguments h = tt
  eval_given_lawful env (argument (plain t) others) h = then_lawful IsLawful AreLawfulIf (eval env t) (λ d. eval_given env others >>= (λ ds. gives (option_map (item d) ds))) (eval_lawful env t h)
      (λ d l. then_lawful AreLawfulIf AreLawfulIf (eval_given env others) (λ ds. gives (option_map (item d) ds)) (eval_given_lawful env others h) (λ o m. with_lawful d o l m))
  eval_given_lawful env (argument (arrow x t) others) h = then_lawful AreLawfulIf AreLawfulIf (eval_given env others) (λ ds. gives None) (eval_given_lawful env others h) (λ o m. tt)

  eval_folding_lawful : (env : Vars) (args : Arguments) (f : Folding) → AreLawfulVars env → StaysLawful IsLawful (eval_folding env args f)
  eval_folding_lawful env no_arguments f h = tt
  eval_folding_lawful env (argument (plain t) no_arguments) f h = tt
  eval_folding_lawful env (argument (arrow x t) no_arguments) f h = tt
  eval_folding_lawful env (argument (plain t) (argument (arrow x body) no_arguments)) f h =
      then_lawful IsLawful IsLawful (eval env t) (λ d. listed (as_list d) (folded f (λ e. eval ((x, e) ∷ env) body))) (eval_lawful env t h)
      (λ d l. listed_lawful IsLawful (as_list d) (folded f (λ e. eval ((x, e) ∷ env) body)) ((as_list-each IsLawfulThing) d l)
      (λ ds m. folded_lawful (λ e. eval ((x, e) ∷ env) body) (λ e k. eval_lawful ((x, e) ∷ env) body (k, h)) f ds m))
  eval_folding_lawful env (argument (plain t) (argument (plain u) no_arguments)) f h = then_lawful IsLawful IsLawful (eval env t) (λ d. eval env u >>= (λ e. refuses _)) (eval_lawful env t h)
      (λ d l. then_lawful IsLawful IsLawful (eval env u) (λ e. refuses _) (eval_lawful env u h) (λ e m. tt))
  eval_folding_lawful env (argument (plain t) (argument b (argument c others))) f h = tt
  eval_folding_lawful env (argument (arrow x t) (argument (plain u) no_arguments)) f h = then_lawful IsLawful IsLawful (eval env u) (λ e. refuses _) (eval_lawful env u h) (λ e m. tt)
  eval_folding_lawful env (argument (arrow x t) (argument (arrow y u) no_arguments)) f h = tt
  eval_folding_lawful env (argument (arrow x t) (argument b (argument c others))) f h = tt
