-- Lists of expressions, of places and of links, one after the other.
use Rattle.std.proofs.Common.{◌≡◌, ◌<◌, ◌+◌, ℕ, List, [], ◌∷◌, ◌++◌, length, get_or, drop, Bool, true, false, Some, None, Result, Ok, Err, IsErrAnd, Vec, Global, refl, ap, sym, ◌∙◌, subst}
use Rattle.std.proofs.Math.Path.{fun_ext}
use Rattle.std.proofs.lemmas.List.{drop_more}
use Rattle.sg_value.specs.Data.{Data, Items, none, item, truth, int, text, list, ratio, fail, semigroup, ideal, Kind, join}
use Rattle.sg_value.specs.Plain.{Named, AllKnown, AllKnownIn, plain, plain_of_all, Things}
use Rattle.sg_value.specs.declared.value.Value.{Value}
use Rattle.sg_value.proofs.Joins.{join-none, join-one}
use Rattle.sg_rows.specs.Order.{Plain}
use Rattle.sg_rows.specs.declared.fault.CallFault.{CallFault}
use Rattle.sg_tree.specs.Tree.{Tree, Trees, no_trees, tree, Links, link}
use Rattle.sg_tree.specs.TreeView.{tree_of, trees_of, links_of}
use Rattle.sg_tree.specs.declared.expr.Expr.{Expr}
use Rattle.sg_tree.specs.declared.expr.Op.{Op}
use Rattle.sg_tree.specs.declared.expr.Op.TheVariants.{Or, And, Plus, Less, Times, Mod}
use Rattle.sg_calls.specs.declared.operator.Operator.{Operator}
use Rattle.sg_calls.specs.declared.operator.Operator.TheVariants as operator
use Rattle.sg_meaning.specs.Expressions.{eval, eval_all, eval_places, eval_links, ask, decided}
use Rattle.sg_eval.specs.Linked.{linked, placed, ends_chain, arithmetic, compared_with}
use Rattle.sg_eval.specs.Outcomes.{Evaluates, plain_in, known_in}
use Rattle.sg_meaning.specs.Process.{Process, gives, refuses, reads, asks, sets, writes, ◌>>=◌}
use Rattle.sg_meaning.specs.Queries.{indexes, combines}
use Rattle.sg_eval.specs.State.{State}
use Rattle.sg_eval.specs.Truths.{itself, no_semigroup}
use Rattle.sg_meaning.specs.Vars.{Vars}
use Rattle.sg_meaning.proofs.Sequels.{assoc, right_unit}
use Rattle.sg_eval.proofs.Evaluating.{evaluates_then, evaluates_exit, evaluates_as}

-- the expressions from one on
pub trees_of-drop : (es : List Expr) (i : ℕ) (e : Expr) → i < length es → e ≡ get_or es i e → trees_of (drop i es) ≡ tree (tree_of e) (trees_of (drop (i + 1) es))
trees_of-drop es i e within is = ap trees_of (drop_more es i e within) ∙ ap (λ x. tree (tree_of x) (trees_of (drop (i + 1) es))) (sym is)

-- the links from one on
pub links_of-drop : (ls : List (Op × Expr)) (i : ℕ) (l : Op × Expr) → i < length ls → l ≡ get_or ls i l → links_of (drop i ls) ≡ link l.0 (tree_of l.1) (links_of (drop (i + 1) ls))
links_of-drop ls i l within is = ap links_of (drop_more ls i l within) ∙ ap (λ x. link x.0 (tree_of x.1) (links_of (drop (i + 1) ls))) (sym is)

module _ (ps : Vars) (s s1 : State) (t : Tree) (same : s.parameters ≡ ps) where
  -- one place, and then those that are left
  pub place_then : (ts : Trees) (v w : Value) (r : Result Value CallFault) (s2 : State) → Evaluates plain AllKnown (Ok w) s s1 (λ names. placed s.parameters (plain names v) t)
      → Evaluates plain AllKnown r s1 s2 (λ names. eval_places ps (plain names w) ts) → Evaluates plain AllKnown r s s2 (λ names. eval_places ps (plain names v) (tree t ts))
  place_then ts v w r s2 h g =
      evaluates_as plain AllKnown r s s2 (λ names. placed ps (plain names v) t >>= (λ e. eval_places ps e ts)) (λ names. eval_places ps (plain names v) (tree t ts))
      (λ names. assoc (eval ps t) (λ i. ask (indexes (plain names v) i)) (λ e. eval_places ps e ts))
      (evaluates_then plain AllKnown plain AllKnown w r s s1 s2 (λ names. placed ps (plain names v) t) (λ names e. eval_places ps e ts)
      (subst (λ qs. Evaluates plain AllKnown (Ok w) s s1 (λ names. placed qs (plain names v) t)) same h) g)

  -- a place that is refused
  pub place_exit : (ts : Trees) (v : Value) (r : Result Value CallFault) (e : CallFault) → IsErrAnd r (λ y. y ≡ e) → Evaluates plain AllKnown (Err e) s s1 (λ names. placed s.parameters (plain names v) t)
      → Evaluates plain AllKnown r s s1 (λ names. eval_places ps (plain names v) (tree t ts))
  place_exit ts v r e failed h =
      evaluates_as plain AllKnown r s s1 (λ names. placed ps (plain names v) t >>= (λ d. eval_places ps d ts)) (λ names. eval_places ps (plain names v) (tree t ts))
      (λ names. assoc (eval ps t) (λ i. ask (indexes (plain names v) i)) (λ d. eval_places ps d ts))
      (evaluates_exit plain AllKnown plain AllKnown r e s s1 (λ names. placed ps (plain names v) t) (λ names d. eval_places ps d ts) failed
      (subst (λ qs. Evaluates plain AllKnown (Err e) s s1 (λ names. placed qs (plain names v) t)) same h))

-- the plain values with one more
pub plain_of_all-more : (names : Named) (vs : List Value) (v : Value) → plain_of_all names (vs ++ v ∷ []) ≡ join (plain_of_all names vs) (item (plain names v) none)
plain_of_all-more names [] v = refl
plain_of_all-more names (u ∷ vs) v = ap (item (plain names u)) (plain_of_all-more names vs v)

-- the values so far, before those of the expressions that are left
abbrev pub after_front : Vars → Trees → Items Things → Process (Items Things)
after_front ps ts ds = eval_all ps ts >>= (λ es. gives (join ds es))

front_step : (ps : Vars) (t : Tree) (ts : Trees) (ds : Items Things) → eval ps t >>= (λ d. after_front ps ts (join ds (item d none))) ≡ after_front ps (tree t ts) ds
front_step ps t ts ds =
    ap (λ k. eval ps t >>= k) (fun_ext (λ d. ap (λ k. eval_all ps ts >>= k) (fun_ext (λ es. ap gives (join-one ds d es))) ∙ sym (assoc (eval_all ps ts) (λ es. gives (item d es)) (λ es. gives (join ds es)))))
    ∙ sym (assoc (eval ps t) (λ d. eval_all ps ts >>= (λ es. gives (item d es))) (λ es. gives (join ds es)))

module _ (ps : Vars) (s s1 : State) (t : Tree) (ts : Trees) (vs : List Value) (same : s.parameters ≡ ps) where
  -- one value more
  pub value_then : (v : Value) (ws : List Value) (r : Result (Vec Value Global) CallFault) (s2 : State) → ws ≡ vs ++ v ∷ [] → Evaluates plain AllKnown (Ok v) s s1 (λ names. eval s.parameters t)
      → Evaluates plain_in known_in r s1 s2 (λ names. after_front ps ts (plain_of_all names ws)) → Evaluates plain_in known_in r s s2 (λ names. after_front ps (tree t ts) (plain_of_all names vs))
  value_then v ws r s2 is h g =
      evaluates_as plain_in known_in r s s2 (λ names. eval ps t >>= (λ d. after_front ps ts (join (plain_of_all names vs) (item d none)))) (λ names. after_front ps (tree t ts) (plain_of_all names vs))
      (λ names. front_step ps t ts (plain_of_all names vs))
      (evaluates_then plain AllKnown plain_in known_in v r s s1 s2 (λ names. eval ps t) (λ names d. after_front ps ts (join (plain_of_all names vs) (item d none)))
      (subst (λ qs. Evaluates plain AllKnown (Ok v) s s1 (λ names. eval qs t)) same h)
      (evaluates_as plain_in known_in r s1 s2 (λ names. after_front ps ts (plain_of_all names ws)) (λ names. after_front ps ts (join (plain_of_all names vs) (item (plain names v) none)))
      (λ names. ap (after_front ps ts) (ap (plain_of_all names) is ∙ plain_of_all-more names vs v)) g))

  -- an expression that is refused
  pub value_exit : (r : Result (Vec Value Global) CallFault) (e : CallFault) → IsErrAnd r (λ y. y ≡ e) → Evaluates plain AllKnown (Err e) s s1 (λ names. eval s.parameters t)
      → Evaluates plain_in known_in r s s1 (λ names. after_front ps (tree t ts) (plain_of_all names vs))
  value_exit r e failed h =
      evaluates_as plain_in known_in r s s1 (λ names. eval ps t >>= (λ d. after_front ps ts (join (plain_of_all names vs) (item d none)))) (λ names. after_front ps (tree t ts) (plain_of_all names vs))
      (λ names. front_step ps t ts (plain_of_all names vs))
      (evaluates_exit plain AllKnown plain_in known_in r e s s1 (λ names. eval ps t) (λ names d. after_front ps ts (join (plain_of_all names vs) (item d none))) failed
      (subst (λ qs. Evaluates plain AllKnown (Err e) s s1 (λ names. eval qs t)) same h))

-- what is left of a chain once it is known whether it ends
abbrev pub unless_ended : Vars → Op → Tree → Links → Plain → Bool → Process Plain
unless_ended ps op t ls d true = gives d
unless_ended ps op t ls d false = linked ps op t d >>= (λ e. eval_links ps e ls)

operand_truth : (ps : Vars) (t : Tree) (ls : Links) → (eval ps t >>= (λ e. decided e (λ b. gives e))) >>= (λ e. eval_links ps e ls) ≡ eval ps t >>= (λ e. decided e (λ c. eval_links ps e ls))
operand_truth ps t ls = assoc (eval ps t) (λ e. decided e (λ b. gives e)) (λ e. eval_links ps e ls) ∙ ap (λ k. eval ps t >>= k) (fun_ext truth_after)
  where
    truth_after : (e : Plain) → decided e (λ b. gives e) >>= (λ d. eval_links ps d ls) ≡ decided e (λ c. eval_links ps e ls)
    truth_after (truth b) = refl
    truth_after (int z) = refl
    truth_after (text bs) = refl
    truth_after (list ds) = refl
    truth_after (ratio p q) = refl
    truth_after fail = refl
    truth_after (semigroup h) = refl
    truth_after (ideal h) = refl

-- a chain, link by link
pub link_step : (ps : Vars) (op : Op) (t : Tree) (ls : Links) (d : Plain) → ends_chain op d >>= unless_ended ps op t ls d ≡ eval_links ps d (link op t ls)
link_step ps Or t ls (truth true) = refl
link_step ps Or t ls (truth false) = operand_truth ps t ls
link_step ps Or t ls (int z) = refl
link_step ps Or t ls (text bs) = refl
link_step ps Or t ls (list ds) = refl
link_step ps Or t ls (ratio p q) = refl
link_step ps Or t ls fail = refl
link_step ps Or t ls (semigroup h) = refl
link_step ps Or t ls (ideal h) = refl
link_step ps And t ls (truth true) = operand_truth ps t ls
link_step ps And t ls (truth false) = refl
link_step ps And t ls (int z) = refl
link_step ps And t ls (text bs) = refl
link_step ps And t ls (list ds) = refl
link_step ps And t ls (ratio p q) = refl
link_step ps And t ls fail = refl
link_step ps And t ls (semigroup h) = refl
link_step ps And t ls (ideal h) = refl
link_step ps Plus t ls d = assoc (eval ps t) (λ e. ask (combines operator.Plus d e)) (λ s. eval_links ps s ls)
link_step ps Less t ls d = assoc (eval ps t) (λ e. ask (combines operator.Less d e)) (λ s. eval_links ps s ls)
link_step ps Times t ls d = assoc (eval ps t) (λ e. ask (combines operator.Times d e)) (λ s. eval_links ps s ls)
link_step ps Mod t ls d = assoc (eval ps t) (λ e. ask (combines operator.Mod d e)) (λ s. eval_links ps s ls)

module _ (ps : Vars) (s : State) (op : Op) (t : Tree) (ls : Links) (v : Value) where
  -- a link is whether it ends the chain, and then the rest
  pub link_as : (r : Result Value CallFault) (s2 : State) → Evaluates plain AllKnown r s s2 (λ names. ends_chain op (plain names v) >>= unless_ended ps op t ls (plain names v)) → Evaluates plain AllKnown r s s2 (λ names. eval_links ps (plain names v) (link op t ls))
  link_as r s2 h = evaluates_as plain AllKnown r s s2 (λ names. ends_chain op (plain names v) >>= unless_ended ps op t ls (plain names v)) (λ names. eval_links ps (plain names v) (link op t ls)) (λ names. link_step ps op t ls (plain names v)) h

  -- the chain goes on
  pub link_then : (s1 s2 : State) (w : Value) (r : Result Value CallFault) → s.parameters ≡ ps → Evaluates itself no_semigroup (Ok false) s s (λ names. ends_chain op (plain names v))
      → Evaluates plain AllKnown (Ok w) s s1 (λ names. linked s.parameters op t (plain names v)) → Evaluates plain AllKnown r s1 s2 (λ names. eval_links ps (plain names w) ls)
      → Evaluates plain AllKnown r s s2 (λ names. eval_links ps (plain names v) (link op t ls))
  link_then s1 s2 w r same goes h g =
      link_as r s2 (evaluates_then itself no_semigroup plain AllKnown false r s s s2 (λ names. ends_chain op (plain names v)) (λ names. unless_ended ps op t ls (plain names v)) goes
      (evaluates_then plain AllKnown plain AllKnown w r s s1 s2 (λ names. linked ps op t (plain names v)) (λ names e. eval_links ps e ls)
      (subst (λ qs. Evaluates plain AllKnown (Ok w) s s1 (λ names. linked qs op t (plain names v))) same h) g))

  -- a link that is refused
  pub link_exit : (s1 : State) (r : Result Value CallFault) (e : CallFault) → s.parameters ≡ ps → IsErrAnd r (λ y. y ≡ e) → Evaluates itself no_semigroup (Ok false) s s (λ names. ends_chain op (plain names v))
      → Evaluates plain AllKnown (Err e) s s1 (λ names. linked s.parameters op t (plain names v)) → Evaluates plain AllKnown r s s1 (λ names. eval_links ps (plain names v) (link op t ls))
  link_exit s1 r e same failed goes h =
      link_as r s1 (evaluates_then itself no_semigroup plain AllKnown false r s s s1 (λ names. ends_chain op (plain names v)) (λ names. unless_ended ps op t ls (plain names v)) goes
      (evaluates_exit plain AllKnown plain AllKnown r e s s1 (λ names. linked ps op t (plain names v)) (λ names d. eval_links ps d ls) failed
      (subst (λ qs. Evaluates plain AllKnown (Err e) s s1 (λ names. linked qs op t (plain names v))) same h)))

-- no value is before those of the expressions
pub front_none : (ps : Vars) (ts : Trees) (names : Named) (vs : List Value) → vs ≡ [] → after_front ps ts (plain_of_all names vs) ≡ eval_all ps ts
front_none ps ts names vs is = ap (λ ws. after_front ps ts (plain_of_all names ws)) is ∙ right_unit (eval_all ps ts)

-- no expression is left
pub front_over : (names : Named) (vs : List Value) → gives (plain_of_all names vs) ≡ after_front [] no_trees (plain_of_all names vs)
front_over names vs = ap gives (sym (join-none (plain_of_all names vs)))

all_known_after : (names : Named) (vs : List Value) (v : Value) → AllKnownIn names vs → AllKnown names v → AllKnownIn names (vs ++ v ∷ [])
all_known_after names [] v all is_known = (is_known, tt)
all_known_after names (u ∷ vs) v all is_known = (all.0, all_known_after names vs v all.1 is_known)

-- one value more is known
pub all_known_more : (names : Named) (vs ws : List Value) (v : Value) → ws ≡ vs ++ v ∷ [] → AllKnownIn names vs → AllKnown names v → AllKnownIn names ws
all_known_more names vs ws v is all is_known = subst (AllKnownIn names) (sym is) (all_known_after names vs v all is_known)

-- what is done with an operand once it is there
abbrev pub link_rest : Op → Plain → Plain → Process Plain
link_rest Or d e = decided e (λ b. gives e)
link_rest And d e = decided e (λ b. gives e)
link_rest Plus d e = ask (combines operator.Plus d e)
link_rest Less d e = ask (combines operator.Less d e)
link_rest Times d e = ask (combines operator.Times d e)
link_rest Mod d e = ask (combines operator.Mod d e)

-- a link is its operand, and then what comes of it
pub linked_as : (ps : Vars) (op : Op) (t : Tree) (d : Plain) → eval ps t >>= link_rest op d ≡ linked ps op t d
linked_as ps Or t d = refl
linked_as ps And t d = refl
linked_as ps Plus t d = refl
linked_as ps Less t d = refl
linked_as ps Times t d = refl
linked_as ps Mod t d = refl

-- an operator on integers
pub linked_combines : (ps : Vars) (op : Op) (o : Operator) (t : Tree) (d : Plain) → arithmetic op ≡ Some o → compared_with ps o d t ≡ linked ps op t d
linked_combines ps Or o t d is = absurd (cc)
linked_combines ps And o t d is = absurd (cc)
linked_combines ps Plus o t d is = let same : o ≡ operator.Plus = cc in ap (λ x. compared_with ps x d t) same
linked_combines ps Less o t d is = let same : o ≡ operator.Less = cc in ap (λ x. compared_with ps x d t) same
linked_combines ps Times o t d is = let same : o ≡ operator.Times = cc in ap (λ x. compared_with ps x d t) same
linked_combines ps Mod o t d is = let same : o ≡ operator.Mod = cc in ap (λ x. compared_with ps x d t) same

-- or and and want a truth value
pub rest_decides : (op : Op) (d e : Plain) → arithmetic op ≡ None → decided e (λ b. gives e) ≡ link_rest op d e
rest_decides Or d e is = refl
rest_decides And d e is = refl
rest_decides Plus d e is = absurd (cc)
rest_decides Less d e is = absurd (cc)
rest_decides Times d e is = absurd (cc)
rest_decides Mod d e is = absurd (cc)
