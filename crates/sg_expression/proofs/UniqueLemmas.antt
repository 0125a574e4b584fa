-- Each expression that stands at the front of tokens, and that nothing goes on with, is the only one.
use Rattle.std.proofs.Common.{◌≡◌, ◌+◌, List, ◌∷◌, refl, ap, ◌∙◌, subst, arith}
use Rattle.sg_token.specs.declared.token.Token.{Token}
use Rattle.sg_token.specs.declared.token.Token.TheVariants as token
use Rattle.sg_token.specs.declared.symbol.Symbol.TheVariants as symbol
use Rattle.sg_tree.specs.declared.expr.Op.{Op}
use Rattle.sg_tree.specs.Tree.{Tree, variable, Argument}
use Rattle.sg_expression.specs.declared.rank.Rank.{Rank}
use Rattle.sg_expression.specs.declared.rank.Rank.TheVariants as rank
use Rattle.sg_expression.specs.Grammar.{Chain, chained, Linked, no_link, one_link, Operand, conjunction, negative, product, unary, Comparison, alone, compared, Item, an_item, Indices, no_index, one_index, Atom, a_number, a_string, a_true, a_false, a_fail, a_name, a_call, parenthesized, an_empty_list, a_list, a_range, Entries, last_entry, one_entry, Given, none_given, some_given, MoreGiven, last_given, one_given, OneGiven, an_arrow, a_value}
use Rattle.sg_expression.specs.Reading.{Found, Always, EndsGiven, NamesNot, OperatesNot, ComparesNot}
use Rattle.sg_expression.specs.Binding.{level, StopsAt}
use Rattle.sg_expression.proofs.BindingLemmas.{stops-more, binding-op, binding-relation}
use Rattle.sg_expression.proofs.OnwardLemmas.{onward-found}
use Rattle.sg_expression.proofs.ChainLemmas.{operand-stops, found-chain, one-link, end-links, found-conjunction, found-product, not-not, found-negative, not-minus, found-unary, found-alone, found-compared}
use Rattle.sg_expression.proofs.AtomLemmas.{found-closed, atom-stops, found-item, one-index, end-indices, found-literal, found-parenthesized, found-bracketed, found-named, found-variable, found-call, ends-given, ends-stop, no-given-here, found-none-given, found-given, one-given, found-last-given}
use Rattle.sg_expression.proofs.ArgumentLemmas.{name-alone, not-an-end, found-arrow, found-value}
use Rattle.sg_expression.proofs.BracketLemmas.{found-empty, entries-stop, no-entries-here, found-range, found-list, one-entry, found-last-entry, found-listed}

stops-operator : {r : Rank} {ts : List Token} → StopsAt (level r) ts → OperatesNot ts r
stops-operator {r = r} stop s o us e is rank =
    let here = subst (StopsAt (level r)) e stop in
    let binds = binding-op s o is ∙ ap level rank in
    omega arith

stops-relation : {ts : List Token} → StopsAt 3 ts → ComparesNot ts
stops-relation stop s r us e is =
    let here = subst (StopsAt 3) e stop in
    let binds = binding-relation s r is in
    omega arith

stops-bracket : {ts : List Token} → StopsAt 6 ts → (us : List Token) → ts ≡ token.Symbol symbol.OpenBracket ∷ us → ⊥
stops-bracket stop us e = let here = subst (StopsAt 6) e stop in omega arith

stops-parenthesis : {ts : List Token} → StopsAt 7 ts → (us : List Token) → ts ≡ token.Symbol symbol.OpenParenthesis ∷ us → ⊥
stops-parenthesis stop us e = let here = subst (StopsAt 7) e stop in omega arith

not-dots : {us vs : List Token} {es : List Tree} → Entries us es vs → (ws : List Token) → us ≡ token.Symbol symbol.Dots ∷ ws → ⊥
not-dots {vs = vs} {es = es} d ws e = no-entries-here (subst (λ x. Entries x es vs) e d)

not-closed-yet : {us vs : List Token} {a : Argument} → OneGiven us a vs → (ws : List Token) → us ≡ token.Symbol symbol.CloseParenthesis ∷ ws → ⊥
not-closed-yet {vs = vs} {a = a} d ws e = no-given-here (subst (λ x. OneGiven x a vs) e d)

no-arrow-here : {ts us : List Token} {t : Tree} → Chain rank.Or ts t us → EndsGiven us → NamesNot ts (token.Symbol symbol.Arrow)
no-arrow-here {us = us} {t = t} d ends x ws e =
    let named : Found (Chain rank.Or) (StopsAt 1) (token.Name x ∷ token.Symbol symbol.Arrow ∷ ws) (variable x) (token.Symbol symbol.Arrow ∷ ws) = name-alone refl in
    let same = named.only t us (subst (λ z. Chain rank.Or z t us) e d) (ends-stop us ends) in
    not-an-end ws (subst EndsGiven same.1 ends)

mutual
  -- a chain at the front is the only one
  pub one-chain : {r : Rank} {ts us : List Token} {t : Tree} → Chain r ts t us → StopsAt (level r) us → Found (Chain r) (StopsAt (level r)) ts t us
  one-chain (chained o l) stop = found-chain (one-operand o (operand-stops l stop)) (one-linked l stop)

  one-linked : {r : Rank} {ts us : List Token} {ls : List (Op × Tree)} → Linked r ts ls us → StopsAt (level r) us → Found (Linked r) (StopsAt (level r)) ts ls us
  one-linked no_link stop = end-links (stops-operator stop)
  one-linked (one_link is rank o l) stop = onward-found (one-link is rank (one-operand o (operand-stops l stop))) (one-linked l stop)

  one-operand : {r : Rank} {ts us : List Token} {t : Tree} → Operand r ts t us → StopsAt (level r + 1) us → Found (Operand r) (StopsAt (level r + 1)) ts t us
  one-operand (conjunction d) stop = found-conjunction (one-chain d stop)
  one-operand (negative n d) stop = found-negative (record { front = refl; last = not-not d }) (one-comparison d stop)
  one-operand (product d) stop = found-product (one-chain d stop)
  one-operand (unary n d) stop = found-unary (record { front = refl; last = not-minus d }) (one-item d stop)

  one-comparison : {ts us : List Token} {t : Tree} → Comparison ts t us → StopsAt 3 us → Found Comparison (StopsAt 3) ts t us
  one-comparison {us = us} (alone d) stop = found-alone (one-chain d (stops-more 4 us (omega arith) stop)) (stops-relation stop)
  one-comparison {us = us} (compared {s = s} {r = r} d is e) stop =
      let binds = binding-relation s r is in
      found-compared (one-chain d (omega arith)) is (one-chain e (stops-more 4 us (omega arith) stop))

  one-item : {ts us : List Token} {t : Tree} → Item ts t us → StopsAt 6 us → Found Item (StopsAt 6) ts t us
  one-item (an_item a i) stop = found-item (one-atom a (atom-stops i stop)) (one-indices i stop)

  one-indices : {ts us : List Token} {is : List Tree} → Indices ts is us → StopsAt 6 us → Found Indices (StopsAt 6) ts is us
  one-indices no_index stop = end-indices (stops-bracket stop)
  one-indices (one_index d i) stop = onward-found (one-index (found-closed refl (one-chain d (omega arith)))) (one-indices i stop)

  one-atom : {ts us : List Token} {t : Tree} → Atom ts t us → StopsAt 7 us → Found Atom (StopsAt 7) ts t us
  one-atom a_number stop = found-literal refl
  one-atom a_string stop = found-literal refl
  one-atom a_true stop = found-literal refl
  one-atom a_false stop = found-literal refl
  one-atom a_fail stop = found-literal refl
  one-atom a_name stop = found-named (found-variable (stops-parenthesis stop))
  one-atom (a_call g) stop = found-named (found-call (one-list-given g))
  one-atom (parenthesized d) stop = found-parenthesized (found-closed refl (one-chain d (omega arith)))
  one-atom an_empty_list stop = found-bracketed found-empty
  one-atom (a_list d e) stop = found-bracketed (found-list (one-chain d (entries-stop e)) (not-dots e) (found-listed (one-entries e)))
  one-atom (a_range d e) stop = found-bracketed (found-range (one-chain d (omega arith)) (found-closed refl (one-chain e (omega arith))))

  one-entries : {ts us : List Token} {es : List Tree} → Entries ts es us → Found Entries Always ts es us
  one-entries last_entry = found-last-entry
  one-entries (one_entry d e) = onward-found (one-entry (one-chain d (entries-stop e))) (one-entries e)

  one-list-given : {ts us : List Token} {given : List Argument} → Given ts given us → Found Given Always ts given us
  one-list-given none_given = found-none-given
  one-list-given (some_given a m) = found-given (not-closed-yet a) (one-argument a (ends-given m)) (one-more-given m)

  one-more-given : {ts us : List Token} {given : List Argument} → MoreGiven ts given us → Found MoreGiven Always ts given us
  one-more-given last_given = found-last-given
  one-more-given (one_given a m) = onward-found (one-given (one-argument a (ends-given m))) (one-more-given m)

  one-argument : {ts us : List Token} {a : Argument} → OneGiven ts a us → EndsGiven us → Found OneGiven EndsGiven ts a us
  one-argument {us = us} (an_arrow d) ends = found-arrow (one-chain d (ends-stop us ends))
  one-argument {us = us} (a_value d) ends = found-value (no-arrow-here d ends) (one-chain d (ends-stop us ends))
