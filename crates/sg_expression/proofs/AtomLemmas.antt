-- Items, atoms and calls: what is found at the front of tokens.
use Rattle.std.proofs.Common.{◌≡◌, ℕ, ◌<◌, List, [], ◌∷◌, None, Some, inl, inr, ⊎_elim, true, false, refl, sym, ap, ◌∙◌, subst, arith}
use Rattle.sg_token.specs.declared.token.Token.{Token}
use Rattle.sg_token.specs.declared.token.Token.TheVariants as token
use Rattle.sg_token.specs.declared.word.Word.TheVariants as word
use Rattle.sg_token.specs.declared.symbol.Symbol.TheVariants as symbol
use Rattle.sg_tree.specs.Tree.{Tree, number, quoted, truth, failing, variable, call, Argument, arguments}
use Rattle.sg_expression.specs.declared.rank.Rank.TheVariants as rank
use Rattle.sg_expression.specs.Grammar.{indexed, Chain, Item, an_item, Indices, no_index, one_index, Atom, a_number, a_string, a_true, a_false, a_fail, a_name, a_call, parenthesized, an_empty_list, a_list, a_range, Given, none_given, some_given, MoreGiven, last_given, one_given, OneGiven, a_value}
use Rattle.sg_expression.specs.Literals.{literal_of}
use Rattle.sg_expression.specs.Reading.{Found, Nothing, Onward, Closed, Always, Named, Bracketed, EndsGiven}
use Rattle.sg_expression.specs.Binding.{binding, StopsAt}
use Rattle.sg_expression.proofs.BindingLemmas.{stops-more}
use Rattle.sg_expression.proofs.BeginLemmas.{starts-expression}

-- an expression and the token that closes it

pub found-closed : {k : Token} {ts us : List Token} {t : Tree} → binding k ≡ 0 → Found (Chain rank.Or) (StopsAt 1) ts t (k ∷ us) → Found (Closed k) Always ts t us
found-closed {k = k} free f = record { is = f.is; only = λ b vs d stop. let e = f.only b (k ∷ vs) d (omega arith) in (e.0, cc (e.1)) }

-- where no expression is there, none is closed
pub no-closed : {k : Token} {ts : List Token} → binding k ≡ 0 → Nothing {A = Tree} (Chain rank.Or) (StopsAt 1) ts → Nothing {A = Tree} (Closed k) Always ts
no-closed {k = k} free f = record { none = λ b vs d stop. f.none b (k ∷ vs) d (omega arith) }

-- where another token follows the expression, it is not closed
pub not-closed : {k : Token} {ts us : List Token} {t : Tree} → binding k ≡ 0 → Found (Chain rank.Or) (StopsAt 1) ts t us → ((vs : List Token) → us ≡ k ∷ vs → ⊥) → Nothing {A = Tree} (Closed k) Always ts
not-closed {k = k} free f not = record { none = λ b vs d stop. let e = f.only b (k ∷ vs) d (omega arith) in not vs (sym e.1) }

-- items

item-parts : {ts vs : List Token} {b : Tree} → Item ts b vs → (t : Tree) × (us : List Token) × (is : List Tree) × (b ≡ indexed t is) × Atom ts t us × Indices us is vs
item-parts (an_item {us = us} {t = t} {is = is} a i) = (t, us, is, refl, a, i)

-- an atom is followed by an index, or by what ends the item
pub atom-stops : {us vs : List Token} {is : List Tree} → Indices us is vs → StopsAt 6 vs → StopsAt 7 us
atom-stops {us = us} no_index stop = stops-more 7 us (omega arith) stop
atom-stops (one_index d i) stop = omega arith

-- an atom and its indices
pub found-item : {ts us vs : List Token} {t : Tree} {is : List Tree} → Found Atom (StopsAt 7) ts t us → Found Indices (StopsAt 6) us is vs → Found Item (StopsAt 6) ts (indexed t is) vs
found-item {t = t} f g = record {
  is = an_item f.is g.is;
  only = λ b ws d stop.
      let p = item-parts d in
      let e = f.only p.0 p.1 p.4 (atom-stops p.5 stop) in
      let h = g.only p.2 ws (subst (λ x. Indices x p.2 ws) e.1 p.5) stop in
      (p.3 ∙ (ap (λ x. indexed x p.2) e.0 ∙ ap (indexed t) h.0), h.1);
}

-- no atom, no item
pub no-item : {ts : List Token} → Nothing {A = Tree} Atom (StopsAt 7) ts → Nothing {A = Tree} Item (StopsAt 6) ts
no-item f = record { none = λ b ws d stop. let p = item-parts d in f.none p.0 p.1 p.4 (atom-stops p.5 stop) }

-- nor is there an item where its indices break off
pub no-item-indices : {ts us : List Token} {t : Tree} → Found Atom (StopsAt 7) ts t us → Nothing {A = List Tree} Indices (StopsAt 6) us → Nothing {A = Tree} Item (StopsAt 6) ts
no-item-indices f g = record {
  none = λ b ws d stop.
      let p = item-parts d in
      let e = f.only p.0 p.1 p.4 (atom-stops p.5 stop) in
      g.none p.2 ws (subst (λ x. Indices x p.2 ws) e.1 p.5) stop;
}

index-parts : {ts vs : List Token} {is : List Tree} → Indices (token.Symbol symbol.OpenBracket ∷ ts) is vs → StopsAt 6 vs → (t : Tree) × (us : List Token) × (more : List Tree) × (is ≡ t ∷ more) × Chain rank.Or ts t (token.Symbol symbol.CloseBracket ∷ us) × Indices us more vs
index-parts no_index stop = absurd (omega arith)
index-parts (one_index {us = us} {t = t} {is = more} d i) stop = (t, us, more, refl, d, i)

-- one index in brackets
pub one-index : {ts us : List Token} {t : Tree} → Found (Closed (token.Symbol symbol.CloseBracket)) Always ts t us → Onward Indices (StopsAt 6) (token.Symbol symbol.OpenBracket ∷ ts) (t ∷ []) us
one-index {t = t} f = record {
  joins = λ others vs d. one_index f.is d;
  only = λ all vs d stop.
      let p = index-parts d stop in
      let e = f.only p.0 p.1 p.4 tt in
      (p.2, p.3 ∙ ap (λ x. x ∷ p.2) e.0, subst (λ x. Indices x p.2 vs) e.1 p.5);
}

-- an open bracket with no index behind it
pub no-index : {ts : List Token} → Nothing {A = Tree} (Closed (token.Symbol symbol.CloseBracket)) Always ts → Nothing {A = List Tree} Indices (StopsAt 6) (token.Symbol symbol.OpenBracket ∷ ts)
no-index f = record { none = λ all vs d stop. let p = index-parts d stop in f.none p.0 p.1 p.4 tt }

indices-over : {ts vs : List Token} {is : List Tree} → ((us : List Token) → ts ≡ token.Symbol symbol.OpenBracket ∷ us → ⊥) → Indices ts is vs → (is ≡ []) × (vs ≡ ts)
indices-over not no_index = (refl, refl)
indices-over not (one_index {ts = ts} d i) = absurd (not ts refl)

-- where no bracket follows, the indices are over
pub end-indices : {ts : List Token} → ((us : List Token) → ts ≡ token.Symbol symbol.OpenBracket ∷ us → ⊥) → Found Indices (StopsAt 6) ts [] ts
end-indices not = record { is = no_index; only = λ b vs d stop. indices-over not d }

-- atoms

literal-is : (k : Token) (t : Tree) (ts : List Token) → literal_of k ≡ Some t → Atom (k ∷ ts) t ts
literal-is (token.Number z) t ts e = let same : number z ≡ t = cc in subst (λ x. Atom (token.Number z ∷ ts) x ts) same a_number
literal-is (token.Name x) t ts e = absurd (cc)
literal-is (token.Text bytes) t ts e = let same : quoted bytes ≡ t = cc in subst (λ x. Atom (token.Text bytes ∷ ts) x ts) same a_string
literal-is (token.Word word.True) t ts e = let same : truth true ≡ t = cc in subst (λ x. Atom (token.Word word.True ∷ ts) x ts) same a_true
literal-is (token.Word word.False) t ts e = let same : truth false ≡ t = cc in subst (λ x. Atom (token.Word word.False ∷ ts) x ts) same a_false
literal-is (token.Word word.Fail) t ts e = let same : failing ≡ t = cc in subst (λ x. Atom (token.Word word.Fail ∷ ts) x ts) same a_fail
literal-is (token.Word _) t ts e = absurd (cc)
literal-is (token.Symbol s) t ts e = absurd (cc)

literal-only : {k : Token} {ts vs : List Token} {t b : Tree} → literal_of k ≡ Some t → Atom (k ∷ ts) b vs → (b ≡ t) × (vs ≡ ts)
literal-only e a_number = (cc, refl)
literal-only e a_string = (cc, refl)
literal-only e a_true = (cc, refl)
literal-only e a_false = (cc, refl)
literal-only e a_fail = (cc, refl)
literal-only e a_name = absurd (cc)
literal-only e (a_call g) = absurd (cc)
literal-only e (parenthesized d) = absurd (cc)
literal-only e an_empty_list = absurd (cc)
literal-only e (a_list d f) = absurd (cc)
literal-only e (a_range d f) = absurd (cc)

-- a token that is a literal
pub found-literal : {k : Token} {ts : List Token} {t : Tree} → literal_of k ≡ Some t → Found Atom (StopsAt 7) (k ∷ ts) t ts
found-literal {k = k} {ts = ts} {t = t} e = record { is = literal-is k t ts e; only = λ b vs d stop. literal-only e d }

no-atom-here : {k : Token} {ts vs : List Token} {b : Tree} → literal_of k ≡ None → ((x : List ℕ) → k ≡ token.Name x → ⊥) → (k ≡ token.Symbol symbol.OpenParenthesis → ⊥) → (k ≡ token.Symbol symbol.OpenBracket → ⊥) → Atom (k ∷ ts) b vs → ⊥
no-atom-here e n p q a_number = cc
no-atom-here e n p q a_string = cc
no-atom-here e n p q a_true = cc
no-atom-here e n p q a_false = cc
no-atom-here e n p q a_fail = cc
no-atom-here e n p q (a_name {x = x}) = n x refl
no-atom-here e n p q (a_call {x = x} g) = n x refl
no-atom-here e n p q (parenthesized d) = p refl
no-atom-here e n p q an_empty_list = q refl
no-atom-here e n p q (a_list d f) = q refl
no-atom-here e n p q (a_range d f) = q refl

-- a token that begins no atom
pub no-atom : {k : Token} {ts : List Token} → literal_of k ≡ None → ((x : List ℕ) → k ≡ token.Name x → ⊥) → (k ≡ token.Symbol symbol.OpenParenthesis → ⊥) → (k ≡ token.Symbol symbol.OpenBracket → ⊥) → Nothing {A = Tree} Atom (StopsAt 7) (k ∷ ts)
no-atom e n p q = record { none = λ b vs d stop. no-atom-here e n p q d }

no-atom-end : {vs : List Token} {b : Tree} → Atom [] b vs → ⊥
no-atom-end d = elim d [ ]

-- no tokens, no atom
pub no-atom-left : Nothing {A = Tree} Atom (StopsAt 7) []
no-atom-left = record { none = λ b vs d stop. no-atom-end d }

parenthesized-part : {ts vs : List Token} {b : Tree} → Atom (token.Symbol symbol.OpenParenthesis ∷ ts) b vs → Chain rank.Or ts b (token.Symbol symbol.CloseParenthesis ∷ vs)
parenthesized-part (parenthesized d) = d

-- an expression in parentheses
pub found-parenthesized : {ts us : List Token} {t : Tree} → Found (Closed (token.Symbol symbol.CloseParenthesis)) Always ts t us → Found Atom (StopsAt 7) (token.Symbol symbol.OpenParenthesis ∷ ts) t us
found-parenthesized f = record { is = parenthesized f.is; only = λ b vs d stop. f.only b vs (parenthesized-part d) tt }

-- an open parenthesis with no expression in it that is closed
pub no-parenthesized : {ts : List Token} → Nothing {A = Tree} (Closed (token.Symbol symbol.CloseParenthesis)) Always ts → Nothing {A = Tree} Atom (StopsAt 7) (token.Symbol symbol.OpenParenthesis ∷ ts)
no-parenthesized f = record { none = λ b vs d stop. f.none b vs (parenthesized-part d) tt }

-- what an open bracket begins
pub found-bracketed : {ts us : List Token} {t : Tree} → Found Bracketed Always ts t us → Found Atom (StopsAt 7) (token.Symbol symbol.OpenBracket ∷ ts) t us
found-bracketed f = record { is = f.is; only = λ b vs d stop. f.only b vs d tt }

-- an open bracket that begins nothing
pub no-bracketed : {ts : List Token} → Nothing {A = Tree} Bracketed Always ts → Nothing {A = Tree} Atom (StopsAt 7) (token.Symbol symbol.OpenBracket ∷ ts)
no-bracketed f = record { none = λ b vs d stop. f.none b vs d tt }

-- what a name begins
pub found-named : {x : List ℕ} {ts us : List Token} {t : Tree} → Found (Named x) (StopsAt 7) ts t us → Found Atom (StopsAt 7) (token.Name x ∷ ts) t us
found-named f = record { is = f.is; only = f.only }

-- a name that begins nothing
pub no-named : {x : List ℕ} {ts : List Token} → Nothing {A = Tree} (Named x) (StopsAt 7) ts → Nothing {A = Tree} Atom (StopsAt 7) (token.Name x ∷ ts)
no-named f = record { none = f.none }

variable-only : {x : List ℕ} {ts vs : List Token} {b : Tree} → ((us : List Token) → ts ≡ token.Symbol symbol.OpenParenthesis ∷ us → ⊥) → Atom (token.Name x ∷ ts) b vs → (b ≡ variable x) × (vs ≡ ts)
variable-only not a_name = (refl, refl)
variable-only not (a_call {ts = ts} g) = absurd (not ts refl)

-- a name with no parenthesis behind it is a variable
pub found-variable : {x : List ℕ} {ts : List Token} → ((us : List Token) → ts ≡ token.Symbol symbol.OpenParenthesis ∷ us → ⊥) → Found (Named x) (StopsAt 7) ts (variable x) ts
found-variable not = record { is = a_name; only = λ b vs d stop. variable-only not d }

call-parts : {x : List ℕ} {ts vs : List Token} {b : Tree} → Atom (token.Name x ∷ token.Symbol symbol.OpenParenthesis ∷ ts) b vs → StopsAt 7 vs → (given : List Argument) × (b ≡ call x (arguments given)) × Given ts given vs
call-parts a_name stop = absurd (omega arith)
call-parts (a_call {given = given} g) stop = (given, refl, g)

-- a name with arguments in parentheses is a call
pub found-call : {x : List ℕ} {ts us : List Token} {given : List Argument} → Found Given Always ts given us → Found (Named x) (StopsAt 7) (token.Symbol symbol.OpenParenthesis ∷ ts) (call x (arguments given)) us
found-call {x = x} f = record {
  is = a_call f.is;
  only = λ b vs d stop.
      let p = call-parts d stop in
      let e = f.only p.0 vs p.2 tt in
      (p.1 ∙ ap (λ g. call x (arguments g)) e.0, e.1);
}

-- a name with an open parenthesis and no arguments behind it
pub no-call : {x : List ℕ} {ts : List Token} → Nothing {A = List Argument} Given Always ts → Nothing {A = Tree} (Named x) (StopsAt 7) (token.Symbol symbol.OpenParenthesis ∷ ts)
no-call f = record { none = λ b vs d stop. let p = call-parts d stop in f.none p.0 vs p.2 tt }

-- arguments

-- an argument is followed by a comma or by a closed parenthesis
pub ends-given : {us vs : List Token} {others : List Argument} → MoreGiven us others vs → EndsGiven us
ends-given last_given = inr refl
ends-given (one_given a m) = inl refl

-- neither goes on with an expression
pub ends-stop : (us : List Token) → EndsGiven us → StopsAt 1 us
ends-stop [] e = absurd e
ends-stop (u ∷ us) e = ⊎_elim (λ c. subst (λ x. binding x < 1) (sym c) (omega arith)) (λ c. subst (λ x. binding x < 1) (sym c) (omega arith)) e

-- a closed parenthesis begins no argument
pub no-given-here : {us vs : List Token} {a : Argument} → OneGiven (token.Symbol symbol.CloseParenthesis ∷ us) a vs → ⊥
no-given-here (a_value d) = let s = starts-expression d in omega (arith, s.0)

none-only : {ts vs : List Token} {all : List Argument} → Given (token.Symbol symbol.CloseParenthesis ∷ ts) all vs → (all ≡ []) × (vs ≡ ts)
none-only none_given = (refl, refl)
none-only (some_given a m) = absurd (no-given-here a)

-- a parenthesis that is closed at once has no arguments
pub found-none-given : {ts : List Token} → Found Given Always (token.Symbol symbol.CloseParenthesis ∷ ts) [] ts
found-none-given = record { is = none_given; only = λ b vs d stop. none-only d }

given-parts : {ts vs : List Token} {all : List Argument} → ((us : List Token) → ts ≡ token.Symbol symbol.CloseParenthesis ∷ us → ⊥) → Given ts all vs → (a : Argument) × (us : List Token) × (others : List Argument) × (all ≡ a ∷ others) × OneGiven ts a us × MoreGiven us others vs
given-parts not (none_given {ts = ts}) = absurd (not ts refl)
given-parts not (some_given {us = us} {a = a} {others = others} g m) = (a, us, others, refl, g, m)

-- the first argument and the others
pub found-given : {ts us vs : List Token} {a : Argument} {others : List Argument} → ((ws : List Token) → ts ≡ token.Symbol symbol.CloseParenthesis ∷ ws → ⊥) → Found OneGiven EndsGiven ts a us → Found MoreGiven Always us others vs → Found Given Always ts (a ∷ others) vs
found-given {a = a} not f g = record {
  is = some_given f.is g.is;
  only = λ b ws d stop.
      let p = given-parts not d in
      let e = f.only p.0 p.1 p.4 (ends-given p.5) in
      let h = g.only p.2 ws (subst (λ x. MoreGiven x p.2 ws) e.1 p.5) tt in
      (p.3 ∙ (ap (λ x. x ∷ p.2) e.0 ∙ ap (λ x. a ∷ x) h.0), h.1);
}

-- where neither an argument nor the end is there, there are no arguments
pub no-given : {ts : List Token} → ((ws : List Token) → ts ≡ token.Symbol symbol.CloseParenthesis ∷ ws → ⊥) → Nothing {A = Argument} OneGiven EndsGiven ts → Nothing {A = List Argument} Given Always ts
no-given not f = record { none = λ b ws d stop. let p = given-parts not d in f.none p.0 p.1 p.4 (ends-given p.5) }

-- nor are there where the others break off
pub no-given-more : {ts us : List Token} {a : Argument} → ((ws : List Token) → ts ≡ token.Symbol symbol.CloseParenthesis ∷ ws → ⊥) → Found OneGiven EndsGiven ts a us → Nothing {A = List Argument} MoreGiven Always us → Nothing {A = List Argument} Given Always ts
no-given-more not f g = record {
  none = λ b ws d stop.
      let p = given-parts not d in
      let e = f.only p.0 p.1 p.4 (ends-given p.5) in
      g.none p.2 ws (subst (λ x. MoreGiven x p.2 ws) e.1 p.5) tt;
}

more-parts : {ts vs : List Token} {all : List Argument} → MoreGiven (token.Symbol symbol.Comma ∷ ts) all vs → (a : Argument) × (us : List Token) × (others : List Argument) × (all ≡ a ∷ others) × OneGiven ts a us × MoreGiven us others vs
more-parts (one_given {us = us} {a = a} {others = others} g m) = (a, us, others, refl, g, m)

-- one more argument behind a comma
pub one-given : {ts us : List Token} {a : Argument} → Found OneGiven EndsGiven ts a us → Onward MoreGiven Always (token.Symbol symbol.Comma ∷ ts) (a ∷ []) us
one-given {a = a} f = record {
  joins = λ others vs d. one_given f.is d;
  only = λ all vs d stop.
      let p = more-parts d in
      let e = f.only p.0 p.1 p.4 (ends-given p.5) in
      (p.2, p.3 ∙ ap (λ x. x ∷ p.2) e.0, subst (λ x. MoreGiven x p.2 vs) e.1 p.5);
}

-- a comma with no argument behind it
pub no-one-given : {ts : List Token} → Nothing {A = Argument} OneGiven EndsGiven ts → Nothing {A = List Argument} MoreGiven Always (token.Symbol symbol.Comma ∷ ts)
no-one-given f = record { none = λ all vs d stop. let p = more-parts d in f.none p.0 p.1 p.4 (ends-given p.5) }

last-only : {ts vs : List Token} {all : List Argument} → MoreGiven (token.Symbol symbol.CloseParenthesis ∷ ts) all vs → (all ≡ []) × (vs ≡ ts)
last-only last_given = (refl, refl)

-- a closed parenthesis ends the arguments
pub found-last-given : {ts : List Token} → Found MoreGiven Always (token.Symbol symbol.CloseParenthesis ∷ ts) [] ts
found-last-given = record { is = last_given; only = λ b vs d stop. last-only d }

no-more-here : {ts vs : List Token} {all : List Argument} → ((us : List Token) → ts ≡ token.Symbol symbol.Comma ∷ us → ⊥) → ((us : List Token) → ts ≡ token.Symbol symbol.CloseParenthesis ∷ us → ⊥) → MoreGiven ts all vs → ⊥
no-more-here p q (last_given {ts = ts}) = q ts refl
no-more-here p q (one_given {ts = ts} g m) = p ts refl

-- what is neither a comma nor a closed parenthesis does not
pub no-more-given : {ts : List Token} → ((us : List Token) → ts ≡ token.Symbol symbol.Comma ∷ us → ⊥) → ((us : List Token) → ts ≡ token.Symbol symbol.CloseParenthesis ∷ us → ⊥) → Nothing {A = List Argument} MoreGiven Always ts
no-more-given p q = record { none = λ b vs d stop. no-more-here p q d }
