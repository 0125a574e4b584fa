-- Lists and ranges in brackets: what is found behind the bracket that opens them.
use Rattle.std.proofs.Common.{◌≡◌, List, [], ◌∷◌, refl, sym, ap, ◌∙◌, subst, arith}
use Rattle.sg_token.specs.declared.token.Token.{Token}
use Rattle.sg_token.specs.declared.token.Token.TheVariants as token
use Rattle.sg_token.specs.declared.symbol.Symbol.TheVariants as symbol
use Rattle.sg_tree.specs.Tree.{Tree, display, span, no_trees, trees}
use Rattle.sg_expression.specs.declared.rank.Rank.TheVariants as rank
use Rattle.sg_expression.specs.Grammar.{Chain, Atom, an_empty_list, a_list, a_range, Entries, last_entry, one_entry}
use Rattle.sg_expression.specs.Reading.{Found, Nothing, Onward, Closed, Always, Bracketed, Listed}
use Rattle.sg_expression.specs.Binding.{StopsAt}
use Rattle.sg_expression.proofs.BeginLemmas.{starts-expression}

no-expression-here : {ts us : List Token} {t : Tree} → Chain rank.Or (token.Symbol symbol.CloseBracket ∷ ts) t us → ⊥
no-expression-here d = let s = starts-expression d in omega (arith, s.0)

empty-only : {ts vs : List Token} {b : Tree} → Atom (token.Symbol symbol.OpenBracket ∷ token.Symbol symbol.CloseBracket ∷ ts) b vs → (b ≡ display no_trees) × (vs ≡ ts)
empty-only an_empty_list = (refl, refl)
empty-only (a_list d e) = absurd (no-expression-here d)
empty-only (a_range d e) = absurd (no-expression-here d)

-- a bracket that is closed at once is the empty list
pub found-empty : {ts : List Token} → Found Bracketed Always (token.Symbol symbol.CloseBracket ∷ ts) (display no_trees) ts
found-empty = record { is = an_empty_list; only = λ b vs d stop. empty-only d }

-- an entry is followed by a comma or by a closed bracket, which go on with no expression
pub entries-stop : {us vs : List Token} {es : List Tree} → Entries us es vs → StopsAt 1 us
entries-stop last_entry = omega arith
entries-stop (one_entry d e) = omega arith

-- two dots begin no further entries
pub no-entries-here : {us vs : List Token} {es : List Tree} → Entries (token.Symbol symbol.Dots ∷ us) es vs → ⊥
no-entries-here d = elim d [ ]

-- behind an expression and two dots stands the other bound
range-part : {ts us : List Token} {low : Tree} → Found (Chain rank.Or) (StopsAt 1) ts low (token.Symbol symbol.Dots ∷ us) → {b : Tree} {vs : List Token} → Atom (token.Symbol symbol.OpenBracket ∷ ts) b vs → (high : Tree) × (b ≡ span low high) × Chain rank.Or us high (token.Symbol symbol.CloseBracket ∷ vs)
range-part f an_empty_list = absurd (no-expression-here f.is)
range-part f (a_list {us = ws} {vs = vs} {es = es} d e) =
    let same = f.only _ ws d (entries-stop e) in
    absurd (no-entries-here (subst (λ x. Entries x es vs) same.1 e))
range-part {us = us} {low = low} f (a_range {us = ws} {vs = vs} {low = a} {high = high} d e) =
    let same = f.only a (token.Symbol symbol.Dots ∷ ws) d (omega arith) in
    let left : ws ≡ us = cc (same.1) in
    (high, ap (λ x. span x high) same.0, subst (λ x. Chain rank.Or x high (token.Symbol symbol.CloseBracket ∷ vs)) left e)

-- two bounds are a range
pub found-range : {ts us vs : List Token} {low high : Tree} → Found (Chain rank.Or) (StopsAt 1) ts low (token.Symbol symbol.Dots ∷ us) → Found (Closed (token.Symbol symbol.CloseBracket)) Always us high vs → Found Bracketed Always ts (span low high) vs
found-range {low = low} f g = record {
  is = a_range f.is g.is;
  only = λ b ws d stop.
      let p = range-part f d in
      let e = g.only p.0 ws p.2 tt in
      (p.1 ∙ ap (span low) e.0, e.1);
}

-- two dots with no other bound behind them
pub no-range : {ts us : List Token} {low : Tree} → Found (Chain rank.Or) (StopsAt 1) ts low (token.Symbol symbol.Dots ∷ us) → Nothing {A = Tree} (Closed (token.Symbol symbol.CloseBracket)) Always us → Nothing {A = Tree} Bracketed Always ts
no-range f g = record { none = λ b ws d stop. let p = range-part f d in g.none p.0 ws p.2 tt }

-- behind an expression and no dots stand the other entries
list-part : {ts us : List Token} {t : Tree} → Found (Chain rank.Or) (StopsAt 1) ts t us → ((ws : List Token) → us ≡ token.Symbol symbol.Dots ∷ ws → ⊥) → {b : Tree} {vs : List Token} → Atom (token.Symbol symbol.OpenBracket ∷ ts) b vs → Listed t us b vs
list-part f not an_empty_list = absurd (no-expression-here f.is)
list-part {us = us} {t = t} f not (a_list {us = ws} {vs = vs} {t = a} {es = es} d e) =
    let same = f.only a ws d (entries-stop e) in
    (es, ap (λ x. display (trees (x ∷ es))) same.0, subst (λ x. Entries x es vs) same.1 e)
list-part f not (a_range {us = ws} {low = a} d e) =
    let same = f.only a (token.Symbol symbol.Dots ∷ ws) d (omega arith) in
    absurd (not ws (sym same.1))

is-list : {ts us vs : List Token} {t b : Tree} → Chain rank.Or ts t us → Listed t us b vs → Atom (token.Symbol symbol.OpenBracket ∷ ts) b vs
is-list {ts = ts} {vs = vs} d l = subst (λ x. Atom (token.Symbol symbol.OpenBracket ∷ ts) x vs) (sym l.1) (a_list d l.2)

-- a first entry and the others are a list
pub found-list : {ts us vs : List Token} {t b : Tree} → Found (Chain rank.Or) (StopsAt 1) ts t us → ((ws : List Token) → us ≡ token.Symbol symbol.Dots ∷ ws → ⊥) → Found (Listed t) Always us b vs → Found Bracketed Always ts b vs
found-list f not g = record { is = is-list f.is g.is; only = λ b ws d stop. g.only b ws (list-part f not d) tt }

-- nor is there a list where the others break off
pub no-list : {ts us : List Token} {t : Tree} → Found (Chain rank.Or) (StopsAt 1) ts t us → ((ws : List Token) → us ≡ token.Symbol symbol.Dots ∷ ws → ⊥) → Nothing {A = Tree} (Listed t) Always us → Nothing {A = Tree} Bracketed Always ts
no-list f not g = record { none = λ b ws d stop. g.none b ws (list-part f not d) tt }

no-first : {ts : List Token} → ((ws : List Token) → ts ≡ token.Symbol symbol.CloseBracket ∷ ws → ⊥) → Nothing {A = Tree} (Chain rank.Or) (StopsAt 1) ts → {b : Tree} {vs : List Token} → Atom (token.Symbol symbol.OpenBracket ∷ ts) b vs → ⊥
no-first not f (an_empty_list {ts = ts}) = not ts refl
no-first not f (a_list {us = us} {t = t} d e) = f.none t us d (entries-stop e)
no-first not f (a_range {us = us} {low = low} d e) = f.none low (token.Symbol symbol.Dots ∷ us) d (omega arith)

-- where neither an entry nor the end is there, there is no list
pub no-first-entry : {ts : List Token} → ((ws : List Token) → ts ≡ token.Symbol symbol.CloseBracket ∷ ws → ⊥) → Nothing {A = Tree} (Chain rank.Or) (StopsAt 1) ts → Nothing {A = Tree} Bracketed Always ts
no-first-entry not f = record { none = λ b vs d stop. no-first not f d }

-- the other entries

entry-parts : {ts vs : List Token} {all : List Tree} → Entries (token.Symbol symbol.Comma ∷ ts) all vs → (t : Tree) × (us : List Token) × (es : List Tree) × (all ≡ t ∷ es) × Chain rank.Or ts t us × Entries us es vs
entry-parts (one_entry {us = us} {t = t} {es = es} d e) = (t, us, es, refl, d, e)

-- one more entry behind a comma
pub one-entry : {ts us : List Token} {t : Tree} → Found (Chain rank.Or) (StopsAt 1) ts t us → Onward Entries Always (token.Symbol symbol.Comma ∷ ts) (t ∷ []) us
one-entry {t = t} f = record {
  joins = λ others vs d. one_entry f.is d;
  only = λ all vs d stop.
      let p = entry-parts d in
      let e = f.only p.0 p.1 p.4 (entries-stop p.5) in
      (p.2, p.3 ∙ ap (λ x. x ∷ p.2) e.0, subst (λ x. Entries x p.2 vs) e.1 p.5);
}

-- a comma with no entry behind it
pub no-entry : {ts : List Token} → Nothing {A = Tree} (Chain rank.Or) (StopsAt 1) ts → Nothing {A = List Tree} Entries Always (token.Symbol symbol.Comma ∷ ts)
no-entry f = record { none = λ all vs d stop. let p = entry-parts d in f.none p.0 p.1 p.4 (entries-stop p.5) }

last-entry-only : {ts vs : List Token} {all : List Tree} → Entries (token.Symbol symbol.CloseBracket ∷ ts) all vs → (all ≡ []) × (vs ≡ ts)
last-entry-only last_entry = (refl, refl)

-- a closed bracket ends the entries
pub found-last-entry : {ts : List Token} → Found Entries Always (token.Symbol symbol.CloseBracket ∷ ts) [] ts
found-last-entry = record { is = last_entry; only = λ b vs d stop. last-entry-only d }

no-more-entries : {ts vs : List Token} {all : List Tree} → ((us : List Token) → ts ≡ token.Symbol symbol.Comma ∷ us → ⊥) → ((us : List Token) → ts ≡ token.Symbol symbol.CloseBracket ∷ us → ⊥) → Entries ts all vs → ⊥
no-more-entries p q (last_entry {ts = ts}) = q ts refl
no-more-entries p q (one_entry {ts = ts} d e) = p ts refl

-- what is neither a comma nor a closed bracket does not
pub no-entries : {ts : List Token} → ((us : List Token) → ts ≡ token.Symbol symbol.Comma ∷ us → ⊥) → ((us : List Token) → ts ≡ token.Symbol symbol.CloseBracket ∷ us → ⊥) → Nothing {A = List Tree} Entries Always ts
no-entries p q = record { none = λ b vs d stop. no-more-entries p q d }

-- the list of a first entry and the others
pub found-listed : {first : Tree} {ts us : List Token} {es : List Tree} → Found Entries Always ts es us → Found (Listed first) Always ts (display (trees (first ∷ es))) us
found-listed {first = first} {es = es} f = record {
  is = (es, refl, f.is);
  only = λ b vs d stop. let e = f.only d.0 vs d.2 tt in (d.1 ∙ ap (λ x. display (trees (first ∷ x))) e.0, e.1);
}

-- where the others break off, there is none
pub no-listed : {first : Tree} {ts : List Token} → Nothing {A = List Tree} Entries Always ts → Nothing {A = Tree} (Listed first) Always ts
no-listed f = record { none = λ b vs d stop. f.none d.0 vs d.2 tt }
