-- What tokens begin with is decided: a given token, a name before one, an operator, a comparison, and so many signs.
use Rattle.std.proofs.Common.{◌≡◌, ℕ, zero, suc, ◌+◌, ◌<◌, ◌≤◌, List, [], ◌∷◌, length, Option, None, Some, refl, ap, ◌∙◌, inl, inr, arith}
use Rattle.std.specs.Prelude.{◌⊎◌}
use Rattle.std.proofs.lemmas.Bool.{cases_eq}
use denote.Enum.Bare.{tag_one}
use denote.Enum.Declared.{tag_of}
use Rattle.sg_token.specs.declared.token.Token.{Token}
use Rattle.sg_token.specs.declared.token.Token.TheVariants as token
use Rattle.sg_token.specs.declared.word.Word.{Word}
use Rattle.sg_token.specs.contracts.word.Word.{the_type as the_word}
use Rattle.sg_token.specs.declared.symbol.Symbol.{Symbol}
use Rattle.sg_token.specs.contracts.symbol.Symbol.{the_type as the_symbol}
use Rattle.sg_tree.specs.declared.expr.Op.{Op}
use Rattle.sg_tree.specs.declared.expr.Rel.{Rel}
use Rattle.sg_expression.specs.declared.rank.Rank.{Rank}
use Rattle.sg_expression.specs.contracts.rank.Rank.{the_type as the_rank}
use Rattle.sg_expression.specs.Reading.{Operates, OperatesNot, Compares, ComparesNot, NamesNot, Counts}
use Rattle.sg_expression.specs.Binding.{op_of, rank_of, relation_of}

symbol-same : (s t : Symbol) → (s ≡ t) ⊎ (s ≡ t → ⊥)
symbol-same s t = elim (cases_eq (tag_of the_symbol s) (tag_of the_symbol t)) [ inl e ↦ inl (tag_one the_symbol tt s t e) | inr other ↦ inr (λ e. other (ap (tag_of the_symbol) e)) ]

word-same : (s t : Word) → (s ≡ t) ⊎ (s ≡ t → ⊥)
word-same s t = elim (cases_eq (tag_of the_word s) (tag_of the_word t)) [ inl e ↦ inl (tag_one the_word tt s t e) | inr other ↦ inr (λ e. other (ap (tag_of the_word) e)) ]

rank-same : (s t : Rank) → (s ≡ t) ⊎ (s ≡ t → ⊥)
rank-same s t = elim (cases_eq (tag_of the_rank s) (tag_of the_rank t)) [ inl e ↦ inl (tag_one the_rank tt s t e) | inr other ↦ inr (λ e. other (ap (tag_of the_rank) e)) ]

-- the tokens begin with this one, or they do not
abbrev pub Front : Token → List Token → Type 0
Front t ts = ((us : List Token) × (ts ≡ t ∷ us)) ⊎ ((us : List Token) → ts ≡ t ∷ us → ⊥)

-- whether a symbol stands at the front
pub symbol-front : (s : Symbol) (ts : List Token) → Front (token.Symbol s) ts
symbol-front s [] = inr (λ us e. cc)
symbol-front s (token.Number z ∷ ts) = inr (λ us e. cc)
symbol-front s (token.Name x ∷ ts) = inr (λ us e. cc)
symbol-front s (token.Word w ∷ ts) = inr (λ us e. cc)
symbol-front s (token.Text bytes ∷ ts) = inr (λ us e. cc)
symbol-front s (token.Symbol t ∷ ts) = elim (symbol-same t s) [ inl e ↦ inl (ts, ap (λ x. token.Symbol x ∷ ts) e) | inr other ↦ inr (λ us e. other cc) ]

-- whether a word does
pub word-front : (w : Word) (ts : List Token) → Front (token.Word w) ts
word-front w [] = inr (λ us e. cc)
word-front w (token.Number z ∷ ts) = inr (λ us e. cc)
word-front w (token.Name x ∷ ts) = inr (λ us e. cc)
word-front w (token.Word v ∷ ts) = elim (word-same v w) [ inl e ↦ inl (ts, ap (λ x. token.Word x ∷ ts) e) | inr other ↦ inr (λ us e. other cc) ]
word-front w (token.Text bytes ∷ ts) = inr (λ us e. cc)
word-front w (token.Symbol t ∷ ts) = inr (λ us e. cc)

-- whether a name does, with a given token behind it
pub name-front : (t : Token) → ((us : List Token) → Front t us) → (ts : List Token) → ((x : List ℕ) × (us : List Token) × (ts ≡ token.Name x ∷ t ∷ us)) ⊎ NamesNot ts t
name-front t front [] = inr (λ x us e. cc)
name-front t front (token.Number z ∷ ts) = inr (λ x us e. cc)
name-front t front (token.Name x ∷ ts) = elim (front ts) [ inl w ↦ inl (x, w.0, ap (λ us. token.Name x ∷ us) w.1) | inr other ↦ inr (λ y us e. other us cc) ]
name-front t front (token.Word w ∷ ts) = inr (λ x us e. cc)
name-front t front (token.Text bytes ∷ ts) = inr (λ x us e. cc)
name-front t front (token.Symbol s ∷ ts) = inr (λ x us e. cc)

operator-at : (t : Token) (ts : List Token) (r : Rank) (o : Option Op) → op_of t ≡ o → ((o : Op) × (us : List Token) × Operates (t ∷ ts) r o us) ⊎ OperatesNot (t ∷ ts) r
operator-at t ts r None is = inr (λ s o us e made rank. let same : t ≡ s = cc in let f = ap op_of same in cc)
operator-at t ts r (Some o) is = elim (rank-same (rank_of o) r) [
  | inl e ↦ inl (o, ts, record { first = t; front = refl; operator = is; rank = e })
  | inr other ↦ inr (λ s p us e made rank. let same : t ≡ s = cc in let f = ap op_of same in let g : o ≡ p = cc in other (ap rank_of g ∙ rank))
]

-- whether an operator of the rank does
pub operator-front : (ts : List Token) (r : Rank) → ((o : Op) × (us : List Token) × Operates ts r o us) ⊎ OperatesNot ts r
operator-front [] r = inr (λ s o us e made rank. cc)
operator-front (t ∷ ts) r = operator-at t ts r (op_of t) refl

comparison-at : (t : Token) (ts : List Token) (o : Option Rel) → relation_of t ≡ o → ((r : Rel) × (us : List Token) × Compares (t ∷ ts) r us) ⊎ ComparesNot (t ∷ ts)
comparison-at t ts None is = inr (λ s r us e made. let same : t ≡ s = cc in let f = ap relation_of same in cc)
comparison-at t ts (Some r) is = inl (r, ts, record { first = t; front = refl; comparison = is })

-- whether a comparison does
pub comparison-front : (ts : List Token) → ((r : Rel) × (us : List Token) × Compares ts r us) ⊎ ComparesNot ts
comparison-front [] = inr (λ s r us e made. cc)
comparison-front (t ∷ ts) = comparison-at t ts (relation_of t) refl

signs-below : (t : Token) → ((us : List Token) → Front t us) → (k : ℕ) (ts : List Token) → length ts < k → (n : ℕ) × (us : List Token) × Counts ts t n us × (length us ≤ length ts)
signs-below t front zero ts l = absurd (omega arith)
signs-below t front (suc k) ts l = elim (front ts) [
  | inr other ↦ (0, ts, record { front = refl; last = other }, omega arith)
  | inl w ↦
      let m : length ts ≡ suc (length w.0) = ap length w.1 in
      let r = signs-below t front k w.0 (omega arith) in
      (suc r.0, r.1, record { front = w.1 ∙ ap (λ us. t ∷ us) r.2.front; last = r.2.last }, omega (arith, m, r.3))
]

-- the tokens begin with a sign just so many times
pub signs-front : (t : Token) → ((us : List Token) → Front t us) → (ts : List Token) → (n : ℕ) × (us : List Token) × Counts ts t n us × (length us ≤ length ts)
signs-front t front ts = signs-below t front (length ts + 1) ts (omega arith)
