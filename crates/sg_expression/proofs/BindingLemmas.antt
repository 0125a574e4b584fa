-- Signs before and between operands.
use Rattle.std.proofs.Common.{◌≡◌, ℕ, zero, suc, ◌+◌, ◌≤◌, List, [], ◌∷◌, Some, refl, sym, ap, ◌∙◌, arith, add-one}
use Rattle.sg_token.specs.declared.token.Token.{Token}
use Rattle.sg_token.specs.declared.token.Token.TheVariants as token
use Rattle.sg_token.specs.declared.word.Word.{Word}
use Rattle.sg_token.specs.declared.word.Word.TheVariants as word
use Rattle.sg_token.specs.declared.symbol.Symbol.{Symbol}
use Rattle.sg_token.specs.declared.symbol.Symbol.TheVariants as symbol
use Rattle.sg_tree.specs.declared.expr.Op.{Op}
use Rattle.sg_tree.specs.declared.expr.Rel.{Rel}
use Rattle.sg_expression.specs.Grammar.{times}
use Rattle.sg_expression.specs.Binding.{op_of, relation_of, relation_of_word, relation_of_symbol, rank_of, level, level_of_op, level_of_relation, level_of_bracket, binding, StopsAt}

pub times-suc : (n : ℕ) (t : Token) (us : List Token) → times n t (t ∷ us) ≡ times (suc n) t us
times-suc zero t us = refl
times-suc (suc n) t us = ap (λ x. t ∷ x) (times-suc n t us)

-- one sign more
pub times-more : (n : ℕ) (t : Token) (us : List Token) → times n t (t ∷ us) ≡ times (n + 1) t us
times-more n t us = times-suc n t us ∙ ap (λ m. times m t us) (sym (add-one n))

-- as many signs as there can be are just so many
pub times-one : (m n : ℕ) (t : Token) (us vs : List Token) → times m t us ≡ times n t vs → ((ws : List Token) → us ≡ t ∷ ws → ⊥) → ((ws : List Token) → vs ≡ t ∷ ws → ⊥) → (m ≡ n) × (us ≡ vs)
times-one zero zero t us vs e f g = (refl, e)
times-one zero (suc n) t us vs e f g = absurd (f (times n t vs) e)
times-one (suc m) zero t us vs e f g = absurd (g (times m t us) (sym e))
times-one (suc m) (suc n) t us vs e f g =
    let tail : times m t us ≡ times n t vs = cc in
    let rest = times-one m n t us vs tail f g in
    (ap suc rest.0, rest.1)

-- a bound can be raised
pub stops-more : {m : ℕ} (n : ℕ) (ts : List Token) → m ≤ n → StopsAt m ts → StopsAt n ts
stops-more n [] le s = tt
stops-more n (t ∷ ts) le s = omega arith

-- an operator binds as its rank does
pub binding-op : (t : Token) (o : Op) → op_of t ≡ Some o → binding t ≡ level (rank_of o)
binding-op t o e = ap (λ x. level_of_op x (level_of_relation (relation_of t) (level_of_bracket t))) e

binding-relation-word : (w : Word) (r : Rel) → relation_of_word w ≡ Some r → binding (token.Word w) ≡ 3
binding-relation-word word.In r e = refl
binding-relation-word _ r e = absurd (cc)

binding-relation-symbol : (s : Symbol) (r : Rel) → relation_of_symbol s ≡ Some r → binding (token.Symbol s) ≡ 3
binding-relation-symbol symbol.Equal r e = refl
binding-relation-symbol symbol.Unequal r e = refl
binding-relation-symbol symbol.Below r e = refl
binding-relation-symbol symbol.AtMost r e = refl
binding-relation-symbol symbol.Above r e = refl
binding-relation-symbol symbol.AtLeast r e = refl
binding-relation-symbol _ r e = absurd (cc)

-- a comparison binds between `and` and `+`
pub binding-relation : (t : Token) (r : Rel) → relation_of t ≡ Some r → binding t ≡ 3
binding-relation (token.Number z) r e = absurd (cc)
binding-relation (token.Name x) r e = absurd (cc)
binding-relation (token.Word w) r e = binding-relation-word w r e
binding-relation (token.Text bytes) r e = absurd (cc)
binding-relation (token.Symbol s) r e = binding-relation-symbol s r e
