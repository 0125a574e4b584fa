-- Each text has an outcome: it falls into tokens or not, these nest too deeply or not, and they are a statement or not.
use Rattle.std.proofs.Common.{◌≡◌, ℕ, zero, suc, ◌+◌, ◌<◌, List, length, take, sym, ◌∙◌, subst, inl, inr, arith}
use Rattle.std.specs.Prelude.{◌⊎◌, count_by}
use Rattle.std.proofs.lemmas.Bool.{cases_lt}
use Rattle.std.proofs.lemmas.List.{take_all}
use Rattle.sg_token.specs.declared.token.Token.{Token}
use Rattle.sg_script.specs.declared.limits.TheConstants.{NESTING_LIMIT}
use Rattle.sg_script.specs.Depth.{IsDeep, IsDeepAt, rises, deepens}
use Rattle.sg_script.specs.Outcome.{Outcome, a_tree, too_deep, no_statement, IsReadAs, torn, deep, parsed, unparsed}
use Rattle.sg_token.proofs.SomeTokens.{falls-or_none}
use Rattle.sg_script.proofs.SomeStatements.{made-or_none}

deep-below : (ts : List Token) (k : ℕ) → ((n : ℕ) × IsDeepAt ts n) ⊎ ((n : ℕ) → n < k → IsDeepAt ts n → ⊥)
deep-below ts zero = inr (λ n l d. omega (arith, l))
deep-below ts (suc k) = elim (deep-below ts k) [
  | inl found ↦ inl found
  | inr none ↦ elim (cases_lt (count_by rises (take k ts) + NESTING_LIMIT) (count_by deepens (take k ts))) [
    | inl here ↦ inl (k, here)
    | inr other ↦ inr (λ n l d. elim (cases_lt n k) [
      | inl less ↦ none n less d
      | inr last ↦ let e : n ≡ k = omega (arith, l, last) in let f = subst (IsDeepAt ts) e d in omega (arith, f, other)
    ])
  ]
]

-- past the last token the fronts are the whole
deep-or_not : (ts : List Token) → IsDeep ts ⊎ (IsDeep ts → ⊥)
deep-or_not ts = elim (deep-below ts (length ts + 1)) [
  | inl found ↦ inl found
  | inr none ↦ inr (λ d. elim (cases_lt d.0 (length ts)) [
    | inl less ↦ none d.0 (omega arith) d.1
    | inr more ↦
        let whole : take d.0 ts ≡ take (length ts) ts = take_all d.0 ts more ∙ sym (take_all (length ts) ts (omega arith)) in
        none (length ts) (omega arith) (subst (λ us. count_by rises us + NESTING_LIMIT < count_by deepens us) whole d.1)
  ])
]

-- each text has an outcome
pub some-outcome : (text : List ℕ) → (o : Outcome) × IsReadAs text o
some-outcome text = elim (falls-or_none text) [
  | inr none ↦ (no_statement, torn none)
  | inl f ↦ elim (deep-or_not f.0) [
    | inl d ↦ (too_deep, deep f.1 d)
    | inr flat ↦ elim (made-or_none f.0) [
      | inl s ↦ (a_tree s.0, parsed f.1 flat s.1)
      | inr none ↦ (no_statement, unparsed f.1 flat none)
    ]
  ]
]
