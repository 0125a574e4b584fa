-- A statement stands at the front of tokens, or none does: by the blocks at the fronts of fewer tokens.
use Rattle.std.proofs.Common.{◌≡◌, ℕ, zero, suc, ◌+◌, ◌<◌, ◌≤◌, Bool, true, false, List, [], ◌∷◌, length, refl, sym, ap, ◌∙◌, subst, inl, inr, arith}
use Rattle.std.specs.Prelude.{◌⊎◌}
use Rattle.sg_token.specs.declared.token.Token.{Token}
use Rattle.sg_token.specs.declared.token.Token.TheVariants as token
use Rattle.sg_token.specs.declared.word.Word.TheVariants as word
use Rattle.sg_token.specs.declared.symbol.Symbol.TheVariants as symbol
use Rattle.sg_tree.specs.Tree.{Tree, Code, nothing, quit, assign, choose, each, perform, block, arms}
use Rattle.sg_script.specs.Bodies.{ends_body, EndsBody, EndsChoice, Choice, Repetition}
use Rattle.sg_script.specs.Grammar.{Arm, Elifs, Otherwise, Body, OneOf, IsStatement, the_last, a_statement}
use Rattle.sg_expression.specs.Reading.{Found, Closed, Always}
use Rattle.sg_expression.specs.Binding.{binding}
use Rattle.sg_expression.proofs.Fronts.{Front, symbol-front, word-front, name-front}
use Rattle.sg_expression.proofs.SomeExpressions.{Strictly, Loosely, behind, behind-two, then-loosely, closed-read, expression-read}
use Rattle.sg_script.proofs.StatementLemmas.{found-nothing, found-assigned, no-assigned, found-if, no-if, found-for, no-for, IsPlain, found-performed, no-performed, one-of-body, no-body, end-body, found-arm, no-arm-test, no-arm-body, one-elif, no-elif, end-elifs, found-fi, found-else, no-else-body, no-else-end, no-otherwise, found-choice, no-choice-arm, no-choice-elifs, no-choice-other, no-choice-end, found-repetition, no-repetition-list, no-repetition-body, no-repetition-end, no-repetition-name}
use Rattle.sg_script.proofs.UniqueStatementLemmas.{quit-alone, not-the-last}

-- an expression before this token
before-token : (k : Token) → binding k ≡ 0 → ((us : List Token) → Front k us) → (ts : List Token) → Strictly (Closed k) Always ts
before-token k unbound front ts = closed-read k unbound front ts (expression-read ts)

assigned-read : (x : List ℕ) (us : List Token) → Strictly (Closed (token.Symbol symbol.Semicolon)) Always us → Strictly OneOf Always (token.Name x ∷ token.Symbol symbol.Assign ∷ us)
assigned-read x us (inl f) = inl (assign x f.0, f.1, found-assigned f.2, omega (arith, f.3))
assigned-read x us (inr none) = inr (no-assigned none)

if-read : (us : List Token) → Strictly Choice Always us → Strictly OneOf Always (token.Word word.If ∷ us)
if-read us (inl f) = inl (f.0, f.1, found-if f.2, omega (arith, f.3))
if-read us (inr none) = inr (no-if none)

for-read : (us : List Token) → Strictly Repetition Always us → Strictly OneOf Always (token.Word word.For ∷ us)
for-read us (inl f) = inl (f.0, f.1, found-for f.2, omega (arith, f.3))
for-read us (inr none) = inr (no-for none)

performed-read : (ts : List Token) → IsPlain ts → Strictly (Closed (token.Symbol symbol.Semicolon)) Always ts → Strictly OneOf Always ts
performed-read ts p (inl f) = inl (perform f.0, f.1, found-performed p f.2, f.3)
performed-read ts p (inr none) = inr (no-performed p none)

module _ (n : ℕ) (before : (us : List Token) → length us < n → Loosely Body EndsBody us) where
  arm-read : (ts : List Token) → length ts < n → Strictly Arm EndsBody ts
  arm-read ts l = elim (before-token (token.Word word.Then) refl (word-front word.Then) ts) [
    | inr none ↦ inr (no-arm-test none)
    | inl f ↦
        let q = f.3 in
        elim (before f.1 (omega arith)) [
          | inr none ↦ inr (no-arm-body f.2 none)
          | inl g ↦ inl ((f.0, block g.0), g.1, found-arm f.2 g.2, omega (arith, q, g.3))
        ]
  ]

  elif-read : (us : List Token) → Strictly Arm EndsBody us → ((vs : List Token) → length vs < length us → Loosely Elifs EndsChoice vs) → Loosely Elifs EndsChoice (token.Word word.Elif ∷ us)
  elif-read us (inr none) more = inr (no-elif none)
  elif-read us (inl f) more = then-loosely Elifs EndsChoice (token.Word word.Elif ∷ us) f.1 f.0 (one-elif f.2) (omega (arith, f.3)) (more f.1 f.3)

  elifs-read : (m : ℕ) (ts : List Token) → length ts < m → length ts ≤ n → Loosely Elifs EndsChoice ts
  elifs-read zero ts s l = absurd (omega arith)
  elifs-read (suc m) ts s l = elim (word-front word.Elif ts) [
    | inr other ↦ inl ([], ts, end-elifs other, omega arith)
    | inl w ↦
        let c = behind (token.Word word.Elif) ts w.0 w.1 in
        subst (Loosely Elifs EndsChoice) (sym w.1) (elif-read w.0 (arm-read w.0 (omega arith)) (λ vs q. elifs-read m vs (omega arith) (omega arith)))
  ]

  else-read : (us : List Token) → Loosely Body EndsBody us → Strictly Otherwise Always (token.Word word.Else ∷ us)
  else-read us (inr none) = inr (no-else-body none)
  else-read us (inl f) = elim (word-front word.Fi f.1) [
    | inr other ↦ inr (no-else-end f.2 other)
    | inl w ↦
        let c = behind (token.Word word.Fi) f.1 w.0 w.1 in
        inl (f.0, w.0, found-else (subst (λ vs. Found Body EndsBody us f.0 vs) w.1 f.2), omega (arith, c, f.3))
  ]

  otherwise-read : (ts : List Token) → length ts ≤ n → Strictly Otherwise Always ts
  otherwise-read ts l = elim (word-front word.Fi ts) [
    | inl w ↦ subst (Strictly Otherwise Always) (sym w.1) (inl ([], w.0, found-fi, omega arith))
    | inr other ↦ elim (word-front word.Else ts) [
      | inl w ↦ let c = behind (token.Word word.Else) ts w.0 w.1 in subst (Strictly Otherwise Always) (sym w.1) (else-read w.0 (before w.0 (omega arith)))
      | inr last ↦ inr (no-otherwise other last)
    ]
  ]

  choice-read : (ts : List Token) → length ts < n → Strictly Choice Always ts
  choice-read ts l = elim (arm-read ts l) [
    | inr none ↦ inr (no-choice-arm none)
    | inl f ↦
        let q = f.3 in
        elim (elifs-read (length f.1 + 1) f.1 (omega arith) (omega arith)) [
          | inr none ↦ inr (no-choice-elifs f.2 none)
          | inl g ↦
              let p = g.3 in
              elim (otherwise-read g.1 (omega arith)) [
                | inr none ↦ inr (no-choice-other f.2 g.2 none)
                | inl h ↦ elim (symbol-front symbol.Semicolon h.1) [
                  | inr other ↦ inr (no-choice-end f.2 g.2 h.2 other)
                  | inl w ↦
                      let c = behind (token.Symbol symbol.Semicolon) h.1 w.0 w.1 in
                      inl (choose (arms (f.0 ∷ g.0)) (block h.0), w.0, found-choice f.2 g.2 (subst (λ vs. Found Otherwise Always g.1 h.0 vs) w.1 h.2), omega (arith, q, p, c, h.3))
                ]
              ]
        ]
  ]

  od-read : (x : List ℕ) (ts us vs : List Token) (t : Tree) (body : List Code) → Found (Closed (token.Word word.Do)) Always ts t us → Found Body EndsBody us body vs → length us < length ts → length vs ≤ length us →
      Strictly Repetition Always (token.Name x ∷ token.Word word.In ∷ ts)
  od-read x ts us vs t body f g q p = elim (word-front word.Od vs) [
    | inr other ↦ inr (no-repetition-end f g (λ zs e. other (token.Symbol symbol.Semicolon ∷ zs) e))
    | inl w ↦ elim (symbol-front symbol.Semicolon w.0) [
      | inr other ↦ inr (no-repetition-end f g (λ zs e. other zs cc))
      | inl v ↦
          let both : vs ≡ token.Word word.Od ∷ token.Symbol symbol.Semicolon ∷ v.0 = w.1 ∙ ap (λ z. token.Word word.Od ∷ z) v.1 in
          let c = behind-two (token.Word word.Od) (token.Symbol symbol.Semicolon) vs v.0 both in
          inl (each x t (block body), v.0, found-repetition f (subst (λ z. Found Body EndsBody us body z) both g), omega (arith, q, p, c))
    ]
  ]

  repeated-read : (x : List ℕ) (us : List Token) → length us < n → Strictly Repetition Always (token.Name x ∷ token.Word word.In ∷ us)
  repeated-read x us l = elim (before-token (token.Word word.Do) refl (word-front word.Do) us) [
    | inr none ↦ inr (no-repetition-list none)
    | inl f ↦
        let q = f.3 in
        elim (before f.1 (omega arith)) [
          | inr none ↦ inr (no-repetition-body f.2 none)
          | inl g ↦ od-read x us f.1 g.1 f.0 g.0 f.2 g.2 q g.3
        ]
  ]

  repetition-read : (ts : List Token) → length ts < n → Strictly Repetition Always ts
  repetition-read ts l = elim (name-front (token.Word word.In) (word-front word.In) ts) [
    | inr other ↦ inr (no-repetition-name other)
    | inl w ↦
        let c = behind-two (token.Name w.0) (token.Word word.In) ts w.1 w.2 in
        subst (Strictly Repetition Always) (sym w.2) (repeated-read w.0 w.1 (omega arith))
  ]

  one-read : (ts : List Token) → length ts ≤ n → Strictly OneOf Always ts
  one-read ts l = elim (symbol-front symbol.Semicolon ts) [
    | inl w ↦ subst (Strictly OneOf Always) (sym w.1) (inl (nothing, w.0, found-nothing, omega arith))
    | inr empty ↦ elim (name-front (token.Symbol symbol.Assign) (symbol-front symbol.Assign) ts) [
      | inl w ↦ subst (Strictly OneOf Always) (sym w.2) (assigned-read w.0 w.1 (before-token (token.Symbol symbol.Semicolon) refl (symbol-front symbol.Semicolon) w.1))
      | inr assigned ↦ elim (word-front word.If ts) [
        | inl w ↦ let c = behind (token.Word word.If) ts w.0 w.1 in subst (Strictly OneOf Always) (sym w.1) (if-read w.0 (choice-read w.0 (omega arith)))
        | inr chosen ↦ elim (word-front word.For ts) [
          | inl w ↦ let c = behind (token.Word word.For) ts w.0 w.1 in subst (Strictly OneOf Always) (sym w.1) (for-read w.0 (repetition-read w.0 (omega arith)))
          | inr repeated ↦ performed-read ts (record { empty = empty; assigned = assigned; chosen = chosen; repeated = repeated })
              (before-token (token.Symbol symbol.Semicolon) refl (symbol-front symbol.Semicolon) ts)
        ]
      ]
    ]
  ]

  body-more : (ts : List Token) → ends_body ts ≡ false → Strictly OneOf Always ts → ((vs : List Token) → length vs < length ts → Loosely Body EndsBody vs) → Loosely Body EndsBody ts
  body-more ts goes (inr none) more = inr (no-body goes none)
  body-more ts goes (inl f) more = then-loosely Body EndsBody ts f.1 f.0 (one-of-body goes f.2) f.3 (more f.1 f.3)

  body-at : (ts : List Token) → length ts ≤ n → ((vs : List Token) → length vs < length ts → Loosely Body EndsBody vs) → (b : Bool) → ends_body ts ≡ b → Loosely Body EndsBody ts
  body-at ts l more true is = inl ([], ts, end-body is, omega arith)
  body-at ts l more false is = body-more ts is (one-read ts l) more

body-below : (k : ℕ) (ts : List Token) → length ts < k → Loosely Body EndsBody ts
body-below zero ts l = absurd (omega arith)
body-below (suc k) ts l = body-at k (λ us s. body-below k us s) ts (omega arith) (λ us s. body-below k us (omega arith)) (ends_body ts) refl

statement-read : (ts : List Token) → Strictly OneOf Always ts
statement-read ts = one-read (length ts) (λ us s. body-below (length ts) us s) ts (omega arith)

-- the tokens are a statement, or they are none
abbrev pub Made : List Token → Type 0
Made ts = ((c : Code) × IsStatement ts c) ⊎ ((c : Code) → IsStatement ts c → ⊥)

quit-made : (us : List Token) → Made (token.Word word.Quit ∷ us)
quit-made us = elim (symbol-front symbol.Semicolon us) [
  | inr other ↦ inr (λ c d. other [] (quit-alone d))
  | inl w ↦ at w.0 w.1
]
  where
    at : (vs : List Token) → us ≡ token.Symbol symbol.Semicolon ∷ vs → Made (token.Word word.Quit ∷ us)
    at [] e = inl (quit, subst (λ x. IsStatement (token.Word word.Quit ∷ x) quit) (sym e) the_last)
    at (v ∷ vs) e = inr (λ c d. let f = quit-alone d in let g : ◌≡◌ {A = List Token} (token.Symbol symbol.Semicolon ∷ v ∷ vs) (token.Symbol symbol.Semicolon ∷ []) = sym e ∙ f in cc)

one-made : (ts : List Token) → ((us : List Token) → ts ≡ token.Word word.Quit ∷ us → ⊥) → Strictly OneOf Always ts → Made ts
one-made ts other (inr none) = inr (λ c d. none.none c [] (not-the-last other d) tt)
one-made ts other (inl f) = at f.0 f.1 f.2
  where
    at : (c : Code) (us : List Token) → Found OneOf Always ts c us → Made ts
    at c [] f = inl (c, a_statement f.is)
    at c (u ∷ us) f = inr (λ d s. let e = f.only d [] (not-the-last other s) tt in let g : ◌≡◌ {A = List Token} [] (u ∷ us) = e.1 in cc)

-- tokens are a statement, or they are none
pub made-or_none : (ts : List Token) → Made ts
made-or_none ts = elim (word-front word.Quit ts) [
  | inl w ↦ subst Made (sym w.1) (quit-made w.0)
  | inr other ↦ one-made ts other (statement-read ts)
]
