-- Statements and blocks: what is found at the front of tokens.
use Rattle.std.proofs.Common.{◌≡◌, ℕ, ◌≤◌, List, [], ◌∷◌, true, false, refl, sym, ap, ◌∙◌, subst, arith}
use Rattle.sg_token.specs.declared.token.Token.{Token}
use Rattle.sg_token.specs.declared.token.Token.TheVariants as token
use Rattle.sg_token.specs.declared.word.Word.{Word}
use Rattle.sg_token.specs.declared.word.Word.TheVariants as word
use Rattle.sg_token.specs.declared.symbol.Symbol.TheVariants as symbol
use Rattle.sg_tree.specs.Tree.{Tree, variable, Code, nothing, assign, choose, each, perform, Block, block, arms}
use Rattle.sg_expression.specs.declared.rank.Rank.TheVariants as rank
use Rattle.sg_script.specs.Bodies.{word_ends_body, ends_body, EndsBody, EndsArms, EndsChoice, Choice, Repetition}
use Rattle.sg_expression.specs.Grammar.{Chain}
use Rattle.sg_script.specs.Grammar.{Inner, assigned, chosen, repeated, performed, Arm, an_arm, Elifs, no_elif, one_elif, Otherwise, no_else, an_else, Body, no_more, one_more, OneOf, an_empty, an_inner}
use Rattle.sg_expression.specs.Reading.{Found, Nothing, Onward, Closed, Always, NamesNot}
use Rattle.sg_expression.specs.Binding.{StopsAt}
use Rattle.sg_expression.proofs.BeginLemmas.{starts-expression, Starts, opens_word}
use Rattle.sg_expression.proofs.ArgumentLemmas.{name-alone}

-- what statements begin with

word-goes-on : (w : Word) → 1 ≤ opens_word w → word_ends_body w ≡ false
word-goes-on word.Elif s = absurd (omega arith)
word-goes-on word.Else s = absurd (omega arith)
word-goes-on word.Fi s = absurd (omega arith)
word-goes-on word.Od s = absurd (omega arith)
word-goes-on _ s = refl

expression-goes-on : (ts : List Token) → Starts 3 ts → ends_body ts ≡ false
expression-goes-on [] s = absurd s
expression-goes-on (token.Number z ∷ ts) s = refl
expression-goes-on (token.Name x ∷ ts) s = refl
expression-goes-on (token.Word w ∷ ts) s = word-goes-on w s.0
expression-goes-on (token.Text bytes ∷ ts) s = refl
expression-goes-on (token.Symbol y ∷ ts) s = refl

inner-goes-on : {ts us : List Token} {c : Code} → Inner ts c us → ends_body ts ≡ false
inner-goes-on (assigned d) = refl
inner-goes-on (chosen a e o) = refl
inner-goes-on (repeated d b) = refl
inner-goes-on {ts = ts} (performed d) = expression-goes-on ts (starts-expression d)

-- what a statement begins with ends no block
pub one-goes-on : {ts us : List Token} {c : Code} → OneOf ts c us → ends_body ts ≡ false
one-goes-on an_empty = refl
one-goes-on (an_inner d) = inner-goes-on d

-- one statement

empty-only : {ts vs : List Token} {c : Code} → OneOf (token.Symbol symbol.Semicolon ∷ ts) c vs → (c ≡ nothing) × (vs ≡ ts)
empty-only an_empty = (refl, refl)
empty-only (an_inner (performed d)) = let s = starts-expression d in absurd (omega (arith, s.0))

-- a semicolon is the empty statement
pub found-nothing : {ts : List Token} → Found OneOf Always (token.Symbol symbol.Semicolon ∷ ts) nothing ts
found-nothing = record { is = an_empty; only = λ b vs d stop. empty-only d }

assigned-part : {x : List ℕ} {ts vs : List Token} {c : Code} → OneOf (token.Name x ∷ token.Symbol symbol.Assign ∷ ts) c vs → (t : Tree) × (c ≡ assign x t) × Chain rank.Or ts t (token.Symbol symbol.Semicolon ∷ vs)
assigned-part (an_inner (assigned {t = t} d)) = (t, refl, d)
assigned-part {x = x} {ts = ts} {vs = vs} (an_inner (performed {t = t} d)) =
    let alone : Found (Chain rank.Or) (StopsAt 1) (token.Name x ∷ token.Symbol symbol.Assign ∷ ts) (variable x) (token.Symbol symbol.Assign ∷ ts) = name-alone refl in
    let e = alone.only t (token.Symbol symbol.Semicolon ∷ vs) d (omega arith) in
    let wrong = e.1 in
    absurd (cc)

-- a name, `:=` and an expression are an assignment
pub found-assigned : {x : List ℕ} {ts us : List Token} {t : Tree} → Found (Closed (token.Symbol symbol.Semicolon)) Always ts t us → Found OneOf Always (token.Name x ∷ token.Symbol symbol.Assign ∷ ts) (assign x t) us
found-assigned {x = x} f = record {
  is = an_inner (assigned f.is);
  only = λ b vs d stop. let p = assigned-part d in let e = f.only p.0 vs p.2 tt in (p.1 ∙ ap (assign x) e.0, e.1);
}

-- a name and `:=` with no expression behind them
pub no-assigned : {x : List ℕ} {ts : List Token} → Nothing {A = Tree} (Closed (token.Symbol symbol.Semicolon)) Always ts → Nothing {A = Code} OneOf Always (token.Name x ∷ token.Symbol symbol.Assign ∷ ts)
no-assigned f = record { none = λ b vs d stop. let p = assigned-part d in f.none p.0 vs p.2 tt }

choice-part : {ts vs : List Token} {c : Code} → OneOf (token.Word word.If ∷ ts) c vs → Choice ts c vs
choice-part (an_inner d) = d

-- a choice behind its `if`
pub found-if : {ts us : List Token} {c : Code} → Found Choice Always ts c us → Found OneOf Always (token.Word word.If ∷ ts) c us
found-if f = record { is = an_inner f.is; only = λ b vs d stop. f.only b vs (choice-part d) tt }

-- an `if` with no choice behind it
pub no-if : {ts : List Token} → Nothing {A = Code} Choice Always ts → Nothing {A = Code} OneOf Always (token.Word word.If ∷ ts)
no-if f = record { none = λ b vs d stop. f.none b vs (choice-part d) tt }

repetition-part : {ts vs : List Token} {c : Code} → OneOf (token.Word word.For ∷ ts) c vs → Repetition ts c vs
repetition-part (an_inner d) = d

-- a repetition behind its `for`
pub found-for : {ts us : List Token} {c : Code} → Found Repetition Always ts c us → Found OneOf Always (token.Word word.For ∷ ts) c us
found-for f = record { is = an_inner f.is; only = λ b vs d stop. f.only b vs (repetition-part d) tt }

-- a `for` with no repetition behind it
pub no-for : {ts : List Token} → Nothing {A = Code} Repetition Always ts → Nothing {A = Code} OneOf Always (token.Word word.For ∷ ts)
no-for f = record { none = λ b vs d stop. f.none b vs (repetition-part d) tt }

-- the tokens begin neither an assignment, nor a choice, nor a repetition, and are no empty statement
pub record IsPlain (ts : List Token) : Type 0 where
  pub empty : (us : List Token) → ts ≡ token.Symbol symbol.Semicolon ∷ us → ⊥
  pub assigned : NamesNot ts (token.Symbol symbol.Assign)
  pub chosen : (us : List Token) → ts ≡ token.Word word.If ∷ us → ⊥
  pub repeated : (us : List Token) → ts ≡ token.Word word.For ∷ us → ⊥

performed-part : {ts vs : List Token} {c : Code} → IsPlain ts → OneOf ts c vs → (t : Tree) × (c ≡ perform t) × Chain rank.Or ts t (token.Symbol symbol.Semicolon ∷ vs)
performed-part p (an_empty {ts = ts}) = absurd (p.empty ts refl)
performed-part p (an_inner (assigned {x = x} {ts = ts} d)) = absurd (p.assigned x ts refl)
performed-part p (an_inner (chosen {ts = ts} a e o)) = absurd (p.chosen ts refl)
performed-part p (an_inner (repeated {x = x} {ts = ts} d b)) = absurd (p.repeated (token.Name x ∷ token.Word word.In ∷ ts) refl)
performed-part p (an_inner (performed {t = t} d)) = (t, refl, d)

-- any other statement is an expression
pub found-performed : {ts us : List Token} {t : Tree} → IsPlain ts → Found (Closed (token.Symbol symbol.Semicolon)) Always ts t us → Found OneOf Always ts (perform t) us
found-performed p f = record {
  is = an_inner (performed f.is);
  only = λ b vs d stop. let q = performed-part p d in let e = f.only q.0 vs q.2 tt in (q.1 ∙ ap perform e.0, e.1);
}

-- where there is none, there is no statement
pub no-performed : {ts : List Token} → IsPlain ts → Nothing {A = Tree} (Closed (token.Symbol symbol.Semicolon)) Always ts → Nothing {A = Code} OneOf Always ts
no-performed p f = record { none = λ b vs d stop. let q = performed-part p d in f.none q.0 vs q.2 tt }

-- blocks

body-parts : {ts vs : List Token} {cs : List Code} → Body ts cs vs → ends_body ts ≡ false → ends_body vs ≡ true → (c : Code) × (us : List Token) × (more : List Code) × (cs ≡ c ∷ more) × OneOf ts c us × Body us more vs
body-parts no_more goes ends = absurd (cc)
body-parts (one_more {us = us} {c = c} {cs = more} o b) goes ends = (c, us, more, refl, o, b)

-- one more statement of a block
pub one-of-body : {ts us : List Token} {c : Code} → ends_body ts ≡ false → Found OneOf Always ts c us → Onward Body EndsBody ts (c ∷ []) us
one-of-body {c = c} goes f = record {
  joins = λ others vs d. one_more f.is d;
  only = λ all vs d stop.
      let p = body-parts d goes stop in
      let e = f.only p.0 p.1 p.4 tt in
      (p.2, p.3 ∙ ap (λ x. x ∷ p.2) e.0, subst (λ x. Body x p.2 vs) e.1 p.5);
}

-- where neither a statement nor the end of the block is there, there is no block
pub no-body : {ts : List Token} → ends_body ts ≡ false → Nothing {A = Code} OneOf Always ts → Nothing {A = List Code} Body EndsBody ts
no-body goes f = record { none = λ all vs d stop. let p = body-parts d goes stop in f.none p.0 p.1 p.4 tt }

body-over : {ts vs : List Token} {cs : List Code} → ends_body ts ≡ true → Body ts cs vs → (cs ≡ []) × (vs ≡ ts)
body-over ends no_more = (refl, refl)
body-over ends (one_more o b) = let goes = one-goes-on o in absurd (cc)

-- a word that ends a block ends this one
pub end-body : {ts : List Token} → ends_body ts ≡ true → Found Body EndsBody ts [] ts
end-body ends = record { is = no_more; only = λ b vs d stop. body-over ends d }

-- arms

arm-parts : {ts vs : List Token} {a : Tree × Block} → Arm ts a vs → (t : Tree) × (us : List Token) × (body : List Code) × (a ≡ (t, block body)) × Chain rank.Or ts t (token.Word word.Then ∷ us) × Body us body vs
arm-parts (an_arm {us = us} {t = t} {body = body} d b) = (t, us, body, refl, d, b)

-- a condition and the block that it guards
pub found-arm : {ts us vs : List Token} {t : Tree} {body : List Code} → Found (Closed (token.Word word.Then)) Always ts t us → Found Body EndsBody us body vs → Found Arm EndsBody ts (t, block body) vs
found-arm {t = t} f g = record {
  is = an_arm f.is g.is;
  only = λ b ws d stop.
      let p = arm-parts d in
      let e = f.only p.0 p.1 p.4 tt in
      let h = g.only p.2 ws (subst (λ x. Body x p.2 ws) e.1 p.5) stop in
      (p.3 ∙ (ap (λ x. (x, block p.2)) e.0 ∙ ap (λ x. (t, block x)) h.0), h.1);
}

-- no condition, no arm
pub no-arm-test : {ts : List Token} → Nothing {A = Tree} (Closed (token.Word word.Then)) Always ts → Nothing {A = Tree × Block} Arm EndsBody ts
no-arm-test f = record { none = λ b ws d stop. let p = arm-parts d in f.none p.0 p.1 p.4 tt }

-- no block, no arm
pub no-arm-body : {ts us : List Token} {t : Tree} → Found (Closed (token.Word word.Then)) Always ts t us → Nothing {A = List Code} Body EndsBody us → Nothing {A = Tree × Block} Arm EndsBody ts
no-arm-body f g = record {
  none = λ b ws d stop.
      let p = arm-parts d in
      let e = f.only p.0 p.1 p.4 tt in
      g.none p.2 ws (subst (λ x. Body x p.2 ws) e.1 p.5) stop;
}

-- an arm is followed by `elif`, or by what ends the arms
pub arm-ends : {us vs : List Token} {others : List (Tree × Block)} → Elifs us others vs → EndsChoice vs → EndsBody us
arm-ends no_elif stop = stop.0
arm-ends (one_elif a e) stop = refl

-- what stands behind the arms ends them
pub otherwise-ends : {vs ws : List Token} {other : List Code} → Otherwise vs other ws → EndsChoice vs
otherwise-ends no_else = (refl, λ us e. cc)
otherwise-ends (an_else b) = (refl, λ us e. cc)

elif-parts : {ts vs : List Token} {all : List (Tree × Block)} → Elifs (token.Word word.Elif ∷ ts) all vs → EndsChoice vs → (a : Tree × Block) × (us : List Token) × (more : List (Tree × Block)) × (all ≡ a ∷ more) × Arm ts a us × Elifs us more vs
elif-parts {ts = ts} no_elif stop = absurd (stop.1 ts refl)
elif-parts (one_elif {us = us} {a = a} {others = more} d e) stop = (a, us, more, refl, d, e)

-- one more arm behind `elif`
pub one-elif : {ts us : List Token} {a : Tree × Block} → Found Arm EndsBody ts a us → Onward Elifs EndsChoice (token.Word word.Elif ∷ ts) (a ∷ []) us
one-elif {a = a} f = record {
  joins = λ others vs d. one_elif f.is d;
  only = λ all vs d stop.
      let p = elif-parts d stop in
      let e = f.only p.0 p.1 p.4 (arm-ends p.5 stop) in
      (p.2, p.3 ∙ ap (λ x. x ∷ p.2) e.0, subst (λ x. Elifs x p.2 vs) e.1 p.5);
}

-- an `elif` with no arm behind it
pub no-elif : {ts : List Token} → Nothing {A = Tree × Block} Arm EndsBody ts → Nothing {A = List (Tree × Block)} Elifs EndsChoice (token.Word word.Elif ∷ ts)
no-elif f = record { none = λ all vs d stop. let p = elif-parts d stop in f.none p.0 p.1 p.4 (arm-ends p.5 stop) }

elifs-over : {ts vs : List Token} {all : List (Tree × Block)} → EndsArms ts → Elifs ts all vs → (all ≡ []) × (vs ≡ ts)
elifs-over not no_elif = (refl, refl)
elifs-over not (one_elif {ts = ts} a e) = absurd (not ts refl)

-- where no `elif` follows, the arms are over
pub end-elifs : {ts : List Token} → EndsArms ts → Found Elifs EndsChoice ts [] ts
end-elifs not = record { is = no_elif; only = λ b vs d stop. elifs-over not d }

-- the block behind `else`

fi-only : {ts vs : List Token} {other : List Code} → Otherwise (token.Word word.Fi ∷ ts) other vs → (other ≡ []) × (vs ≡ ts)
fi-only no_else = (refl, refl)

-- `fi` alone: there is no block behind `else`
pub found-fi : {ts : List Token} → Found Otherwise Always (token.Word word.Fi ∷ ts) [] ts
found-fi = record { is = no_else; only = λ b vs d stop. fi-only d }

else-part : {ts vs : List Token} {other : List Code} → Otherwise (token.Word word.Else ∷ ts) other vs → Body ts other (token.Word word.Fi ∷ vs)
else-part (an_else b) = b

-- `else`, a block and `fi`
pub found-else : {ts us : List Token} {other : List Code} → Found Body EndsBody ts other (token.Word word.Fi ∷ us) → Found Otherwise Always (token.Word word.Else ∷ ts) other us
found-else f = record {
  is = an_else f.is;
  only = λ b vs d stop. let e = f.only b (token.Word word.Fi ∷ vs) (else-part d) refl in (e.0, cc (e.1));
}

-- an `else` with no block behind it
pub no-else-body : {ts : List Token} → Nothing {A = List Code} Body EndsBody ts → Nothing {A = List Code} Otherwise Always (token.Word word.Else ∷ ts)
no-else-body f = record { none = λ b vs d stop. f.none b (token.Word word.Fi ∷ vs) (else-part d) refl }

-- a block behind `else` with no `fi` behind it
pub no-else-end : {ts us : List Token} {other : List Code} → Found Body EndsBody ts other us → ((vs : List Token) → us ≡ token.Word word.Fi ∷ vs → ⊥) → Nothing {A = List Code} Otherwise Always (token.Word word.Else ∷ ts)
no-else-end f not = record { none = λ b vs d stop. let e = f.only b (token.Word word.Fi ∷ vs) (else-part d) refl in not vs (sym e.1) }

no-otherwise-here : {ts vs : List Token} {other : List Code} → ((us : List Token) → ts ≡ token.Word word.Fi ∷ us → ⊥) → ((us : List Token) → ts ≡ token.Word word.Else ∷ us → ⊥) → Otherwise ts other vs → ⊥
no-otherwise-here p q (no_else {ts = ts}) = p ts refl
no-otherwise-here p q (an_else {ts = ts} b) = q ts refl

-- what is neither `fi` nor `else` does not end a choice
pub no-otherwise : {ts : List Token} → ((us : List Token) → ts ≡ token.Word word.Fi ∷ us → ⊥) → ((us : List Token) → ts ≡ token.Word word.Else ∷ us → ⊥) → Nothing {A = List Code} Otherwise Always ts
no-otherwise p q = record { none = λ b vs d stop. no-otherwise-here p q d }

-- choices

choice-parts : {ts ws : List Token} {c : Code} → Choice ts c ws → (a : Tree × Block) × (us : List Token) × (others : List (Tree × Block)) × (vs : List Token) × (other : List Code) × (c ≡ choose (arms (a ∷ others)) (block other)) × Arm ts a us × Elifs us others vs × Otherwise vs other (token.Symbol symbol.Semicolon ∷ ws)
choice-parts (chosen {us = us} {vs = vs} {a = a} {others = others} {other = other} d e o) = (a, us, others, vs, other, refl, d, e, o)
choice-parts (performed d) = let s = starts-expression d in absurd (omega (arith, s.0))

-- the arms of a choice, its block behind `else`, and the rest
arms-found : {ts us vs : List Token} {a : Tree × Block} {others : List (Tree × Block)} → Found Arm EndsBody ts a us → Found Elifs EndsChoice us others vs → {c : Code} {ws : List Token} → Choice ts c ws → (other : List Code) × (c ≡ choose (arms (a ∷ others)) (block other)) × Otherwise vs other (token.Symbol symbol.Semicolon ∷ ws)
arms-found {a = a} f g {ws = ws} d =
    let p = choice-parts d in
    let stop = otherwise-ends p.8 in
    let e = f.only p.0 p.1 p.6 (arm-ends p.7 stop) in
    let h = g.only p.2 p.3 (subst (λ x. Elifs x p.2 p.3) e.1 p.7) stop in (
      p.4,
      p.5 ∙ (ap (λ x. choose (arms (x ∷ p.2)) (block p.4)) e.0 ∙ ap (λ x. choose (arms (a ∷ x)) (block p.4)) h.0),
      subst (λ x. Otherwise x p.4 (token.Symbol symbol.Semicolon ∷ ws)) h.1 p.8,
    )

-- the first arm, the others, and the block behind `else`
pub found-choice : {ts us vs ws : List Token} {a : Tree × Block} {others : List (Tree × Block)} {other : List Code} → Found Arm EndsBody ts a us → Found Elifs EndsChoice us others vs → Found Otherwise Always vs other (token.Symbol symbol.Semicolon ∷ ws) → Found Choice Always ts (choose (arms (a ∷ others)) (block other)) ws
found-choice {a = a} {others = others} f g h = record {
  is = chosen f.is g.is h.is;
  only = λ b zs d stop.
      let p = arms-found f g d in
      let e = h.only p.0 (token.Symbol symbol.Semicolon ∷ zs) p.2 tt in
      (p.1 ∙ ap (λ x. choose (arms (a ∷ others)) (block x)) e.0, cc (e.1));
}

-- no first arm, no choice
pub no-choice-arm : {ts : List Token} → Nothing {A = Tree × Block} Arm EndsBody ts → Nothing {A = Code} Choice Always ts
no-choice-arm f = record { none = λ b zs d stop. let p = choice-parts d in f.none p.0 p.1 p.6 (arm-ends p.7 (otherwise-ends p.8)) }

-- nor is there a choice where the other arms break off
pub no-choice-elifs : {ts us : List Token} {a : Tree × Block} → Found Arm EndsBody ts a us → Nothing {A = List (Tree × Block)} Elifs EndsChoice us → Nothing {A = Code} Choice Always ts
no-choice-elifs f g = record {
  none = λ b zs d stop.
      let p = choice-parts d in
      let ends = otherwise-ends p.8 in
      let e = f.only p.0 p.1 p.6 (arm-ends p.7 ends) in
      g.none p.2 p.3 (subst (λ x. Elifs x p.2 p.3) e.1 p.7) ends;
}

-- nor where nothing ends it
pub no-choice-other : {ts us vs : List Token} {a : Tree × Block} {others : List (Tree × Block)} → Found Arm EndsBody ts a us → Found Elifs EndsChoice us others vs → Nothing {A = List Code} Otherwise Always vs → Nothing {A = Code} Choice Always ts
no-choice-other f g h = record { none = λ b zs d stop. let p = arms-found f g d in h.none p.0 (token.Symbol symbol.Semicolon ∷ zs) p.2 tt }

-- nor where no semicolon follows it
pub no-choice-end : {ts us vs ws : List Token} {a : Tree × Block} {others : List (Tree × Block)} {other : List Code} → Found Arm EndsBody ts a us → Found Elifs EndsChoice us others vs → Found Otherwise Always vs other ws → ((zs : List Token) → ws ≡ token.Symbol symbol.Semicolon ∷ zs → ⊥) → Nothing {A = Code} Choice Always ts
no-choice-end f g h not = record {
  none = λ b zs d stop.
      let p = arms-found f g d in
      let e = h.only p.0 (token.Symbol symbol.Semicolon ∷ zs) p.2 tt in
      not zs (sym e.1);
}

-- repetitions

repetition-parts : {x : List ℕ} {ts vs : List Token} {c : Code} → Repetition (token.Name x ∷ token.Word word.In ∷ ts) c vs → (t : Tree) × (us : List Token) × (body : List Code) × (c ≡ each x t (block body)) × Chain rank.Or ts t (token.Word word.Do ∷ us) × Body us body (token.Word word.Od ∷ token.Symbol symbol.Semicolon ∷ vs)
repetition-parts (repeated {us = us} {t = t} {body = body} d b) = (t, us, body, refl, d, b)
repetition-parts (performed d) = let s = starts-expression d in absurd (omega (arith, s.0))

-- a variable, a list and a block are a repetition
pub found-repetition : {x : List ℕ} {ts us vs : List Token} {t : Tree} {body : List Code} → Found (Closed (token.Word word.Do)) Always ts t us → Found Body EndsBody us body (token.Word word.Od ∷ token.Symbol symbol.Semicolon ∷ vs) → Found Repetition Always (token.Name x ∷ token.Word word.In ∷ ts) (each x t (block body)) vs
found-repetition {x = x} {t = t} f g = record {
  is = repeated f.is g.is;
  only = λ b ws d stop.
      let p = repetition-parts d in
      let e = f.only p.0 p.1 p.4 tt in
      let h = g.only p.2 (token.Word word.Od ∷ token.Symbol symbol.Semicolon ∷ ws) (subst (λ z. Body z p.2 (token.Word word.Od ∷ token.Symbol symbol.Semicolon ∷ ws)) e.1 p.5) refl in
      (p.3 ∙ (ap (λ z. each x z (block p.2)) e.0 ∙ ap (λ z. each x t (block z)) h.0), cc (h.1));
}

-- no list, no repetition
pub no-repetition-list : {x : List ℕ} {ts : List Token} → Nothing {A = Tree} (Closed (token.Word word.Do)) Always ts → Nothing {A = Code} Repetition Always (token.Name x ∷ token.Word word.In ∷ ts)
no-repetition-list f = record { none = λ b ws d stop. let p = repetition-parts d in f.none p.0 p.1 p.4 tt }

-- no block, no repetition
pub no-repetition-body : {x : List ℕ} {ts us : List Token} {t : Tree} → Found (Closed (token.Word word.Do)) Always ts t us → Nothing {A = List Code} Body EndsBody us → Nothing {A = Code} Repetition Always (token.Name x ∷ token.Word word.In ∷ ts)
no-repetition-body f g = record {
  none = λ b ws d stop.
      let p = repetition-parts d in
      let e = f.only p.0 p.1 p.4 tt in
      g.none p.2 (token.Word word.Od ∷ token.Symbol symbol.Semicolon ∷ ws) (subst (λ z. Body z p.2 (token.Word word.Od ∷ token.Symbol symbol.Semicolon ∷ ws)) e.1 p.5) refl;
}

-- nor is there one where its block does not end
pub no-repetition-end : {x : List ℕ} {ts us vs : List Token} {t : Tree} {body : List Code} → Found (Closed (token.Word word.Do)) Always ts t us → Found Body EndsBody us body vs → ((zs : List Token) → vs ≡ token.Word word.Od ∷ token.Symbol symbol.Semicolon ∷ zs → ⊥) → Nothing {A = Code} Repetition Always (token.Name x ∷ token.Word word.In ∷ ts)
no-repetition-end f g not = record {
  none = λ b ws d stop.
      let p = repetition-parts d in
      let e = f.only p.0 p.1 p.4 tt in
      let h = g.only p.2 (token.Word word.Od ∷ token.Symbol symbol.Semicolon ∷ ws) (subst (λ z. Body z p.2 (token.Word word.Od ∷ token.Symbol symbol.Semicolon ∷ ws)) e.1 p.5) refl in
      not ws (sym h.1);
}

no-name-here : {ts vs : List Token} {c : Code} → NamesNot ts (token.Word word.In) → Repetition ts c vs → ⊥
no-name-here not (repeated {x = x} {ts = ts} d b) = not x ts refl
no-name-here not (performed d) = let s = starts-expression d in omega (arith, s.0)

-- nor where no variable and `in` are there
pub no-repetition-name : {ts : List Token} → NamesNot ts (token.Word word.In) → Nothing {A = Code} Repetition Always ts
no-repetition-name not = record { none = λ b ws d stop. no-name-here not d }
