-- The grammar of statements, over that of expressions: each relation says what stands at the front of a list of tokens,
-- and what follows it.
use Rattle.std.specs.Prelude.{ℕ, List, [], ◌∷◌}
use Rattle.sg_tree.specs.Tree.{Tree, Code, nothing, quit, assign, choose, each, perform, Block, block, arms}
use Rattle.sg_token.specs.declared.token.Token.{Token}
use Rattle.sg_token.specs.declared.token.Token.TheVariants as token
use Rattle.sg_token.specs.declared.word.Word.TheVariants as word
use Rattle.sg_token.specs.declared.symbol.Symbol.TheVariants as symbol
use Rattle.sg_expression.specs.declared.rank.Rank.TheVariants as rank
use Rattle.sg_expression.specs.Grammar.{Chain}

-- inner and block
mutual
  pub data Inner : List Token → Code → List Token → Type 0 where
    assigned : {x : List ℕ} {ts us : List Token} {t : Tree} → Chain rank.Or ts t (token.Symbol symbol.Semicolon ∷ us) → Inner (token.Name x ∷ token.Symbol symbol.Assign ∷ ts) (assign x t) us
    chosen : {ts us vs ws : List Token} {a : Tree × Block} {others : List (Tree × Block)} {other : List Code} → Arm ts a us → Elifs us others vs → Otherwise vs other (token.Symbol symbol.Semicolon ∷ ws) → Inner (token.Word word.If ∷ ts) (choose (arms (a ∷ others)) (block other)) ws
    repeated : {x : List ℕ} {ts us vs : List Token} {t : Tree} {body : List Code} → Chain rank.Or ts t (token.Word word.Do ∷ us) → Body us body (token.Word word.Od ∷ token.Symbol symbol.Semicolon ∷ vs) → Inner (token.Word word.For ∷ token.Name x ∷ token.Word word.In ∷ ts) (each x t (block body)) vs
    performed : {ts us : List Token} {t : Tree} → Chain rank.Or ts t (token.Symbol symbol.Semicolon ∷ us) → Inner ts (perform t) us

  -- expr "then" block
  pub data Arm : List Token → (Tree × Block) → List Token → Type 0 where
    an_arm : {ts us vs : List Token} {t : Tree} {body : List Code} → Chain rank.Or ts t (token.Word word.Then ∷ us) → Body us body vs → Arm ts (t, block body) vs

  -- { "elif" expr "then" block }
  pub data Elifs : List Token → List (Tree × Block) → List Token → Type 0 where
    no_elif : {ts : List Token} → Elifs ts [] ts
    one_elif : {ts us vs : List Token} {a : Tree × Block} {others : List (Tree × Block)} → Arm ts a us → Elifs us others vs → Elifs (token.Word word.Elif ∷ ts) (a ∷ others) vs

  -- [ "else" block ] "fi"
  pub data Otherwise : List Token → List Code → List Token → Type 0 where
    no_else : {ts : List Token} → Otherwise (token.Word word.Fi ∷ ts) [] ts
    an_else : {ts us : List Token} {other : List Code} → Body ts other (token.Word word.Fi ∷ us) → Otherwise (token.Word word.Else ∷ ts) other us

  -- { inner | ";" }
  pub data Body : List Token → List Code → List Token → Type 0 where
    no_more : {ts : List Token} → Body ts [] ts
    one_more : {ts us vs : List Token} {c : Code} {cs : List Code} → OneOf ts c us → Body us cs vs → Body ts (c ∷ cs) vs

  pub data OneOf : List Token → Code → List Token → Type 0 where
    an_empty : {ts : List Token} → OneOf (token.Symbol symbol.Semicolon ∷ ts) nothing ts
    an_inner : {ts us : List Token} {c : Code} → Inner ts c us → OneOf ts c us

-- a whole statement
pub data IsStatement : List Token → Code → Type 0 where
  the_last : IsStatement (token.Word word.Quit ∷ token.Symbol symbol.Semicolon ∷ []) quit
  a_statement : {ts : List Token} {c : Code} → OneOf ts c [] → IsStatement ts c
