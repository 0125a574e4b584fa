-- What a call of the reader finds at the front of tokens.
use Rattle.std.specs.Prelude.{◌≡◌, ℕ, ◌<◌, ◌≤◌, List, [], ◌∷◌, ◌++◌, length, Option, Some, None, Result, Ok, Err, ◌⊎◌}
use denote.Ref.{Bor}
use Rattle.sg_token.specs.declared.token.Token.{Token}
use Rattle.sg_token.specs.declared.token.Token.TheVariants as token
use Rattle.sg_token.specs.declared.token.TokenFault.{TokenFault}
use Rattle.sg_token.specs.declared.token.TokenFault.TheVariants.{Syntax, Memory}
use Rattle.sg_tree.specs.declared.expr.Op.{Op}
use Rattle.sg_tree.specs.declared.expr.Rel.{Rel}
use Rattle.sg_expression.specs.declared.rank.Rank.{Rank}
use Rattle.sg_expression.specs.declared.rank.Rank.TheVariants as rank
use Rattle.sg_token.specs.declared.symbol.Symbol.TheVariants as symbol
use Rattle.sg_tree.specs.Tree.{Tree, display, trees}
use Rattle.sg_expression.specs.Grammar.{Chain, Atom, Entries, times}
use Rattle.sg_expression.specs.Binding.{op_of, rank_of, relation_of}

-- this stands at the front, and nothing else does where what follows can't go on with it
pub record Found {A : Type 0} (R : List Token → A → List Token → Type 0) (Stop : List Token → Type 0) (ts : List Token) (a : A) (us : List Token) : Type 0 where
  pub is : R ts a us
  pub only : (b : A) (vs : List Token) → R ts b vs → Stop vs → (b ≡ a) × (vs ≡ us)

-- nothing stands at the front, where what follows can't go on with it
pub record Nothing {A : Type 0} (R : List Token → A → List Token → Type 0) (Stop : List Token → Type 0) (ts : List Token) : Type 0 where
  pub none : (b : A) (vs : List Token) → R ts b vs → Stop vs → ⊥

-- the items so far were read, and the others are those of the rest
pub record Onward {A : Type 0} (R : List Token → List A → List Token → Type 0) (Stop : List Token → Type 0) (ts : List Token) (found : List A) (us : List Token) : Type 0 where
  pub joins : (others : List A) (vs : List Token) → R us others vs → R ts (found ++ others) vs
  pub only : (all : List A) (vs : List Token) → R ts all vs → Stop vs → (others : List A) × (all ≡ found ++ others) × R us others vs

-- nothing is there, where the fault is Syntax
abbrev pub Misses : {A : Type 0} → (List Token → A → List Token → Type 0) → (List Token → Type 0) → List Token → TokenFault → Type 0
Misses R Stop ts Syntax = Nothing R Stop ts
Misses R Stop ts (Memory cause) = Unit {0}

-- what a call answers: what it found, or Syntax where nothing is there
abbrev pub Reads : {X A : Type 0} → (X → A) → (List Token → A → List Token → Type 0) → (List Token → Type 0) → List Token → Result (X × Bor (List Token)) TokenFault → Type 0
Reads view R Stop ts (Ok found) = Found R Stop ts (view found.0) found.1.now
Reads view R Stop ts (Err fault) = Misses R Stop ts fault

-- what is left is shorter
abbrev pub Shortens : {X : Type 0} → List Token → Result (X × Bor (List Token)) TokenFault → Type 0
Shortens ts (Ok found) = length found.1.now < length ts
Shortens ts (Err fault) = Unit {0}

-- what is left is no longer
abbrev pub ShortensNot : {X : Type 0} → List Token → Result (X × Bor (List Token)) TokenFault → Type 0
ShortensNot ts (Ok found) = length found.1.now ≤ length ts
ShortensNot ts (Err fault) = Unit {0}

-- the tokens begin with this one
abbrev pub IsAfter : List Token → Token → Option (Bor (List Token)) → Type 0
IsAfter ts t None = (us : List Token) → ts ≡ t ∷ us → ⊥
IsAfter ts t (Some rest) = ts ≡ t ∷ rest.now

-- an operator of this rank at the front
pub record Operates (ts : List Token) (r : Rank) (o : Op) (us : List Token) : Type 0 where
  pub first : Token
  pub front : ts ≡ first ∷ us
  pub operator : op_of first ≡ Some o
  pub rank : rank_of o ≡ r

-- no operator of this rank at the front
abbrev pub OperatesNot : List Token → Rank → Type 0
OperatesNot ts r = (s : Token) (o : Op) (us : List Token) → ts ≡ s ∷ us → op_of s ≡ Some o → rank_of o ≡ r → ⊥

-- a comparison at the front
pub record Compares (ts : List Token) (r : Rel) (us : List Token) : Type 0 where
  pub first : Token
  pub front : ts ≡ first ∷ us
  pub comparison : relation_of first ≡ Some r

-- no comparison at the front
abbrev pub ComparesNot : List Token → Type 0
ComparesNot ts = (s : Token) (r : Rel) (us : List Token) → ts ≡ s ∷ us → relation_of s ≡ Some r → ⊥

-- the answer is right, or memory is wanting
abbrev pub IfNoMemory : {X : Type 0} → Result X TokenFault → (X → Type 0) → Type 0
IfNoMemory (Ok x) P = P x
IfNoMemory (Err Syntax) P = ⊥
IfNoMemory (Err (Memory cause)) P = Unit {0}

-- the tokens don't begin with a name and then this token
abbrev pub NamesNot : List Token → Token → Type 0
NamesNot ts t = (x : List ℕ) (us : List Token) → ts ≡ token.Name x ∷ (t ∷ us) → ⊥

-- the tokens begin with this one just so many times
pub record Counts (ts : List Token) (t : Token) (n : ℕ) (us : List Token) : Type 0 where
  pub front : ts ≡ times n t us
  pub last : (vs : List Token) → us ≡ t ∷ vs → ⊥

-- an expression and the token that closes it
abbrev pub Closed : Token → List Token → Tree → List Token → Type 0
Closed t ts tree us = Chain rank.Or ts tree (t ∷ us)

-- whatever follows
abbrev pub Always : List Token → Type 0
Always ts = Unit {0}

-- what a name begins, from behind it
abbrev pub Named : List ℕ → List Token → Tree → List Token → Type 0
Named x ts tree us = Atom (token.Name x ∷ ts) tree us

-- what a bracket begins, from behind it
abbrev pub Bracketed : List Token → Tree → List Token → Type 0
Bracketed ts tree us = Atom (token.Symbol symbol.OpenBracket ∷ ts) tree us

-- the other entries of a list
abbrev pub Listed : Tree → List Token → Tree → List Token → Type 0
Listed first ts tree us = (es : List Tree) × (tree ≡ display (trees (first ∷ es))) × Entries ts es us

-- what follows an argument
abbrev pub EndsGiven : List Token → Type 0
EndsGiven [] = ⊥
EndsGiven (t ∷ ts) = (t ≡ token.Symbol symbol.Comma) ⊎ (t ≡ token.Symbol symbol.CloseParenthesis)
