-- What a piece of a script does, step by step, whatever it is answered.
use Rattle.std.specs.Prelude.{◌≡◌, ◌⊎◌, ℕ, List, [], ◌++◌, Option, Result, Ok, Err}
use Rattle.sg_rows.specs.Asks.{Asking}
use Rattle.sg_rows.specs.Order.{Plain, Reply}
use Rattle.sg_rows.specs.declared.fault.Fault.{Fault}
use Rattle.sg_meaning.specs.Queries.{Query, IsAnswer}
use Rattle.sg_meaning.specs.Vars.{Vars, value_at, with_value}

pub data Process (A : Type 0) : Type 0 where
  gives : A → Process A
  refuses : Fault → Process A
  reads : List ℕ → (Option Plain → Process A) → Process A
  asks : Query → (Reply → Process A) → Process A
  sets : List ℕ → Plain → Process A → Process A
  writes : List ℕ → Process A → Process A

infixl 10 ◌>>=◌
abbrev pub ◌>>=◌ : {A B : Type 0} → Process A → (A → Process B) → Process B
(gives a) >>= f = f a
(refuses e) >>= f = refuses e
(reads x k) >>= f = reads x (λ o. k o >>= f)
(asks q k) >>= f = asks q (λ r. k r >>= f)
(sets x d p) >>= f = sets x d (p >>= f)
(writes bs p) >>= f = writes bs (p >>= f)

-- within this budget, from these variables, it ends so, with these variables and this text, and asked for these
abbrev pub Runs : {A : Type 0} → ℕ → Process A → Vars → Result A Fault → Vars → List ℕ → List Asking → Type 0
Runs n (gives a) vars end vars' bs asked = (end ≡ Ok a) × (vars' ≡ vars) × (bs ≡ []) × (asked ≡ [])
Runs n (refuses e) vars end vars' bs asked = (end ≡ Err e) × (vars' ≡ vars) × (bs ≡ []) × (asked ≡ [])
Runs n (reads x k) vars end vars' bs asked = Runs n (k (value_at vars x)) vars end vars' bs asked
Runs n (asks q k) vars end vars' bs asked = (r : Reply) × (first : List Asking) × (rest : List Asking) × IsAnswer n q r first × (asked ≡ first ++ rest) × Runs n (k r) vars end vars' bs rest
Runs n (sets x d p) vars end vars' bs asked = Runs n p (with_value x d vars) end vars' bs asked
Runs n (writes out p) vars end vars' bs asked = (rest : List ℕ) × (bs ≡ out ++ rest) × Runs n p vars end vars' rest asked

-- nothing was done yet
abbrev pub Stops : Vars → Vars → List ℕ → Type 0
Stops vars vars' bs = (vars' ≡ vars) × (bs ≡ [])

-- it was left at some point, with a front of the text that it was writing there
abbrev pub Breaks : {A : Type 0} → ℕ → Process A → Vars → Vars → List ℕ → Type 0
Breaks n (gives a) vars vars' bs = Stops vars vars' bs
Breaks n (refuses e) vars vars' bs = Stops vars vars' bs
Breaks n (reads x k) vars vars' bs = Stops vars vars' bs ⊎ Breaks n (k (value_at vars x)) vars vars' bs
Breaks n (asks q k) vars vars' bs = Stops vars vars' bs ⊎ ((r : Reply) × (first : List Asking) × IsAnswer n q r first × Breaks n (k r) vars vars' bs)
Breaks n (sets x d p) vars vars' bs = Stops vars vars' bs ⊎ Breaks n p (with_value x d vars) vars' bs
Breaks n (writes out p) vars vars' bs =
    ((vars' ≡ vars) × (rest : List ℕ) × (out ≡ bs ++ rest)) ⊎ ((rest : List ℕ) × (bs ≡ out ++ rest) × Breaks n p vars vars' rest)
