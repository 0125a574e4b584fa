-- Pieces of a script, one after another.
use Rattle.std.proofs.Common.{◌≡◌, ◌⊎◌, ℕ, List, [], ◌++◌, Result, Ok, Err, inl, inr, refl, ap, sym, ◌∙◌, subst, append_assoc}
use Rattle.sg_rows.specs.declared.fault.Fault.{Fault}
use Rattle.sg_meaning.specs.Vars.{Vars, value_at, with_value}
use Rattle.sg_rows.specs.Asks.{Asking}
use Rattle.sg_meaning.specs.Process.{Process, gives, refuses, reads, asks, sets, writes, ◌>>=◌, Runs, Stops, Breaks}

module _ {A B : Type 0} where
  -- a piece that ends well, and what comes after it
  pub runs_then : (n : ℕ) (p : Process A) (f : A → Process B) (vars vars1 vars2 : Vars) (a : A) (end : Result B Fault) (t u : List ℕ) (xs ys : List Asking)
      → Runs n p vars (Ok a) vars1 t xs → Runs n (f a) vars1 end vars2 u ys → Runs n (p >>= f) vars end vars2 (t ++ u) (xs ++ ys)
  runs_then n (gives b) f vars vars1 vars2 a end t u xs ys h g =
      let same : a ≡ b = cc in
      subst (λ zs. Runs n (f b) vars end vars2 (t ++ u) (zs ++ ys)) (sym h.3)
      (subst (λ s. Runs n (f b) vars end vars2 (s ++ u) ys) (sym h.2) (subst (λ v. Runs n (f b) v end vars2 u ys) h.1 (subst (λ x. Runs n (f x) vars1 end vars2 u ys) same g)))
  runs_then n (refuses e) f vars vars1 vars2 a end t u xs ys h g = absurd (cc)
  runs_then n (reads x k) f vars vars1 vars2 a end t u xs ys h g = runs_then n (k (value_at vars x)) f vars vars1 vars2 a end t u xs ys h g
  runs_then n (asks q k) f vars vars1 vars2 a end t u xs ys h g =
      (h.0, h.1, h.2 ++ ys, h.3, ap (λ zs. zs ++ ys) h.4 ∙ append_assoc h.1 h.2 ys, runs_then n (k h.0) f vars vars1 vars2 a end t u h.2 ys h.5 g)
  runs_then n (sets x d p) f vars vars1 vars2 a end t u xs ys h g = runs_then n p f (with_value x d vars) vars1 vars2 a end t u xs ys h g
  runs_then n (writes out p) f vars vars1 vars2 a end t u xs ys h g =
      (h.0 ++ u, ap (λ s. s ++ u) h.1 ∙ append_assoc out h.0 u, runs_then n p f vars vars1 vars2 a end h.0 u xs ys h.2 g)

  -- a piece that is refused
  pub runs_refused : (n : ℕ) (p : Process A) (f : A → Process B) (vars vars1 : Vars) (e : Fault) (t : List ℕ) (xs : List Asking) → Runs n p vars (Err e) vars1 t xs → Runs n (p >>= f) vars (Err e) vars1 t xs
  runs_refused n (gives b) f vars vars1 e t xs h = absurd (cc)
  runs_refused n (refuses d) f vars vars1 e t xs h = let same : e ≡ d = cc in (ap Err same, h.1, h.2, h.3)
  runs_refused n (reads x k) f vars vars1 e t xs h = runs_refused n (k (value_at vars x)) f vars vars1 e t xs h
  runs_refused n (asks q k) f vars vars1 e t xs h = (h.0, h.1, h.2, h.3, h.4, runs_refused n (k h.0) f vars vars1 e t h.2 h.5)
  runs_refused n (sets x d p) f vars vars1 e t xs h = runs_refused n p f (with_value x d vars) vars1 e t xs h
  runs_refused n (writes out p) f vars vars1 e t xs h = (h.0, h.1, runs_refused n p f vars vars1 e h.0 xs h.2)

or_then : {P Q R : Type 0} → (Q → R) → P ⊎ Q → P ⊎ R
or_then f (inl p) = inl p
or_then f (inr q) = inr (f q)

-- it can be left before anything was done
pub breaks_first : {A : Type 0} (n : ℕ) (p : Process A) (vars : Vars) → Breaks n p vars vars []
breaks_first n (gives a) vars = (refl, refl)
breaks_first n (refuses e) vars = (refl, refl)
breaks_first n (reads x k) vars = inl (refl, refl)
breaks_first n (asks q k) vars = inl (refl, refl)
breaks_first n (sets x d p) vars = inl (refl, refl)
breaks_first n (writes out p) vars = inl (refl, out, refl)

breaks_stopped : {A : Type 0} (n : ℕ) (p : Process A) (vars vars' : Vars) (t : List ℕ) → Stops vars vars' t → Breaks n p vars vars' t
breaks_stopped n p vars vars' t h = subst (λ v. Breaks n p vars v t) (sym h.0) (subst (λ s. Breaks n p vars vars s) (sym h.1) (breaks_first n p vars))

module _ {A B : Type 0} where
  -- a piece that ends well, and one that is left
  pub breaks_then : (n : ℕ) (p : Process A) (f : A → Process B) (vars vars1 vars2 : Vars) (a : A) (t u : List ℕ) (xs : List Asking)
      → Runs n p vars (Ok a) vars1 t xs → Breaks n (f a) vars1 vars2 u → Breaks n (p >>= f) vars vars2 (t ++ u)
  breaks_then n (gives b) f vars vars1 vars2 a t u xs h g =
      let same : a ≡ b = cc in
      subst (λ s. Breaks n (f b) vars vars2 (s ++ u)) (sym h.2) (subst (λ v. Breaks n (f b) v vars2 u) h.1 (subst (λ x. Breaks n (f x) vars1 vars2 u) same g))
  breaks_then n (refuses e) f vars vars1 vars2 a t u xs h g = absurd (cc)
  breaks_then n (reads x k) f vars vars1 vars2 a t u xs h g = inr (breaks_then n (k (value_at vars x)) f vars vars1 vars2 a t u xs h g)
  breaks_then n (asks q k) f vars vars1 vars2 a t u xs h g = inr (h.0, h.1, h.3, breaks_then n (k h.0) f vars vars1 vars2 a t u h.2 h.5 g)
  breaks_then n (sets x d p) f vars vars1 vars2 a t u xs h g = inr (breaks_then n p f (with_value x d vars) vars1 vars2 a t u xs h g)
  breaks_then n (writes out p) f vars vars1 vars2 a t u xs h g =
      inr (h.0 ++ u, ap (λ s. s ++ u) h.1 ∙ append_assoc out h.0 u, breaks_then n p f vars vars1 vars2 a h.0 u xs h.2 g)

  -- a piece that is left
  pub breaks_in : (n : ℕ) (p : Process A) (f : A → Process B) (vars vars' : Vars) (t : List ℕ) → Breaks n p vars vars' t → Breaks n (p >>= f) vars vars' t
  breaks_in n (gives a) f vars vars' t h = breaks_stopped n (f a) vars vars' t h
  breaks_in n (refuses e) f vars vars' t h = h
  breaks_in n (reads x k) f vars vars' t h = or_then (λ g. breaks_in n (k (value_at vars x)) f vars vars' t g) h
  breaks_in n (asks q k) f vars vars' t h = or_then (λ g. (g.0, g.1, g.2, breaks_in n (k g.0) f vars vars' t g.3)) h
  breaks_in n (sets x d p) f vars vars' t h = or_then (λ g. breaks_in n p f (with_value x d vars) vars' t g) h
  breaks_in n (writes out p) f vars vars' t h = or_then (λ g. (g.0, g.1, breaks_in n p f vars vars' g.0 g.2)) h
