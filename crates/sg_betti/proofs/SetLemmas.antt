-- Lists that grow at their end, as sets.
use Rattle.std.proofs.Common.{◌≡◌, ℕ, ◌+◌, ◌<◌, List, [], ◌∷◌, ◌++◌, length, get_or, refl, sym, subst, ◌∙◌, inl, inr, arith}
use Rattle.std.specs.Prelude.{◌⊎◌, ◌↔◌, Contains}
use Rattle.std.proofs.lemmas.Bool.{cases_lt}
use Rattle.std.proofs.lemmas.List.{get_or_default}
use Rattle.std.proofs.lemmas.List.Elements.{Contains-append_left, Contains-push, Contains-push_cases}
use Rattle.sg_laws_finite.proofs.ElementLemmas.{contains-nil}

-- one of the first i entries is k
abbrev pub IsAmongFirst : List ℕ → ℕ → ℕ → Type 0
IsAmongFirst xs i k = (j : ℕ) × (j < i) × (get_or xs j 0 ≡ k)

-- none is before the first
pub among-none : (xs : List ℕ) (k : ℕ) → IsAmongFirst xs 0 k → ⊥
among-none xs k h = omega (arith, h.1)

-- one more entry
pub among-more : (xs : List ℕ) (i k : ℕ) → IsAmongFirst xs (i + 1) k ↔ (IsAmongFirst xs i k ⊎ (get_or xs i 0 ≡ k))
among-more xs i k = (
  (λ h. elim (cases_lt h.0 i) [
    | inl less ↦ inl (h.0, less, h.2)
    | inr more ↦ inr (let e : h.0 ≡ i = omega (arith, h.1) in subst (λ j. get_or xs j 0 ≡ k) e h.2)
  ]),
  (λ h. elim h [
    | inl p ↦ (p.0, omega (arith, p.1), p.2)
    | inr e ↦ (i, omega arith, e)
  ]),
)

-- all of them
pub among-all : (xs : List ℕ) (i k : ℕ) → length xs ≡ i → IsAmongFirst xs i k ↔ Contains xs k
among-all xs i k e = (
  (λ h. (h.0, omega (arith, h.1, e), get_or_default xs h.0 k 0 (omega (arith, h.1, e)) ∙ h.2)),
  (λ h. (h.0, omega (arith, h.1, e), get_or_default xs h.0 0 k h.1 ∙ h.2)),
)

-- an entry was put last
pub set-pushed : {A : Type 0} (P Q : A → Type 0) (xs ys : List A) (x : A) → ((y : A) → Contains xs y ↔ P y) → ys ≡ xs ++ x ∷ [] →
    ((y : A) → Q y ↔ (P y ⊎ (x ≡ y))) → (y : A) → Contains ys y ↔ Q y
set-pushed P Q xs ys x is made more y = (
  (λ h. elim (Contains-push_cases xs x y (subst (λ l. Contains l y) made h)) [
    | inl old ↦ (more y).1 (inl ((is y).0 old))
    | inr same ↦ (more y).1 (inr same)
  ]),
  (λ q. subst (λ l. Contains l y) (sym made) (elim ((more y).0 q) [
    | inl old ↦ Contains-append_left xs (x ∷ []) y ((is y).1 old)
    | inr same ↦ subst (Contains (xs ++ x ∷ [])) same (Contains-push xs x)
  ])),
)

-- what is among the first entries and has P, beside what was there before
abbrev pub IsOldOrAmong : (ℕ → Type 0) → List ℕ → ℕ → (ℕ → Type 0) → ℕ → Type 0
IsOldOrAmong Old xs i P k = Old k ⊎ (IsAmongFirst xs i k × P k)

module _ (Old : ℕ → Type 0) (xs : List ℕ) (P : ℕ → Type 0) where
  -- the next entry has P and was put last
  pub among-taken : (i x : ℕ) (l now : List ℕ) → ((k : ℕ) → Contains l k ↔ IsOldOrAmong Old xs i P k) → x ≡ get_or xs i 0 → P x → now ≡ l ++ x ∷ [] →
      (k : ℕ) → Contains now k ↔ IsOldOrAmong Old xs (i + 1) P k
  among-taken i x l now is read p made = set-pushed (IsOldOrAmong Old xs i P) (IsOldOrAmong Old xs (i + 1) P) l now x is made (λ k. (
    (λ h. elim h [
      | inl old ↦ inl (inl old)
      | inr new ↦ elim ((among-more xs i k).0 new.0) [
        | inl before ↦ inl (inr (before, new.1))
        | inr here ↦ inr (read ∙ here)
      ]
    ]),
    (λ h. elim h [
      | inl before ↦ elim before [
        | inl old ↦ inl old
        | inr new ↦ inr ((among-more xs i k).1 (inl new.0), new.1)
      ]
      | inr e ↦ inr ((among-more xs i k).1 (inr (sym read ∙ e)), subst P e p)
    ]),
  ))

  -- the next entry has not P, and nothing was put last
  pub among-passed : (i x : ℕ) (l : List ℕ) → ((k : ℕ) → Contains l k ↔ IsOldOrAmong Old xs i P k) → x ≡ get_or xs i 0 → ¬ P x →
      (k : ℕ) → Contains l k ↔ IsOldOrAmong Old xs (i + 1) P k
  among-passed i x l is read not k = (
    (λ h. elim ((is k).0 h) [
      | inl old ↦ inl old
      | inr new ↦ inr ((among-more xs i k).1 (inl new.0), new.1)
    ]),
    (λ h. (is k).1 (elim h [
      | inl old ↦ inl old
      | inr new ↦ elim ((among-more xs i k).0 new.0) [
        | inl before ↦ inr (before, new.1)
        | inr here ↦ absurd (not (subst P (sym (read ∙ here)) new.1))
      ]
    ])),
  )

  -- all entries were looked at
  pub among-end : (i : ℕ) (l : List ℕ) → length xs ≡ i → ((k : ℕ) → Contains l k ↔ IsOldOrAmong Old xs i P k) →
      (k : ℕ) → Contains l k ↔ (Old k ⊎ (Contains xs k × P k))
  among-end i l e is k = (
    (λ h. elim ((is k).0 h) [
      | inl old ↦ inl old
      | inr new ↦ inr ((among-all xs i k e).0 new.0, new.1)
    ]),
    (λ h. (is k).1 (elim h [
      | inl old ↦ inl old
      | inr new ↦ inr ((among-all xs i k e).1 new.0, new.1)
    ])),
  )

-- what was put into a list that had been emptied
pub from-emptied : (l : List ℕ) (Q : ℕ → Type 0) (k : ℕ) (now : List ℕ) → l ≡ [] → Contains now k ↔ (Contains l k ⊎ Q k) → Contains now k ↔ Q k
from-emptied l Q k now none h = (
  (λ p. elim (h.0 p) [
    | inl old ↦ absurd (contains-nil k (subst (λ m. Contains m k) none old))
    | inr new ↦ new
  ]),
  (λ q. h.1 (inr q)),
)

-- a list in which nothing is is empty
pub nil-from_short : (l : List ℕ) → (0 < length l → ⊥) → l ≡ []
nil-from_short [] h = refl
nil-from_short (x ∷ l) h = absurd (h (omega arith))
