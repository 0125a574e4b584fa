-- The items of a list that have a property, one item after the other.
use Rattle.std.proofs.Common.{ℕ, ◌+◌, ◌<◌, ◌≤◌, List, [], ◌∷◌, ◌++◌, length, get_or, take, sym, subst, inl, inr, ◌↔◌}
use Rattle.std.specs.Prelude.{Contains}
use Rattle.std.proofs.lemmas.List.{take_all, take_more}
use Rattle.std.proofs.lemmas.List.Elements.{Contains-append_left, Contains-push, Contains-push_cases}
use Rattle.sg_laws_finite.proofs.ElementLemmas.{contains-nil}

-- l has the items of xs with P
abbrev pub IsKept : (ℕ → Type 0) → List ℕ → List ℕ → Type 0
IsKept P xs l = (v : ℕ) → Contains l v ↔ (Contains xs v × P v)

pub kept-none : (P : ℕ → Type 0) → IsKept P [] []
kept-none P v = ((λ h. absurd (contains-nil v h)), (λ r. absurd (contains-nil v r.0)))

-- one item more, which has it
pub kept-push : (P : ℕ → Type 0) (xs : List ℕ) (i : ℕ) (l : List ℕ) → i < length xs → P (get_or xs i 0) → IsKept P (take i xs) l → IsKept P (take (i + 1) xs) (l ++ get_or xs i 0 ∷ [])
kept-push P xs i l inside has h = subst (λ ys. IsKept P ys (l ++ get_or xs i 0 ∷ [])) (sym (take_more xs i 0 inside)) (λ v. (
  (λ there. elim (Contains-push_cases l (get_or xs i 0) v there) [
    | inl before ↦ let r = (h v).0 before in (Contains-append_left (take i xs) (get_or xs i 0 ∷ []) v r.0, r.1)
    | inr same ↦ (subst (λ x. Contains (take i xs ++ get_or xs i 0 ∷ []) x) same (Contains-push (take i xs) (get_or xs i 0)), subst P same has)
  ]),
  (λ r. elim (Contains-push_cases (take i xs) (get_or xs i 0) v r.0) [
    | inl before ↦ Contains-append_left l (get_or xs i 0 ∷ []) v ((h v).1 (before, r.1))
    | inr same ↦ subst (λ x. Contains (l ++ get_or xs i 0 ∷ []) x) same (Contains-push l (get_or xs i 0))
  ]),
))

-- or which has it not
pub kept-skip : (P : ℕ → Type 0) (xs : List ℕ) (i : ℕ) (l : List ℕ) → i < length xs → (P (get_or xs i 0) → ⊥) → IsKept P (take i xs) l → IsKept P (take (i + 1) xs) l
kept-skip P xs i l inside not h = subst (λ ys. IsKept P ys l) (sym (take_more xs i 0 inside)) (λ v. (
  (λ there. let r = (h v).0 there in (Contains-append_left (take i xs) (get_or xs i 0 ∷ []) v r.0, r.1)),
  (λ r. elim (Contains-push_cases (take i xs) (get_or xs i 0) v r.0) [
    | inl before ↦ (h v).1 (before, r.1)
    | inr same ↦ absurd (not (subst P (sym same) r.1))
  ]),
))

-- at the end all items were looked at
pub kept-all : (P : ℕ → Type 0) (xs : List ℕ) (i : ℕ) (l : List ℕ) → length xs ≤ i → IsKept P (take i xs) l → IsKept P xs l
kept-all P xs i l far h = subst (λ ys. IsKept P ys l) (take_all i xs far) h
