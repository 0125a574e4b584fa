-- Parts of a list of generators.
use Rattle.std.proofs.Common.{◌≡◌, ℕ, ◌+◌, ◌*◌, ◌<◌, ◌≤◌, List, [], ◌∷◌, ◌++◌, length, get_or, take, refl, sym, ap, subst, inl, inr, ◌↔◌, arith}
use Rattle.std.specs.Prelude.{Contains}
use Rattle.std.specs.List.Sorted.{IsStrictlyIncreasing}
use Rattle.std.proofs.lemmas.List.{take_all, take_more, get_or-take, length-take-le}
use Rattle.std.proofs.lemmas.List.Elements.{Contains-append_left, Contains-push, Contains-push_cases}
use Rattle.std.proofs.lemmas.List.Kept.{AllPairs-from_increasing}
use Rattle.sg_classes.proofs.GeneratorLemmas.{contains-place}
use Rattle.sg_classes.proofs.ListingLemmas.{increasing-push}
use Rattle.sg_defs.specs.Vectors.{scale}

-- one entry more
pub scale-push : (d : ℕ) (xs : List ℕ) (y : ℕ) → scale d (xs ++ y ∷ []) ≡ scale d xs ++ (d * y) ∷ []
scale-push d [] y = refl
scale-push d (x ∷ xs) y = ap (λ l. (d * x) ∷ l) (scale-push d xs y)

-- l has the items of xs with P
abbrev pub IsKept : (ℕ → Type 0) → List ℕ → List ℕ → Type 0
IsKept P xs l = (v : ℕ) → Contains l v ↔ (Contains xs v × P v)

pub kept-none : (P : ℕ → Type 0) → IsKept P [] []
kept-none P v = ((λ h. absurd (omega (arith, h.1))), (λ r. absurd (omega (arith, r.0.1))))

-- one item more, which has it
pub kept-push : (P : ℕ → Type 0) (xs : List ℕ) (i : ℕ) (l : List ℕ) → i < length xs → P (get_or xs i 0) → IsKept P (take i xs) l → IsKept P (take (i + 1) xs) (l ++ get_or xs i 0 ∷ [])
kept-push P xs i l inside has h = subst (λ ys. IsKept P ys (l ++ get_or xs i 0 ∷ [])) (sym (take_more xs i 0 inside)) (λ v. (
  (λ there. elim (Contains-push_cases l (get_or xs i 0) v there) [
    | inl before ↦ let r = (h v).0 before in (Contains-append_left (take i xs) (get_or xs i 0 ∷ []) v r.0, r.1)
    | inr same ↦ (subst (λ x. Contains (take i xs ++ get_or xs i 0 ∷ []) x) same (Contains-push (take i xs) (get_or xs i 0)), subst P same has)
  ]),
  (λ r. elim (Contains-push_cases (take i xs) (get_or xs i 0) v r.0) [
    | inl before ↦ Contains-append_left l (get_or xs i 0 ∷ []) v ((h v).1 (before, r.1))
    | inr same ↦ subst (λ x. Contains (l ++ get_or xs i 0 ∷ []) x) same (Contains-push l (get_or xs i 0))
  ]),
))

-- or which has it not
pub kept-skip : (P : ℕ → Type 0) (xs : List ℕ) (i : ℕ) (l : List ℕ) → i < length xs → (P (get_or xs i 0) → ⊥) → IsKept P (take i xs) l → IsKept P (take (i + 1) xs) l
kept-skip P xs i l inside not h = subst (λ ys. IsKept P ys l) (sym (take_more xs i 0 inside)) (λ v. (
  (λ there. let r = (h v).0 there in (Contains-append_left (take i xs) (get_or xs i 0 ∷ []) v r.0, r.1)),
  (λ r. elim (Contains-push_cases (take i xs) (get_or xs i 0) v r.0) [
    | inl before ↦ (h v).1 (before, r.1)
    | inr same ↦ absurd (not (subst P (sym same) r.1))
  ]),
))

-- at the end all items were looked at
pub kept-all : (P : ℕ → Type 0) (xs : List ℕ) (i : ℕ) (l : List ℕ) → length xs ≤ i → IsKept P (take i xs) l → IsKept P xs l
kept-all P xs i l far h = subst (λ ys. IsKept P ys l) (take_all i xs far) h

-- what stands before a place of an ascending list is less than what stands there
pub below-next : (xs : List ℕ) (i x : ℕ) → IsStrictlyIncreasing xs → i < length xs → Contains (take i xs) x → x < get_or xs i 0
below-next xs i x up inside h =
    let p = contains-place (take i xs) x h in
    let before : p.0 < i = omega (arith, p.1, length-take-le i xs (omega (arith, inside))) in
    omega (arith, AllPairs-from_increasing xs up p.0 i 0 before inside, get_or-take i xs p.0 0 before, p.2)

-- so an entry that is kept keeps the list ascending
pub kept-ascending : (P : ℕ → Type 0) (xs : List ℕ) (i : ℕ) (l : List ℕ) → IsStrictlyIncreasing xs → i < length xs → IsKept P (take i xs) l → IsStrictlyIncreasing l → IsStrictlyIncreasing (l ++ get_or xs i 0 ∷ [])
kept-ascending P xs i l up inside kept before = increasing-push l (get_or xs i 0) before (λ x c. below-next xs i x up inside ((kept x).0 c).0)
