-- The values of the first relations of a list.
use Rattle.std.proofs.Common.{◌≡◌, ℕ, ◌+◌, ◌<◌, ◌≤◌, List, [], ◌∷◌, ◌++◌, length, get_or, sym, ap, subst, ◌∙◌, inl, inr, arith}
use Rattle.std.specs.Prelude.{◌↔◌, Contains}
use Rattle.std.proofs.lemmas.Bool.{cases_lt}
use Rattle.std.proofs.lemmas.List.{get_or_default}
use Rattle.std.proofs.lemmas.List.Elements.{Contains-append_left, Contains-push, Contains-push_cases}
use Rattle.sg_nonunique.specs.Presentations.{Relation}
use Rattle.sg_laws_finite.proofs.ElementLemmas.{contains-nil}
use Rattle.sg_degrees.specs.Values.{IsValueOf}

-- n is the value of one of the first i relations
abbrev pub IsValueBelow : List (Relation ℕ) → ℕ → ℕ → Type 0
IsValueBelow P i n = (r : Relation ℕ) × (k : ℕ) × (k < i) × (k < length P) × (get_or P k r ≡ r) × (r.value ≡ n)

pub values-none : (P : List (Relation ℕ)) (l : List ℕ) → l ≡ [] → (n : ℕ) → Contains l n ↔ IsValueBelow P 0 n
values-none P l e n = ((λ h. absurd (contains-nil n (subst (λ k. Contains k n) e h))), (λ v. absurd (omega (arith, v.2))))

pub values-more : (P : List (Relation ℕ)) (i : ℕ) (r : Relation ℕ) (l now : List ℕ) → i < length P → get_or P i r ≡ r → ((n : ℕ) → Contains l n ↔ IsValueBelow P i n) → now ≡ l ++ r.value ∷ [] →
    (n : ℕ) → Contains now n ↔ IsValueBelow P (i + 1) n
values-more P i r l now inside read before e n = (there, back)
  where
    there : Contains now n → IsValueBelow P (i + 1) n
    there h = elim (Contains-push_cases l r.value n (subst (λ k. Contains k n) e h)) [
      | inl old ↦ let v = (before n).0 old in (v.0, v.1, omega (arith, v.2), v.3, v.4, v.5)
      | inr last ↦ (r, i, omega arith, inside, read, last)
    ]

    back : IsValueBelow P (i + 1) n → Contains now n
    back v = elim (cases_lt v.1 i) [
      | inl less ↦ subst (λ k. Contains k n) (sym e) (Contains-append_left l (r.value ∷ []) n ((before n).1 (v.0, v.1, less, v.3, v.4, v.5)))
      | inr more ↦
          let at : v.1 ≡ i = omega (arith, v.2, more) in
          let same : v.0 ≡ r = sym v.4 ∙ ap (λ k. get_or P k v.0) at ∙ get_or_default P i v.0 r inside ∙ read in
          let value : r.value ≡ n = sym (ap (λ (s : Relation ℕ). s.value) same) ∙ v.5 in
          subst (λ k. Contains k n) (sym e) (subst (Contains (l ++ r.value ∷ [])) value (Contains-push l r.value))
    ]

pub values-all : (P : List (Relation ℕ)) (i n : ℕ) → length P ≤ i → IsValueBelow P i n ↔ IsValueOf P n
values-all P i n far = ((λ v. (v.0, (v.1, v.3, v.4), v.5)), (λ v. (v.0, v.1.0, omega (arith, v.1.1, far), v.1.1, v.1.2, v.2)))
