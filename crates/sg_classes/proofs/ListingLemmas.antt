-- A set of naturals written out in ascending order, one number after the other.
use Rattle.std.proofs.Common.{◌≡◌, ℕ, ◌+◌, ◌<◌, ◌↔◌, List, [], ◌∷◌, ◌++◌, length, get_or, subst, inl, inr, arith}
use Rattle.std.specs.Prelude.{Contains}
use Rattle.std.specs.List.Sorted.{IsStrictlyIncreasing}
use Rattle.std.proofs.lemmas.Bool.{cases_lt}
use Rattle.std.proofs.lemmas.List.{length_push, get_or_append_left, get_or_push, get_or_default}
use Rattle.std.proofs.lemmas.List.Elements.{Contains-append_left, Contains-push, Contains-push_cases}
use Rattle.sg_defs.specs.Listings.{Lists}

-- the list holds those of the naturals below n that have P
abbrev pub ListsBelow : (ℕ → Type 0) → ℕ → List ℕ → Type 0
ListsBelow P n l = Lists (λ x. (x < n) × P x) l

pub lists-none : (P : ℕ → Type 0) → ListsBelow P 0 []
lists-none P = record {
  ascending = λ k l. absurd (omega arith);
  exactly = λ x. ((λ h. absurd (omega (arith, h.1))), (λ h. absurd (omega (arith, h.0))));
}

pub lists-skip : (P : ℕ → Type 0) (n : ℕ) (l : List ℕ) → (P n → ⊥) → ListsBelow P n l → ListsBelow P (n + 1) l
lists-skip P n l not h = record {
  ascending = h.ascending;
  exactly = λ x. (
    (λ q. let p = (h.exactly x).0 q in (omega (arith, p.0), p.1)),
    (λ p. elim (cases_lt x n) [
      | inl less ↦ (h.exactly x).1 (less, p.1)
      | inr more ↦ let e : x ≡ n = omega (arith, p.0) in absurd (not (subst P e p.1))
    ]),
  );
}

-- one more at the end of an ascending list
pub increasing-push : (l : List ℕ) (n : ℕ) → IsStrictlyIncreasing l → ((x : ℕ) → Contains l x → x < n) → IsStrictlyIncreasing (l ++ n ∷ [])
increasing-push l n up below k inside =
    let len = length_push l n in
    elim (cases_lt (k + 1) (length l)) [
      | inl less ↦ omega (arith, up k less, get_or_append_left l (n ∷ []) 0 k (omega arith), get_or_append_left l (n ∷ []) 0 (k + 1) less)
      | inr more ↦
          let last : length l ≡ k + 1 = omega (arith, len, inside) in
          let before : get_or l k 0 < n = below (get_or l k 0) (k, omega arith, get_or_default l k (get_or l k 0) 0 (omega arith)) in
          omega (arith, before, get_or_append_left l (n ∷ []) 0 k (omega arith), get_or_push l n 0 (k + 1) last)
    ]

pub lists-push : (P : ℕ → Type 0) (n : ℕ) (l : List ℕ) → P n → ListsBelow P n l → ListsBelow P (n + 1) (l ++ n ∷ [])
lists-push P n l here h = record {
  ascending = increasing-push l n h.ascending (λ x q. ((h.exactly x).0 q).0);
  exactly = λ x. (
    (λ q. elim (Contains-push_cases l n x q) [
      | inl before ↦ let p = (h.exactly x).0 before in (omega (arith, p.0), p.1)
      | inr e ↦ (omega (arith, e), subst P e here)
    ]),
    (λ p. elim (cases_lt x n) [
      | inl less ↦ Contains-append_left l (n ∷ []) x ((h.exactly x).1 (less, p.1))
      | inr more ↦ let e : n ≡ x = omega (arith, p.0) in subst (Contains (l ++ n ∷ [])) e (Contains-push l n)
    ]),
  );
}

-- the list of the numbers with P is one of those with Q, where these are the same numbers
pub lists-same : (P Q : ℕ → Type 0) (l : List ℕ) → ((x : ℕ) → P x ↔ Q x) → Lists P l → Lists Q l
lists-same P Q l same h = record {
  ascending = h.ascending;
  exactly = λ x. ((λ q. (same x).0 ((h.exactly x).0 q)), (λ p. (h.exactly x).1 ((same x).1 p)));
}

-- once nothing from n on has P
pub lists-all : (P : ℕ → Type 0) (n : ℕ) (l : List ℕ) → ((x : ℕ) → P x → x < n) → ListsBelow P n l → Lists P l
lists-all P n l below h = lists-same (λ x. (x < n) × P x) P l (λ x. ((λ q. q.1), (λ p. (below x p, p)))) h
