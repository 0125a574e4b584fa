-- The integers of an ascending list that have a property, picked one after the other.
use Rattle.std.proofs.Common.{◌≡◌, ℕ, ◌+◌, ◌<◌, ◌↔◌, List, [], ◌∷◌, ◌++◌, length, get_or, sym, ap, subst, ◌∙◌, inl, inr, arith}
use Rattle.std.specs.Prelude.{AllPairs, Contains, ℤ, pos, ◌<ℤ◌}
use Rattle.std.proofs.lemmas.Bool.{cases_lt}
use Rattle.std.proofs.lemmas.List.{get_or_default}
use Rattle.std.proofs.lemmas.List.Elements.{Contains-append_left, Contains-push, Contains-push_cases}
use Rattle.std.proofs.lemmas.List.Quantifiers.{all_pairs_push}
use Rattle.sg_defs.specs.Listings.{ListsIntegers}

-- x is one of the first n
abbrev pub IsInFront : List ℤ → ℕ → ℤ → Type 0
IsInFront xs n x = (k : ℕ) × (k < n) × (get_or xs k (pos 0) ≡ x)

-- the list holds those of the first n integers that have P
abbrev pub SelectsFront : (ℤ → Type 0) → List ℤ → ℕ → List ℤ → Type 0
SelectsFront P xs n l = ListsIntegers (λ x. IsInFront xs n x × P x) l

pub selects-none : (P : ℤ → Type 0) (xs : List ℤ) → SelectsFront P xs 0 []
selects-none P xs = record {
  ascending = λ i j d l k. absurd (omega arith);
  exactly = λ x. ((λ h. absurd (omega (arith, h.1))), (λ h. absurd (omega (arith, h.0.1))));
}

pub selects-skip : (P : ℤ → Type 0) (xs : List ℤ) (n : ℕ) (l : List ℤ) → (P (get_or xs n (pos 0)) → ⊥) → SelectsFront P xs n l → SelectsFront P xs (n + 1) l
selects-skip P xs n l not h = record {
  ascending = h.ascending;
  exactly = λ x. (
    (λ q. let p = (h.exactly x).0 q in ((p.0.0, omega (arith, p.0.1), p.0.2), p.1)),
    (λ p. elim (cases_lt p.0.0 n) [
      | inl less ↦ (h.exactly x).1 ((p.0.0, less, p.0.2), p.1)
      | inr more ↦
          let at : p.0.0 ≡ n = omega (arith, p.0.1) in
          absurd (not (subst P (sym p.0.2 ∙ ap (λ k. get_or xs k (pos 0)) at) p.1))
    ]),
  );
}

pub selects-push : (P : ℤ → Type 0) (xs : List ℤ) (n : ℕ) (l : List ℤ) → AllPairs (λ x y. x <ℤ y) xs → n < length xs → P (get_or xs n (pos 0)) →
    SelectsFront P xs n l → SelectsFront P xs (n + 1) (l ++ get_or xs n (pos 0) ∷ [])
selects-push P xs n l up inside here h = record {
  ascending = all_pairs_push (λ x y. x <ℤ y) l (get_or xs n (pos 0)) h.ascending (λ k d k_in. below (get_or l k d) (k, k_in, get_or_default l k (get_or l k d) d k_in));
  exactly = λ x. (
    (λ q. elim (Contains-push_cases l (get_or xs n (pos 0)) x q) [
      | inl before ↦ let p = (h.exactly x).0 before in ((p.0.0, omega (arith, p.0.1), p.0.2), p.1)
      | inr same ↦ ((n, omega arith, same), subst P same here)
    ]),
    (λ p. elim (cases_lt p.0.0 n) [
      | inl less ↦ Contains-append_left l (get_or xs n (pos 0) ∷ []) x ((h.exactly x).1 ((p.0.0, less, p.0.2), p.1))
      | inr more ↦
          let at : n ≡ p.0.0 = omega (arith, p.0.1) in
          subst (Contains (l ++ get_or xs n (pos 0) ∷ [])) (ap (λ k. get_or xs k (pos 0)) at ∙ p.0.2) (Contains-push l (get_or xs n (pos 0)))
    ]),
  );
}
  where
    below : (x : ℤ) → Contains l x → x <ℤ get_or xs n (pos 0)
    below x q =
        let p = ((h.exactly x).0 q).0 in
        subst (λ y. y <ℤ get_or xs n (pos 0)) p.2 (up p.0 n (pos 0) p.1 inside)

-- what is listed is one of the first as many as there are, and the other way round
pub front-all : (xs : List ℤ) (x : ℤ) → IsInFront xs (length xs) x ↔ Contains xs x
front-all xs x = (
  (λ p. (p.0, p.1, get_or_default xs p.0 x (pos 0) p.1 ∙ p.2)),
  (λ q. (q.0, q.1, get_or_default xs q.0 (pos 0) x q.1 ∙ q.2)),
)

-- once all were looked at
pub selects-all : (P Q R : ℤ → Type 0) (xs : List ℤ) (n : ℕ) (l : List ℤ) → n ≡ length xs → ListsIntegers Q xs → ((x : ℤ) → (Q x × P x) ↔ R x) →
    SelectsFront P xs n l → ListsIntegers R l
selects-all P Q R xs n l all listed same h = record {
  ascending = h.ascending;
  exactly = λ x. (
    (λ q.
        let p = (h.exactly x).0 q in
        (same x).0 ((listed.exactly x).0 ((front-all xs x).0 (subst (λ k. IsInFront xs k x) all p.0)), p.1)),
    (λ r.
        let p = (same x).1 r in
        (h.exactly x).1 (subst (λ k. IsInFront xs k x) (sym all) ((front-all xs x).1 ((listed.exactly x).1 p.0)), p.1)),
  );
}
