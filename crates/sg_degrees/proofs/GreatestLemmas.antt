-- The greatest of the numbers of some items, item by item.
use Rattle.std.proofs.Common.{◌≡◌, ℕ, suc, ◌+◌, ◌<◌, ◌≤◌, List, [], ◌∷◌, ◌++◌, length, take, get_or, max, refl, sym, subst, inl, inr, arith}
use Rattle.std.specs.Prelude.{Contains}
use Rattle.std.proofs.Math.Seq.{take-suc}
use Rattle.std.proofs.lemmas.Bool.{cases_lt}
use Rattle.std.proofs.lemmas.List.{take_all}
use Rattle.std.proofs.lemmas.List.Elements.{Contains-append_left, Contains-append_right, Contains-append_cases}
use Rattle.sg_defs.proofs.ListLemmas.{contains-cases}
use Rattle.sg_laws_finite.proofs.ElementLemmas.{contains-nil, here}
use Rattle.sg_degrees.specs.Greatest.{IsGreatestOver}

-- the only item of a list
pub one-item : {A : Type 0} (x y : A) → Contains (x ∷ []) y → x ≡ y
one-item x y h = elim (contains-cases x [] y h) [ inl e ↦ e | inr none ↦ absurd (contains-nil y none) ]

-- one item more of the first ones
pub take-next : {A : Type 0} (l : List A) (i : ℕ) (d : A) → i < length l → take (i + 1) l ≡ take i l ++ get_or l i d ∷ []
take-next l i d inside = subst (λ k. take k l ≡ take i l ++ get_or l i d ∷ []) (let e : suc i ≡ i + 1 = omega arith in e) (take-suc l i d inside)

module _ {A : Type 0} (P : A → ℕ → Type 0) where
  -- of no items
  pub over-none : (l : List A) → l ≡ [] → IsGreatestOver P l 0
  over-none l e = subst (λ k. IsGreatestOver P k 0) (sym e) none
    where
      none : IsGreatestOver P [] 0
      none = record { bound = λ x h. absurd (contains-nil x h); reached = inl refl }

  over-more : (l : List A) (x : A) (M N : ℕ) → IsGreatestOver P l N → P x M → IsGreatestOver P (l ++ x ∷ []) (max N M)
  over-more l x M N h p = record {
    bound = λ y c. elim (Contains-append_cases l (x ∷ []) y c) [
      | inl before ↦ let b = h.bound y before in (b.0, b.1, omega (arith, b.2))
      | inr last ↦ (M, subst (λ z. P z M) (one-item x y last) p, omega arith)
    ];
    reached = elim (cases_lt N M) [
      | inl less ↦ inr (x, Contains-append_right l (x ∷ []) x (here x []), subst (P x) (let e : M ≡ max N M = omega (arith, less) in e) p)
      | inr more ↦ elim h.reached [
        | inl none ↦ inl (omega (arith, none, more))
        | inr some ↦ inr (some.0, Contains-append_left l (x ∷ []) some.0 some.1, subst (P some.0) (let e : N ≡ max N M = omega (arith, more) in e) some.2)
      ]
    ];
  }

  -- of one item more of a list
  pub over-next : (l : List A) (i : ℕ) (d : A) (M N : ℕ) → i < length l → IsGreatestOver P (take i l) N → P (get_or l i d) M → IsGreatestOver P (take (i + 1) l) (max N M)
  over-next l i d M N inside h p = subst (λ k. IsGreatestOver P k (max N M)) (sym (take-next l i d inside)) (over-more (take i l) (get_or l i d) M N h p)

  -- of all
  pub over-all : (l : List A) (i N : ℕ) → length l ≤ i → IsGreatestOver P (take i l) N → IsGreatestOver P l N
  over-all l i N far h = subst (λ k. IsGreatestOver P k N) (take_all i l far) h
