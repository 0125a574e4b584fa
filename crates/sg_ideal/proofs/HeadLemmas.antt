-- The heads of a set: one in a class at most, collected class by class, then sorted.
use Rattle.std.proofs.Common.{◌≡◌, ◌≢◌, ℕ, zero, suc, ◌+◌, ◌-◌, ◌*◌, ◌%◌, ◌<◌, ◌≤◌, List, [], ◌∷◌, ◌++◌, length, get_or, sym, ap, subst, ◌∙◌, inl, inr, arith}
use Rattle.std.specs.Prelude.{Contains}
use Rattle.std.specs.List.Sorted.{IsPermutation, IsSorted, IsStrictlyIncreasing}
use Rattle.std.specs.Ordering.{nat_cmp}
use Rattle.std.proofs.Math.Dec.{eqb}
use Rattle.std.proofs.Math.Nat.{add-mod_right}
use Rattle.std.proofs.lemmas.Bool.{cases_lt, cases_eq}
use Rattle.std.proofs.lemmas.Bool.Decides.{Decides-eqb, eqb_tells}
use Rattle.std.proofs.lemmas.Nat.{mod_below}
use Rattle.std.proofs.lemmas.List.{get_or_default}
use Rattle.std.proofs.lemmas.List.Elements.{Contains-append_left, Contains-push, Contains-push_cases, Contains-get_or}
use Rattle.std.proofs.lemmas.List.Kept.{AllPairs-from_increasing}
use Rattle.std.proofs.lemmas.List.Quantifiers.{all_pairs_push}
use Rattle.std.proofs.lemmas.List.Sorted.{IsNonDecreasingBy-from_sort, Contains-permutation, IsPermutation-sym}
use Rattle.std.proofs.lemmas.Map.Keys.{IsDistinct-IsPermutation, IsStrictlyIncreasing-from_distinct}
use Rattle.std.proofs.lemmas.Map.Made.{IsDistinct-from_AllPairs}
use Rattle.sg_defs.specs.Listings.{Lists}
use Rattle.sg_classes.specs.declared.limits.TheConstants.{APERY_ENTRY_LIMIT}
use Rattle.sg_classes.specs.Classes.{IsAboveEntry}
use Rattle.sg_classes.proofs.AperyLemmas.{congruent-split}
use Rattle.sg_classes.proofs.GeneratorLemmas.{contains-place}
use Rattle.sg_ideal.specs.Classes.{IsIdealTable}
use Rattle.sg_ideal.specs.Heads.{IsFree, IsHead, CollectsHeads}

-- the numbers from a place on of an ascending list are past w, where that one is
pub past-from : (G : List ℕ) (w i : ℕ) → IsStrictlyIncreasing G → i < length G → w < get_or G i 0 → (k : ℕ) → i ≤ k → k < length G → w < get_or G k 0
past-from G w i up inside here k l m = elim (cases_eq i k) [
  | inl e ↦ subst (λ j. w < get_or G j 0) e here
  | inr other ↦ omega (arith, here, AllPairs-from_increasing G up i k 0 (omega arith) m)
]

-- w is free where no generator before place i leads to it and the others are past it
pub free-from_front : (G t : List ℕ) (w i : ℕ) → ((k : ℕ) → k < i → get_or G k 0 ≤ w → IsAboveEntry t (w - get_or G k 0) → ⊥) →
    ((k : ℕ) → i ≤ k → k < length G → w < get_or G k 0) → IsFree G t w
free-from_front G t w i before after g listed l a =
    let p = contains-place G g listed in
    elim (cases_lt p.0 i) [
      | inl less ↦ before p.0 less (omega (arith, p.2)) (subst (λ x. IsAboveEntry t (w - x)) (sym p.2) a)
      | inr more ↦ omega (arith, after p.0 more p.1, p.2)
    ]

-- a generator at a place leads to w
pub free-none : (G t : List ℕ) (w i : ℕ) → i < length G → get_or G i 0 ≤ w → IsAboveEntry t (w - get_or G i 0) → IsFree G t w → ⊥
free-none G t w i inside l a free = free (get_or G i 0) (Contains-get_or G i 0 inside) l a

module _ (G t : List ℕ) (h : IsIdealTable G t) (modulus : Contains G (length t)) where
  -- a head is the entry of its class
  pub head-entry : (w : ℕ) → IsHead G t w → get_or t (w % length t) 0 ≡ w
  head-entry w p =
      let r = w % length t in
      let s = congruent-split (length t) (get_or t r 0) w h.classes.not_empty (h.classes.residue r (mod_below w (length t) h.classes.not_empty)) p.0 in
      step s.0 s.1
    where
      step : (k : ℕ) → w ≡ get_or t (w % length t) 0 + k * length t → get_or t (w % length t) 0 ≡ w
      step zero e = omega arith
      step (suc k) e =
          let long : length t ≤ w = omega arith in
          let back : (w - length t) + length t ≡ w = omega arith in
          let same : (w - length t) % length t ≡ w % length t = sym (add-mod_right (w - length t) (length t)) ∙ ap (λ x. x % length t) back in
          let low : get_or t (w % length t) 0 ≤ w - length t = omega arith in
          absurd (p.1 (length t) modulus long (subst (λ r. get_or t r 0 ≤ w - length t) (sym same) low))

  entry-above : (n : ℕ) → n < length t → IsAboveEntry t (get_or t n 0)
  entry-above n l = let e = ap (λ r. get_or t r 0) (h.classes.residue n l) in omega (arith, e)

  -- an entry that is not free is no minimal generator
  pub collects-skip : (n : ℕ) (l : List ℕ) → n < length t → (IsFree G t (get_or t n 0) → ⊥) → CollectsHeads G t n l → CollectsHeads G t (n + 1) l
  collects-skip n l inside not c = record {
    apart = c.apart;
    exactly = λ v. (
      (λ q. let p = (c.exactly v).0 q in (omega (arith, p.0), p.1)),
      (λ p. elim (cases_lt (v % length t) n) [
        | inl less ↦ (c.exactly v).1 (less, p.1)
        | inr more ↦
            let at : v % length t ≡ n = omega (arith, p.0) in
            let same : v ≡ get_or t n 0 = sym (head-entry v p.1) ∙ ap (λ r. get_or t r 0) at in
            absurd (not (subst (IsFree G t) same p.1.1))
      ]),
    );
  }

  -- a free one is one more
  pub collects-push : (n : ℕ) (l : List ℕ) → n < length t → IsFree G t (get_or t n 0) → CollectsHeads G t n l → CollectsHeads G t (n + 1) (l ++ get_or t n 0 ∷ [])
  collects-push n l inside free c = record {
    apart = all_pairs_push (λ v w. v ≢ w) l (get_or t n 0) c.apart (λ k d k_in. differs (get_or l k d) ((c.exactly (get_or l k d)).0 (listed k d k_in)).0);
    exactly = λ v. (
      (λ q. elim (Contains-push_cases l (get_or t n 0) v q) [
        | inl before ↦ let p = (c.exactly v).0 before in (omega (arith, p.0), p.1)
        | inr same ↦ subst (λ v. (v % length t < n + 1) × IsHead G t v) same (omega (arith, h.classes.residue n inside), (entry-above n inside, free))
      ]),
      (λ p. elim (cases_lt (v % length t) n) [
        | inl less ↦ Contains-append_left l (get_or t n 0 ∷ []) v ((c.exactly v).1 (less, p.1))
        | inr more ↦
            let at : n ≡ v % length t = omega (arith, p.0) in
            let same : get_or t n 0 ≡ v = ap (λ r. get_or t r 0) at ∙ head-entry v p.1 in
            subst (Contains (l ++ get_or t n 0 ∷ [])) same (Contains-push l (get_or t n 0))
      ]),
    );
  }
    where
      listed : (k d : ℕ) → k < length l → Contains l (get_or l k d)
      listed k d k_in = (k, k_in, get_or_default l k (get_or l k d) d k_in)

      differs : (v : ℕ) → v % length t < n → v ≢ get_or t n 0
      differs v less same = omega (arith, less, h.classes.residue n inside, ap (λ x. x % length t) same)

pub collects-none : (G t : List ℕ) → CollectsHeads G t 0 []
collects-none G t = record {
  apart = λ i j d l k. absurd (omega arith);
  exactly = λ w. ((λ h. absurd (omega (arith, h.1))), (λ h. absurd (omega (arith, h.0))));
}

-- once each class was looked at, in ascending order
pub heads-sorted : (G t l sorted : List ℕ) → 0 < length t → CollectsHeads G t (length t) l → IsPermutation l sorted → IsSorted nat_cmp sorted → Lists (IsHead G t) sorted
heads-sorted G t l sorted positive h moved order = record {
  ascending = IsStrictlyIncreasing-from_distinct sorted (IsNonDecreasingBy-from_sort (λ x. x) sorted order)
      (IsDistinct-IsPermutation eqb eqb-flips l sorted moved (IsDistinct-from_AllPairs Decides-eqb l h.apart));
  exactly = λ w. (
    (λ q. ((h.exactly w).0 (Contains-permutation sorted l w (IsPermutation-sym l sorted moved) q)).1),
    (λ p. Contains-permutation l sorted w moved ((h.exactly w).1 (mod_below w (length t) positive, p))),
  );
}
  where
    eqb-flips : (x y : ℕ) → eqb x y ≡ eqb y x
    eqb-flips x y = elim (eqb_tells x y) [
      | inl same ↦ elim (eqb_tells y x) [ inl back ↦ same.0 ∙ sym back.0 | inr other ↦ absurd (other.1 (sym same.1)) ]
      | inr other ↦ elim (eqb_tells y x) [ inl back ↦ absurd (other.1 (sym back.1)) | inr both ↦ other.0 ∙ sym both.0 ]
    ]

-- each is an entry
pub heads-small : (G t : List ℕ) → IsIdealTable G t → (l : List ℕ) → Lists (IsHead G t) l → (k : ℕ) → k < length l → get_or l k 0 ≤ APERY_ENTRY_LIMIT
heads-small G t h l listed k inside =
    let w = get_or l k 0 in
    let modulus = subst (Contains G) (sym h.multiplicity) (Contains-get_or G 0 0 h.ambient.semigroup.not_empty) in
    let e = head-entry G t h modulus w ((listed.exactly w).0 (Contains-get_or l k 0 inside)) in
    let s = h.classes.small (w % length t) (mod_below w (length t) h.classes.not_empty) in
    omega (arith, e, s)
