-- The maximal entries, collected class by class, sorted, and lowered by the modulus.
use Rattle.std.proofs.Common.{◌≡◌, ◌≢◌, ℕ, ◌+◌, ◌%◌, ◌<◌, ◌≤◌, List, [], ◌∷◌, ◌++◌, length, get_or, map, sym, ap, subst, ◌∙◌, inl, inr, arith}
use Rattle.std.specs.Prelude.{AllPairs, Contains, ℤ, pos, negsuc, ◌+ℤ◌, ◌-ℤ◌, ◌<ℤ◌}
use Rattle.std.specs.List.Sorted.{IsPermutation, IsSorted}
use Rattle.std.specs.Ordering.{nat_cmp}
use Rattle.std.proofs.Math.Dec.{eqb}
use Rattle.std.proofs.lemmas.Bool.{cases_lt}
use Rattle.std.proofs.lemmas.Bool.Decides.{Decides-eqb, eqb_tells}
use Rattle.std.proofs.lemmas.Int.{ints}
use Rattle.std.proofs.lemmas.Nat.{mod_below}
use Rattle.std.proofs.lemmas.List.{get_or-map, get_or_default, length-map}
use Rattle.std.proofs.lemmas.List.Elements.{Contains-append_left, Contains-push, Contains-push_cases, Contains-get_or}
use Rattle.std.proofs.lemmas.List.Kept.{AllPairs-from_increasing}
use Rattle.std.proofs.lemmas.List.Quantifiers.{all_pairs_push}
use Rattle.std.proofs.lemmas.List.Sorted.{IsNonDecreasingBy-from_sort, Contains-permutation, IsPermutation-sym}
use Rattle.std.proofs.lemmas.Map.Keys.{IsDistinct-IsPermutation, IsStrictlyIncreasing-from_distinct}
use Rattle.std.proofs.lemmas.Map.Made.{IsDistinct-from_AllPairs}
use Rattle.sg_defs.specs.Listings.{Lists, ListsIntegers}
use Rattle.sg_defs.specs.Membership.{IsMember, IsIntegerMember}
use Rattle.sg_defs.specs.Apery.{IsAperyEntry}
use Rattle.sg_defs.specs.Invariants.{IsPseudoFrobenius}
use Rattle.sg_invar.proofs.EntryLemmas.{entry-unique}
use Rattle.sg_invar.proofs.PseudoFrobeniusLemmas.{maximal-entry}
use Rattle.sg_invar.specs.Maximal.{IsMaximalEntry, Collects}
use Rattle.sg_apery.specs.Limits.{APERY_ENTRY_LIMIT}

pub collects-none : (G : List ℕ) (m : ℕ) → Collects G m 0 []
collects-none G m = record {
  apart = λ i j d l k. absurd (omega arith);
  small = λ w h. absurd (omega (arith, h.1));
  exactly = λ w. ((λ h. absurd (omega (arith, h.1))), (λ h. absurd (omega (arith, h.0))));
}

pub collects-skip : (G : List ℕ) (m n w : ℕ) (l : List ℕ) → 0 < m → IsMember G m → IsAperyEntry G m n w → (IsMaximalEntry G m w → ⊥) → Collects G m n l → Collects G m (n + 1) l
collects-skip G m n w l positive modulus e not h = record {
  apart = h.apart;
  small = h.small;
  exactly = λ v. (
    (λ q. let p = (h.exactly v).0 q in (omega (arith, p.0), p.1)),
    (λ p. elim (cases_lt (v % m) n) [
      | inl less ↦ (h.exactly v).1 (less, p.1)
      | inr more ↦
          let at : v % m ≡ n = omega (arith, p.0) in
          let same = entry-unique G m n v w positive modulus (subst (λ i. IsAperyEntry G m i v) at (maximal-entry G m v positive modulus p.1)) e in
          absurd (not (subst (IsMaximalEntry G m) same p.1))
    ]),
  );
}

pub collects-push : (G : List ℕ) (m n w : ℕ) (l : List ℕ) → 0 < m → IsMember G m → IsAperyEntry G m n w → w ≤ APERY_ENTRY_LIMIT → IsMaximalEntry G m w → Collects G m n l → Collects G m (n + 1) (l ++ w ∷ [])
collects-push G m n w l positive modulus e small here h = record {
  apart = all_pairs_push (λ v w. v ≢ w) l w h.apart (λ k d inside. differs (get_or l k d) ((h.exactly (get_or l k d)).0 (listed k d inside)).0);
  small = λ v q. elim (Contains-push_cases l w v q) [ inl before ↦ h.small v before | inr same ↦ omega (arith, same, small) ];
  exactly = λ v. (
    (λ q. elim (Contains-push_cases l w v q) [
      | inl before ↦ let p = (h.exactly v).0 before in (omega (arith, p.0), p.1)
      | inr same ↦ subst (λ v. (v % m < n + 1) × IsMaximalEntry G m v) same (omega (arith, e.residue), here)
    ]),
    (λ p. elim (cases_lt (v % m) n) [
      | inl less ↦ Contains-append_left l (w ∷ []) v ((h.exactly v).1 (less, p.1))
      | inr more ↦
          let at : v % m ≡ n = omega (arith, p.0) in
          let same = entry-unique G m n w v positive modulus e (subst (λ i. IsAperyEntry G m i v) at (maximal-entry G m v positive modulus p.1)) in
          subst (Contains (l ++ w ∷ [])) same (Contains-push l w)
    ]),
  );
}
  where
    listed : (k d : ℕ) → k < length l → Contains l (get_or l k d)
    listed k d inside = (k, inside, get_or_default l k (get_or l k d) d inside)

    differs : (v : ℕ) → v % m < n → v ≢ w
    differs v less same = omega (arith, less, e.residue, ap (λ x. x % m) same)

-- once each class was looked at, in ascending order
pub lists-sorted : (G : List ℕ) (m : ℕ) (l sorted : List ℕ) → 0 < m → Collects G m m l → IsPermutation l sorted → IsSorted nat_cmp sorted → Lists (IsMaximalEntry G m) sorted
lists-sorted G m l sorted positive h moved order = record {
  ascending = IsStrictlyIncreasing-from_distinct sorted (IsNonDecreasingBy-from_sort (λ x. x) sorted order)
      (IsDistinct-IsPermutation eqb eqb-flips l sorted moved (IsDistinct-from_AllPairs Decides-eqb l h.apart));
  exactly = λ w. (
    (λ q. ((h.exactly w).0 (Contains-permutation sorted l w (IsPermutation-sym l sorted moved) q)).1),
    (λ p. Contains-permutation l sorted w moved ((h.exactly w).1 (mod_below w m positive, p))),
  );
}
  where
    eqb-flips : (x y : ℕ) → eqb x y ≡ eqb y x
    eqb-flips x y = elim (eqb_tells x y) [
      | inl same ↦ elim (eqb_tells y x) [ inl back ↦ same.0 ∙ sym back.0 | inr other ↦ absurd (other.1 (sym same.1)) ]
      | inr other ↦ elim (eqb_tells y x) [ inl back ↦ absurd (other.1 (sym back.1)) | inr both ↦ other.0 ∙ sym both.0 ]
    ]

pub small-sorted : (G : List ℕ) (m n : ℕ) (l sorted : List ℕ) → Collects G m n l → IsPermutation l sorted → (k : ℕ) → k < length sorted → get_or sorted k 0 ≤ APERY_ENTRY_LIMIT
small-sorted G m n l sorted h moved k inside =
    h.small (get_or sorted k 0) (Contains-permutation sorted l (get_or sorted k 0) (IsPermutation-sym l sorted moved) (Contains-get_or sorted k 0 inside))

-- less the modulus, these are the pseudo-Frobenius numbers
pub lists-lowered : (G : List ℕ) (m : ℕ) (l : List ℕ) → 0 < m → IsMember G m → Lists (IsMaximalEntry G m) l → ListsIntegers (IsPseudoFrobenius G) (map (λ w. pos w -ℤ pos m) l)
lists-lowered G m l positive modulus h = record { ascending = ascending; exactly = λ x. (to x, from x) }
  where
    order : AllPairs (λ v w. v < w) l
    order = AllPairs-from_increasing l h.ascending

    ascending : AllPairs (λ x y. x <ℤ y) (map (λ w. pos w -ℤ pos m) l)
    ascending i j d less inside =
        let long = length-map l (λ w. pos w -ℤ pos m) in
        let a = get_or-map (λ w. pos w -ℤ pos m) l i 0 d (omega arith) in
        let b = get_or-map (λ w. pos w -ℤ pos m) l j 0 d (omega arith) in
        let o = order i j 0 less (omega arith) in
        let r : (pos (get_or l i 0) -ℤ pos m) <ℤ (pos (get_or l j 0) -ℤ pos m) = omega (arith, ints) in
        rw (a, b) r

    to : (x : ℤ) → Contains (map (λ w. pos w -ℤ pos m) l) x → IsPseudoFrobenius G x
    to x q =
        let long = length-map l (λ w. pos w -ℤ pos m) in
        let inside : q.0 < length l = omega (arith, q.1) in
        let e : pos (get_or l q.0 0) -ℤ pos m ≡ x = sym (get_or-map (λ w. pos w -ℤ pos m) l q.0 0 x inside) ∙ q.2 in
        subst (IsPseudoFrobenius G) e ((h.exactly (get_or l q.0 0)).0 (Contains-get_or l q.0 0 inside))

    from : (x : ℤ) → IsPseudoFrobenius G x → Contains (map (λ w. pos w -ℤ pos m) l) x
    from x p = raised x p (x +ℤ pos m) (omega (arith, ints)) (p.absorbed m positive modulus)
      where
        raised : (x : ℤ) → IsPseudoFrobenius G x → (y : ℤ) → x ≡ y -ℤ pos m → IsIntegerMember G y → Contains (map (λ w. pos w -ℤ pos m) l) x
        raised x p (negsuc a) e q = absurd q
        raised x p (pos w) e q =
            let c = (h.exactly w).1 (subst (IsPseudoFrobenius G) e p) in
            let at = get_or-map (λ w. pos w -ℤ pos m) l c.0 w x c.1 in
            let value : pos (get_or l c.0 w) -ℤ pos m ≡ x = ap (λ v. pos v -ℤ pos m) c.2 ∙ sym e in
            (c.0, omega (arith, length-map l (λ w. pos w -ℤ pos m), c.1), at ∙ value)
