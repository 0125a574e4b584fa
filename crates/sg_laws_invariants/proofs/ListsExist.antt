-- A condition that is decided and bounded has an ascending list of the numbers of which it holds.
use Rattle.std.proofs.Common.{◌≡◌, ℕ, zero, suc, ◌+◌, ◌<◌, List, [], ◌++◌, ◌∷◌, length, get_or, map, sym, ap, subst, ◌∙◌, inl, inr, arith}
use Rattle.std.specs.Prelude.{AllPairs, Contains, ℤ, pos, negsuc, ◌+ℤ◌, ◌-ℤ◌, ◌<ℤ◌, ◌≤ℤ◌}
use Rattle.std.proofs.lemmas.Int.{ints}
use Rattle.std.proofs.lemmas.List.{get_or-map, length-map}
use Rattle.std.proofs.lemmas.List.Elements.{Contains-get_or}
use Rattle.std.proofs.lemmas.List.Kept.{AllPairs-from_increasing}
use Rattle.sg_defs.specs.Listings.{Lists, ListsIntegers}
use Rattle.sg_invar.proofs.ListingLemmas.{ListsBelow, lists-none, lists-skip, lists-push, lists-all}
use Rattle.sg_laws_invariants.specs.Decided.{Decided}

below-exists : (P : ℕ → Type 0) → ((n : ℕ) → Decided (P n)) → (b : ℕ) → (l : List ℕ) × ListsBelow P b l
below-exists P decided zero = ([], lists-none P)
below-exists P decided (suc b) =
    let before = below-exists P decided b in
    let e : b + 1 ≡ suc b = omega arith in
    elim (decided b) [
      | inl here ↦ (before.0 ++ b ∷ [], subst (λ n. ListsBelow P n (before.0 ++ b ∷ [])) e (lists-push P b before.0 here before.1))
      | inr not ↦ (before.0, subst (λ n. ListsBelow P n before.0) e (lists-skip P b before.0 not before.1))
    ]

-- a decided set of naturals below a bound is listed
pub list-exists : (P : ℕ → Type 0) → ((n : ℕ) → Decided (P n)) → (b : ℕ) → ((x : ℕ) → P x → x < b) → (l : List ℕ) × Lists P l
list-exists P decided b below = let r = below-exists P decided b in (r.0, lists-all P b r.0 below r.1)

-- of integers from -k on, by the naturals that are more by k
module _ (P : ℤ → Type 0) (k : ℕ) (low : (x : ℤ) → P x → pos 0 ≤ℤ (x +ℤ pos k)) (l : List ℕ) (h : Lists (λ n. P (pos n -ℤ pos k)) l) where
  lowered : List ℤ
  lowered = map (λ n. pos n -ℤ pos k) l

  ascending : AllPairs (λ x y. x <ℤ y) (map (λ n. pos n -ℤ pos k) l)
  ascending i j d less inside =
      let long = length-map l (λ n. pos n -ℤ pos k) in
      let a = get_or-map (λ n. pos n -ℤ pos k) l i 0 d (omega arith) in
      let b = get_or-map (λ n. pos n -ℤ pos k) l j 0 d (omega arith) in
      let o = AllPairs-from_increasing l h.ascending i j 0 less (omega arith) in
      let r : (pos (get_or l i 0) -ℤ pos k) <ℤ (pos (get_or l j 0) -ℤ pos k) = omega (arith, ints) in
      rw (a, b) r

  to : (x : ℤ) → Contains (map (λ n. pos n -ℤ pos k) l) x → P x
  to x q =
      let long = length-map l (λ n. pos n -ℤ pos k) in
      let inside : q.0 < length l = omega (arith, q.1) in
      let e : pos (get_or l q.0 0) -ℤ pos k ≡ x = sym (get_or-map (λ n. pos n -ℤ pos k) l q.0 0 x inside) ∙ q.2 in
      subst P e ((h.exactly (get_or l q.0 0)).0 (Contains-get_or l q.0 0 inside))

  raised : (x y : ℤ) → P x → x ≡ y -ℤ pos k → pos 0 ≤ℤ y → Contains (map (λ n. pos n -ℤ pos k) l) x
  raised x (negsuc a) p e some = absurd (omega (arith, ints, some))
  raised x (pos n) p e some =
      let c = (h.exactly n).1 (subst P e p) in
      let at = get_or-map (λ v. pos v -ℤ pos k) l c.0 n x c.1 in
      let value : pos (get_or l c.0 n) -ℤ pos k ≡ x = ap (λ v. pos v -ℤ pos k) c.2 ∙ sym e in
      (c.0, omega (arith, length-map l (λ v. pos v -ℤ pos k), c.1), at ∙ value)

  lowered-lists : ListsIntegers P (map (λ n. pos n -ℤ pos k) l)
  lowered-lists = record {
    ascending = ascending;
    exactly = λ x. ((to x), (λ p. raised x (x +ℤ pos k) p (let e : x ≡ (x +ℤ pos k) -ℤ pos k = omega (arith, ints) in e) (low x p)));
  }

-- a decided set of integers between two bounds is listed
pub integers-exist : (P : ℤ → Type 0) → ((x : ℤ) → Decided (P x)) → (k b : ℕ) → ((x : ℤ) → P x → pos 0 ≤ℤ (x +ℤ pos k)) → ((x : ℤ) → P x → (x +ℤ pos k) <ℤ pos b) →
    (l : List ℤ) × ListsIntegers P l
integers-exist P decided k b low high =
    let r = list-exists (λ n. P (pos n -ℤ pos k)) (λ n. decided (pos n -ℤ pos k)) b (λ n p. let t = high (pos n -ℤ pos k) p in omega (arith, ints, t)) in
    (map (λ n. pos n -ℤ pos k) r.0, lowered-lists P k low r.0 r.1)
