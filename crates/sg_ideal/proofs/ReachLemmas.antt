-- A set and its sums with a distance that is added again and again.
use Rattle.std.proofs.Common.{◌≡◌, ℕ, zero, suc, ◌+◌, ◌-◌, ◌*◌, ◌<◌, ◌≤◌, ◌↔◌, List, length, get_or, refl, sym, ap, subst, ◌∙◌, inl, inr, true, rules, arith}
use lib.Pointwise.{pointwise}
use lib.Dec.{eqb}
use Rattle.std.specs.Prelude.{◌⊎◌}
use Rattle.std.proofs.lemmas.Bool.{cases_lt}
use Rattle.std.proofs.Math.Nat.{add-mul-mod_self_left}
use Rattle.sg_classes.specs.Classes.{IsAboveEntry}
use Rattle.sg_ideal.specs.Classes.{AreClasses, IsIdealTable, IsReach}
use Rattle.sg_ideal.proofs.GenerateLemmas.{above-zero}
use Rattle.sg_ideal.proofs.TableLemmas.{zero-entry}

-- lists that compare as equal are equal
pub same-slices : (x y : List ℕ) → true ≡ pointwise eqb x y → x ≡ y
same-slices x y e = search rules

-- the distance is added no times
pub reach-none : (t : List ℕ) (b : ℕ) (list : List ℕ) → AreClasses t → list ≡ t → IsReach t b 0 list
reach-none t b list c e = subst (IsReach t b 0) (sym e) (record {
  long = refl;
  classes = c;
  same = λ n. (
    (λ a. let f : n ≡ n - 0 * b = omega arith in (0, omega arith, omega arith, subst (IsAboveEntry t) f a)),
    (λ p. let l = p.1 in let z : p.0 ≡ 0 = omega arith in let f = ap (λ i. i * b) z in let g : n - p.0 * b ≡ n = omega (arith, f) in subst (IsAboveEntry t) g p.3),
  );
})

module _ (t : List ℕ) (b k more : ℕ) (list now : List ℕ) (q : ℕ) (e : q ≡ b * more) (near : more ≤ k + 1) (long : length now ≡ length list) (classes : AreClasses now)
    (same : (n : ℕ) → IsAboveEntry now n ↔ (IsAboveEntry list n ⊎ ((q ≤ n) × IsAboveEntry list (n - q)))) (h : IsReach t b k list) where
  split : (i : ℕ) → (i + more) * b ≡ i * b + q
  split i = omega (arith, e)

  to : (n : ℕ) → IsAboveEntry now n → (i : ℕ) × (i ≤ k + more) × (i * b ≤ n) × IsAboveEntry t (n - i * b)
  to n a = elim ((same n).0 a) [
    | inl before ↦ let p = (h.same n).0 before in let l = p.1 in (p.0, omega arith, p.2, p.3)
    | inr m ↦
        let p = (h.same (n - q)).0 m.1 in
        let l = p.1 in
        let s = split p.0 in
        let f : (n - q) - p.0 * b ≡ n - (p.0 + more) * b = omega (arith, s) in
        (p.0 + more, omega arith, omega (arith, s, p.2, m.0), subst (IsAboveEntry t) f p.3)
  ]

  from : (n : ℕ) → (i : ℕ) × (i ≤ k + more) × (i * b ≤ n) × IsAboveEntry t (n - i * b) → IsAboveEntry now n
  from n p = elim (cases_lt k p.0) [
    | inr low ↦ (same n).1 (inl ((h.same n).1 (p.0, low, p.2, p.3)))
    | inl high ↦
        let l = p.1 in
        let back : p.0 ≡ (p.0 - more) + more = omega (arith, near) in
        let s = ap (λ i. i * b) back ∙ split (p.0 - more) in
        let f : n - p.0 * b ≡ (n - q) - (p.0 - more) * b = omega (arith, s) in
        (same n).1 (inr (omega (arith, s, p.2), (h.same (n - q)).1 (p.0 - more, omega arith, omega (arith, s, p.2), subst (IsAboveEntry t) f p.3)))
  ]

  -- the distance is added more often
  pub reach-more : IsReach t b (k + more) now
  reach-more = record {
    long = long ∙ h.long;
    classes = classes;
    same = λ n. (to n, from n);
  }

-- what adds nothing once adds nothing any more
module _ (t : List ℕ) (b k more : ℕ) (list : List ℕ) (some : 0 < more) (r : IsReach t b k list) (s : IsReach t b (k + more) list) where
  once : (n : ℕ) → IsAboveEntry list n → IsAboveEntry list (n + b)
  once n a =
      let p = (r.same n).0 a in
      let l = p.1 in
      let m = p.2 in
      let e : (p.0 + 1) * b ≡ p.0 * b + b = omega arith in
      let f : n - p.0 * b ≡ (n + b) - (p.0 + 1) * b = omega (arith, e, m) in
      (s.same (n + b)).1 (p.0 + 1, omega (arith, l, some), omega (arith, e, m), subst (IsAboveEntry t) f p.3)

  often : (i n : ℕ) → IsAboveEntry t n → IsAboveEntry list (n + i * b)
  often zero n a =
      let f : n ≡ n - 0 * b = omega arith in
      let g : n ≡ n + 0 * b = omega arith in
      subst (IsAboveEntry list) g ((r.same n).1 (0, omega arith, omega arith, subst (IsAboveEntry t) f a))
  often (suc i) n a =
      let f : (n + i * b) + b ≡ n + suc i * b = omega arith in
      subst (IsAboveEntry list) f (once (n + i * b) (often i n a))

  -- then the set stays the same
  pub reach-stays : (count : ℕ) → k ≤ count → IsReach t b count list
  reach-stays count l = record {
    long = r.long;
    classes = r.classes;
    same = λ n. (
      (λ a. let p = (r.same n).0 a in let m = p.1 in (p.0, omega (arith, l, m), p.2, p.3)),
      (λ p. let m = p.2 in let f : (n - p.0 * b) + p.0 * b ≡ n = omega (arith, m) in subst (IsAboveEntry list) f (often p.0 (n - p.0 * b) p.3)),
    );
  }

-- a number and a multiple of the modulus
pub above-more : (t : List ℕ) (n k : ℕ) → IsAboveEntry t n → IsAboveEntry t (n + length t * k)
above-more t n k a =
    let e = ap (λ r. get_or t r 0) (add-mul-mod_self_left n (length t) k) in
    omega (arith, e, a)

module _ (t : List ℕ) (b c : ℕ) (list : List ℕ) (r : IsReach t b c list) where
  -- the set has what it had
  pub reach-low : (n : ℕ) → IsAboveEntry t n → IsAboveEntry list n
  reach-low n a = let f : n ≡ n - 0 * b = omega arith in (r.same n).1 (0, omega arith, omega arith, subst (IsAboveEntry t) f a)

  -- what moves the set into itself does so afterwards
  pub reach-keeps : (d : ℕ) → ((n : ℕ) → IsAboveEntry t n → IsAboveEntry t (n + d)) → (n : ℕ) → IsAboveEntry list n → IsAboveEntry list (n + d)
  reach-keeps d move n a =
      let p = (r.same n).0 a in
      let l = p.2 in
      let f : (n - p.0 * b) + d ≡ (n + d) - p.0 * b = omega (arith, l) in
      (r.same (n + d)).1 (p.0, p.1, omega (arith, l), subst (IsAboveEntry t) f (move (n - p.0 * b) p.3))

  -- as often as the modulus says is as good as any number of times
  pub reach-closed : c ≡ length t → 0 < length t → (n : ℕ) → IsAboveEntry list n → IsAboveEntry list (n + b)
  reach-closed often positive n a =
      let p = (r.same n).0 a in
      let l = p.2 in
      elim (cases_lt p.0 c) [
        | inl less ↦
            let s : (p.0 + 1) * b ≡ p.0 * b + b = omega arith in
            let f : n - p.0 * b ≡ (n + b) - (p.0 + 1) * b = omega (arith, s, l) in
            (r.same (n + b)).1 (p.0 + 1, omega arith, omega (arith, s, l), subst (IsAboveEntry t) f p.3)
        | inr most ↦
            let at = p.1 in
            let e : p.0 ≡ length t = omega (arith, often, at, most) in
            let s = ap (λ i. i * b) e in
            let f : (n - p.0 * b) + length t * b ≡ (n + b) - 1 * b = omega (arith, s, l) in
            (r.same (n + b)).1 (1, omega (arith, often, positive), omega arith, subst (IsAboveEntry t) f (above-more t (n - p.0 * b) b p.3))
      ]

  -- it is still the table of an ideal
  pub reach-table : (G : List ℕ) → IsIdealTable G t → IsIdealTable G list
  reach-table G h = record {
    ambient = h.ambient;
    classes = r.classes;
    multiplicity = r.long ∙ h.multiplicity;
    zero = zero-entry list r.classes.not_empty (reach-low 0 (above-zero G t h));
    closed = λ n g listed a. reach-keeps g (λ n a. h.closed n g listed a) n a;
  }
