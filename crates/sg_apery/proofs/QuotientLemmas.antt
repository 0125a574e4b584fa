-- The least number of a residue class whose product with d is above its entry.
use Rattle.std.proofs.Common.{◌≡◌, ℕ, suc, ◌+◌, ◌-◌, ◌*◌, ◌/◌, ◌%◌, ◌<◌, ◌≤◌, ◌↔◌, List, length, get_or, min, refl, sym, ap, subst, ◌∙◌, inl, inr, arith}
use Rattle.std.proofs.lemmas.Bool.{cases_lt}
use Rattle.std.proofs.lemmas.Grind.{div_ceil_times}
use Rattle.std.proofs.lemmas.Nat.{mul-mod, mod_below}
use Rattle.std.proofs.Math.Nat.{mod-le, mod-eq_of_lt, mod-add-div, mul-le-mul_left, add-mul-mod_self_right}
use Rattle.sg_defs.specs.Membership.{IsMember, IsNumericalSemigroup}
use Rattle.sg_defs.specs.Apery.{IsApery}
use Rattle.sg_defs.proofs.MembershipLemmas.{member-add}
use Rattle.sg_classes.specs.Classes.{IsAboveEntry, IsClassList, IsKunz}
use Rattle.sg_classes.proofs.KunzLemmas.{kunz-from_closed}
use Rattle.sg_classes.proofs.TableLemmas.{table-member}
use Rattle.sg_apery.specs.Conditions.{IsInQuotient}

-- a / d, rounded up
abbrev ceil : ℕ → ℕ → ℕ
ceil a d = a / d + min 1 (a % d)

-- the quotient rounded up is at most x exactly where a is at most the product
ceil-bound : (a d x : ℕ) → 0 < d → (ceil a d ≤ x) ↔ (a ≤ d * x)
ceil-bound a d x l =
    let t = div_ceil_times a d l in (
      (λ h. let p : d * ceil a d ≤ d * x = mul-le-mul_left d h in omega (arith, t.0, p)),
      (λ h. elim (cases_lt x (ceil a d)) [
        | inl less ↦
            let more : suc x ≤ ceil a d = omega arith in
            let p : d * suc x ≤ d * ceil a d = mul-le-mul_left d more in
            absurd (omega (arith, t.1, p, h))
        | inr more ↦ more
      ]),
    )

-- the class of the product
product-class : (d x n i : ℕ) → x % n ≡ i → (d * x) % n ≡ ((d % n) * i) % n
product-class d x n i e = mul-mod d x n ∙ ap (λ y. (d % n * y) % n) e

module _ (t : List ℕ) (d i least : ℕ) (inside : i < length t) (positive : 0 < d) (is : least ≡ ceil (get_or t (((d % length t) * i) % length t) 0) d) where
  -- a number of the class is at least the least quotient exactly where its product is above its entry
  pub least-above : (x : ℕ) → x % length t ≡ i → (least ≤ x) ↔ IsAboveEntry t (d * x)
  least-above x e =
      let same = ap (λ j. get_or t j 0) (product-class d x (length t) i e) in
      let both = ceil-bound (get_or t (((d % length t) * i) % length t) 0) d x positive in
      ((λ h. omega (arith, same, both.0 (omega (arith, is, h)))), (λ h. omega (arith, is, both.1 (omega (arith, same, h)))))

  pub low-above : least ≤ i → (x : ℕ) → x % length t ≡ i → (i ≤ x) ↔ IsAboveEntry t (d * x)
  low-above low x e =
      let both = least-above x e in
      ((λ h. both.0 (omega arith)), (λ h. omega (arith, mod-le x (length t), e)))

  pub high-residue : (k : ℕ) → (i + k * length t) % length t ≡ i
  high-residue k = add-mul-mod_self_right i k (length t) ∙ mod-eq_of_lt inside

  pub high-above : (k : ℕ) → i < least → k ≡ ceil (least - i) (length t) → (x : ℕ) → x % length t ≡ i → (i + k * length t ≤ x) ↔ IsAboveEntry t (d * x)
  high-above k high is_k x e =
      let n = length t in
      let both = least-above x e in
      let s = div_ceil_times (least - i) n (omega arith) in
      let low : least ≤ i + k * n = omega (arith, s.0, ap (λ y. y * n) is_k) in
      let split : i + n * (x / n) ≡ x = ap (λ r. r + n * (x / n)) (sym e) ∙ mod-add-div x n in (
        (λ h. both.0 (omega arith)),
        (λ h.
            let above : least ≤ x = both.1 h in
            let turns : ceil (least - i) n ≤ x / n = (ceil-bound (least - i) n (x / n) (omega arith)).1 (omega (arith, split)) in
            let p : n * k ≤ n * (x / n) = mul-le-mul_left n (let q : k ≤ x / n = omega (arith, is_k, turns) in q) in
            omega (arith, split, p)),
      )

-- the entries of the quotient
pub quotient-classes : (t list : List ℕ) (d : ℕ) → 0 < length t → get_or t 0 0 ≡ 0 → length list ≡ length t →
    ((i : ℕ) → i < length t → get_or list i 0 % length t ≡ i) →
    ((i x : ℕ) → i < length t → x % length t ≡ i → (get_or list i 0 ≤ x) ↔ IsAboveEntry t (d * x)) → IsClassList list
quotient-classes t list d long none same residue above = record {
  not_empty = omega arith;
  zero =
      let r : 0 % length t ≡ 0 = omega arith in
      let p : d * 0 ≡ 0 = omega arith in
      let q : IsAboveEntry t 0 = omega (arith, ap (λ j. get_or t j 0) r, none) in
      let low : get_or list 0 0 ≤ 0 = (above 0 0 long r).1 (subst (IsAboveEntry t) (sym p) q) in
      omega arith;
  residue = λ i l. ap (λ n. get_or list i 0 % n) same ∙ residue i (omega arith);
}

pub quotient-same : (t list : List ℕ) (d : ℕ) → 0 < length t → length list ≡ length t →
    ((i x : ℕ) → i < length t → x % length t ≡ i → (get_or list i 0 ≤ x) ↔ IsAboveEntry t (d * x)) → (n : ℕ) → IsAboveEntry t (d * n) ↔ IsAboveEntry list n
quotient-same t list d long same above n =
    let both = above (n % length t) n (mod_below n (length t) long) refl in
    let e = ap (λ m. get_or list (n % m) 0) same in
    ((λ h. omega (arith, e, both.1 h)), (λ h. both.0 (omega (arith, e, h))))

module _ (A t list : List ℕ) (d : ℕ) (s : IsNumericalSemigroup A) (long : length t ≡ get_or A 0 0) (h : IsApery A (get_or A 0 0) t)
    (c : IsClassList list) (same : (n : ℕ) → IsAboveEntry t (d * n) ↔ IsAboveEntry list n) where
  pub quotient-member : (n : ℕ) → IsInQuotient A d n ↔ IsAboveEntry list n
  quotient-member n =
      let a = table-member A t s long h (d * n) in
      ((λ p. (same n).0 (a.0 p)), (λ q. a.1 ((same n).1 q)))

  pub quotient-kunz : IsKunz list
  quotient-kunz = kunz-from_closed (IsInQuotient A d) list c quotient-member
      (λ x y p q. let e : d * x + d * y ≡ d * (x + y) = omega arith in subst (IsMember A) e (member-add A (d * x) (d * y) p q))
