-- The least number of each residue class among small elements and the numbers above them.
use Rattle.std.proofs.Common.{◌≡◌, ℕ, zero, suc, ◌+◌, ◌-◌, ◌*◌, ◌/◌, ◌%◌, ◌<◌, ◌≤◌, ◌↔◌, List, length, get_or, refl, sym, ap, subst, ◌∙◌, inl, inr, arith}
use Rattle.std.specs.Prelude.{Contains}
use Rattle.std.proofs.lemmas.Bool.{cases_lt, cases_eq}
use Rattle.std.proofs.lemmas.Nat.{mod_below, mod-mul-add}
use Rattle.std.proofs.Math.Nat.{mod-add-div}
use Rattle.sg_classes.specs.Classes.{IsAboveEntry, IsKunz, IsLoweredBy}
use Rattle.sg_classes.proofs.AperyLemmas.{congruent-split}
use Rattle.sg_classes.proofs.GeneratorLemmas.{contains-place, place-contains}
use Rattle.sg_classes.proofs.ResidueLemmas.{zero-residue}
use Rattle.sg_classes.proofs.KunzLemmas.{kunz-from_closed}
use Rattle.sg_small.specs.Sets.{IsInSmall, IsClosedSet}
use Rattle.sg_small.specs.Small.{AreLeastFrom, AreSmallElements}
use Rattle.sg_small.proofs.SmallLemmas.{up_to}

start-split : (s m : ℕ) → s - s % m ≡ (s / m) * m
start-split s m = omega (arith, mod-add-div s m)

pub from-residue : (s m i : ℕ) → i < m → (s - s % m + i) % m ≡ i
from-residue s m i l = ap (λ x. (x + i) % m) (start-split s m) ∙ mod-mul-add (s / m) m i l

pub from-next : (s m i : ℕ) → i < m → (s - s % m + i + m) % m ≡ i
from-next s m i l =
    let e : s - s % m + i + m ≡ (s / m + 1) * m + i = omega (arith, start-split s m) in
    ap (λ x. x % m) e ∙ mod-mul-add (s / m + 1) m i l

-- less than m above the start a number is the least of its class
pub from-least : (s m w x : ℕ) → 0 < m → w < s + m → s ≤ x → x % m ≡ w % m → w ≤ x
from-least s m w x positive near l e = elim (cases_lt x w) [
  | inr more ↦ more
  | inl less ↦ let p = congruent-split m x w positive e (omega arith) in step p.0 p.1
]
  where
    step : (k : ℕ) → w ≡ x + k * m → w ≤ x
    step zero f = omega arith
    step (suc k) f = absurd (omega (arith, f, near, l))

module _ (list first t : List ℕ) (c m : ℕ) (closed : IsClosedSet (IsInSmall list)) (positive : 0 < m) (modulus : IsInSmall list m) (zero_in : IsInSmall list 0)
    (all : (x : ℕ) → c ≤ x → IsInSmall list x) (end : (x : ℕ) → ((k : ℕ) → k < length list → get_or list k 0 < x) → c ≤ x)
    (f : AreLeastFrom c m first) (h : IsLoweredBy list first t (length list)) where
  long : length t ≡ m
  long = h.long ∙ f.long

  inside : (i : ℕ) → i < m → IsInSmall list (get_or t i 0)
  inside i l = elim (h.entries i (omega (arith, f.long))) [
    | inl same ↦ all (get_or t i 0) (omega (arith, same, f.above i l))
    | inr p ↦ inl (subst (Contains list) (sym p.2) (place-contains list p.0 p.1))
  ]

  residue : (i : ℕ) → i < m → get_or t i 0 % m ≡ i
  residue i l = elim (h.entries i (omega (arith, f.long))) [
    | inl same ↦ ap (λ x. x % m) same ∙ f.residue i l
    | inr p ↦ ap (λ x. x % m) p.2 ∙ ap (λ n. get_or list p.0 0 % n) (sym f.long) ∙ p.3
  ]

  low : (x : ℕ) → IsInSmall list x → get_or t (x % m) 0 ≤ x
  low x (inl here) =
      let p = contains-place list x here in
      subst (λ y. get_or t (y % m) 0 ≤ y) p.2 (subst (λ n. get_or t (get_or list p.0 0 % n) 0 ≤ get_or list p.0 0) f.long (h.listed p.0 p.1))
  low x (inr above) =
      let l = mod_below x m positive in
      omega (arith, h.down (x % m) (omega (arith, l, f.long)), f.least (x % m) x l (end x above) refl)

  times-in : (k v : ℕ) → IsInSmall list v → IsInSmall list (v + k * m)
  times-in zero v p = subst (IsInSmall list) (let e : v ≡ v + 0 * m = omega arith in e) p
  times-in (suc k) v p = subst (IsInSmall list) (let e : v + k * m + m ≡ v + suc k * m = omega arith in e) (closed (v + k * m) m (times-in k v p) modulus)

  back : (x : ℕ) → get_or t (x % m) 0 ≤ x → IsInSmall list x
  back x l =
      let i = x % m in
      let below = mod_below x m positive in
      let s = congruent-split m (get_or t i 0) x positive (residue i below) l in
      subst (IsInSmall list) (sym s.1) (times-in s.0 (get_or t i 0) (inside i below))

  pub least-same : (x : ℕ) → IsInSmall list x ↔ IsAboveEntry t x
  least-same x = subst (λ n. IsInSmall list x ↔ (get_or t (x % n) 0 ≤ x)) (sym long) ((low x), (back x))

  pub least-kunz : IsKunz t
  least-kunz = kunz-from_closed (IsInSmall list) t (record {
    not_empty = omega (arith, long, positive);
    zero = omega (arith, low 0 zero_in, ap (λ i. get_or t i 0) (zero-residue m positive));
    residue = λ i l. ap (λ n. get_or t i 0 % n) long ∙ residue i (omega (arith, long));
  }) least-same closed

module _ (list : List ℕ) (s : AreSmallElements list) where
  small-all : (x : ℕ) → get_or list (length list - 1) 0 ≤ x → IsInSmall list x
  small-all x l = elim (cases_eq (get_or list (length list - 1) 0) x) [
    | inl e ↦ inl (subst (Contains list) e (place-contains list (length list - 1) (omega (arith, s.not_empty))))
    | inr other ↦ inr (λ k m. omega (arith, l, other, up_to list s k (length list - 1) (omega arith) (omega arith)))
  ]

  small-zero : IsInSmall list 0
  small-zero = inl (subst (Contains list) s.zero (place-contains list 0 s.not_empty))

  pub small-least_kunz : (first t : List ℕ) (m : ℕ) → IsClosedSet (IsInSmall list) → 0 < m → IsInSmall list m →
      AreLeastFrom (get_or list (length list - 1) 0) m first → IsLoweredBy list first t (length list) → IsKunz t
  small-least_kunz first t m closed positive modulus f h =
      least-kunz list first t (get_or list (length list - 1) 0) m closed positive modulus small-zero small-all
      (λ x above. omega (arith, above (length list - 1) (omega (arith, s.not_empty)))) f h

  pub small-least_same : (first t : List ℕ) (m : ℕ) → IsClosedSet (IsInSmall list) → 0 < m → IsInSmall list m →
      AreLeastFrom (get_or list (length list - 1) 0) m first → IsLoweredBy list first t (length list) → (x : ℕ) → IsInSmall list x ↔ IsAboveEntry t x
  small-least_same first t m closed positive modulus f h =
      least-same list first t (get_or list (length list - 1) 0) m closed positive modulus small-zero small-all
      (λ x above. omega (arith, above (length list - 1) (omega (arith, s.not_empty)))) f h
