-- The sets of the constructors are decided, and have all from some number on: each is a numerical semigroup where it has 0
-- and its sums, and of that it is decided too.
use Rattle.std.proofs.Common.{◌≡◌, ℕ, zero, suc, ◌+◌, ◌*◌, ◌%◌, ◌<◌, ◌≤◌, List, [], ◌∷◌, length, get_or, ap, subst, ◌∙◌, inl, inr, arith}
use Rattle.std.specs.Prelude.{◌⊎◌, Contains}
use Rattle.std.specs.Int.{◌∣◌}
use Rattle.std.proofs.lemmas.Bool.{cases_lt}
use Rattle.std.proofs.lemmas.Nat.{mod_below}
use Rattle.std.proofs.lemmas.Nat.Gcd.{le_of_dvd}
use Rattle.std.proofs.Math.Nat.{mul-le-mul_left}
use Rattle.sg_defs.specs.Membership.{IsMember, Generates, IsNumericalSemigroup}
use Rattle.sg_defs.proofs.MembershipLemmas.{member-zero, member-add}
use Rattle.sg_classes.specs.Classes.{IsAboveEntry, IsClassList, IsKunz}
use Rattle.sg_apery.specs.Conditions.{IsInBoth, IsInQuotient, AreSmallAccepted}
use Rattle.sg_small.specs.Sets.{IsInSmall, IsNotClosed, IsClosedSet, IsOutside}
use Rattle.sg_classes.proofs.ResidueLemmas.{residue-sum}
use Rattle.sg_classes.proofs.GeneratorLemmas.{contains-place, place-contains}
use Rattle.sg_laws_invariants.specs.Decided.{Decided, IsNumericalSet}
use Rattle.sg_laws_invariants.specs.Sets.{AreSetsGenerated}
use Rattle.sg_laws_invariants.proofs.Decisions.{decided-not, decided-and, decided-or, decided-same, decided-le, decided-lt, decided-eq, decided-divides, each-below, some-below}
use Rattle.sg_defs.proofs.DecidedLemmas.{member-decided}
use Rattle.sg_laws_invariants.proofs.BoundLemmas.{members-from, minimal_list-exists}

-- ---- sets that are decided and have all from a number on

module _ (P : ℕ → Type 0) (decided : (n : ℕ) → Decided (P n)) (c : ℕ) (all : (n : ℕ) → c ≤ n → P n) where
  abbrev IsBreak : ℕ → ℕ → Type 0
  IsBreak x y = P x × P y × (P (x + y) → ⊥)

  break-decided : (x y : ℕ) → Decided (IsBreak x y)
  break-decided x y = elim (decided-and (P x) (P y) (decided x) (decided y)) [
    | inr not ↦ inr (λ h. not (h.0, h.1))
    | inl both ↦ elim (decided (x + y)) [
      | inl sum ↦ inr (λ h. h.2 sum)
      | inr out ↦ inl (both.0, both.1, out)
    ]
  ]

  -- its sums are in it, or one is not: of summands from c on there is nothing to be looked at
  pub closed-or_not : IsClosedSet P ⊎ IsNotClosed P
  closed-or_not = elim (some-below (λ x. (y : ℕ) × (y < c) × IsBreak x y) (λ x. some-below (IsBreak x) (break-decided x) c) c) [
    | inl found ↦ inr (found.0, found.2.0, found.2.2.0, found.2.2.1, found.2.2.2)
    | inr none ↦ inl (λ x y p q. elim (decided (x + y)) [
      | inl sum ↦ sum
      | inr out ↦ elim (cases_lt x c) [
        | inr more ↦ absurd (out (all (x + y) (omega arith)))
        | inl less ↦ elim (cases_lt y c) [
          | inr more ↦ absurd (out (all (x + y) (omega arith)))
          | inl small ↦ absurd (none (x, less, (y, small, (p, q, out))))
        ]
      ]
    ])
  ]

  -- a closed set with 0 is a numerical set
  pub closed-set : P 0 → IsClosedSet P → IsNumericalSet P
  closed-set zero_in closed = record { decided = decided; zero_in = zero_in; sums = closed; from = c; all = all }

  -- it is a numerical semigroup, or it is none
  pub generated-decided : Decided ((M : List ℕ) × Generates P M)
  generated-decided = elim (decided 0) [
    | inr out ↦ inr (λ h. out ((h.1.same 0).1 (member-zero h.0)))
    | inl zero_in ↦ elim closed-or_not [
      | inl closed ↦ inl (minimal_list-exists P (closed-set zero_in closed))
      | inr broken ↦ inr (λ h. broken.4 ((h.1.same (broken.0 + broken.1)).1 (member-add h.0 broken.0 broken.1 ((h.1.same broken.0).0 broken.2) ((h.1.same broken.1).0 broken.3))))
    ]
  ]

-- ---- two semigroups, and a quotient

-- so is an intersection
pub both-set : (G H : List ℕ) → IsNumericalSemigroup G → IsNumericalSemigroup H → IsNumericalSet (IsInBoth G H)
both-set G H s t =
    let a = members-from G s in
    let b = members-from H t in
    record {
      decided = λ n. decided-and (IsMember G n) (IsMember H n) (member-decided G n) (member-decided H n);
      zero_in = (member-zero G, member-zero H);
      sums = λ x y p q. (member-add G x y p.0 q.0, member-add H x y p.1 q.1);
      from = a.0 + b.0;
      all = λ n l. (a.1 n (omega arith), b.1 n (omega arith));
    }

-- so is a quotient
pub quotient-set : (G : List ℕ) (d : ℕ) → IsNumericalSemigroup G → 0 < d → IsNumericalSet (IsInQuotient G d)
quotient-set G d s positive =
    let a = members-from G s in
    record {
      decided = λ n. member-decided G (d * n);
      zero_in = subst (IsMember G) (let e : 0 ≡ d * 0 = omega arith in e) (member-zero G);
      sums = λ x y p q. subst (IsMember G) (let e : d * x + d * y ≡ d * (x + y) = omega arith in e) (member-add G (d * x) (d * y) p q);
      from = a.0;
      all = λ n l. a.1 (d * n) (let one : 1 ≤ d = omega arith in let m = mul-le-mul_left n one in omega (arith, l, m));
    }

-- ---- lists of entries

-- no entry is above it
pub greatest-bound : (list : List ℕ) → (b : ℕ) × ((k : ℕ) → k < length list → get_or list k 0 ≤ b)
greatest-bound [] = (0, λ k l. absurd (omega arith))
greatest-bound (x ∷ list) = let r = greatest-bound list in (x + r.0, at x list r.0 r.1)
  where
    at : (x : ℕ) (list : List ℕ) (b : ℕ) → ((k : ℕ) → k < length list → get_or list k 0 ≤ b) → (k : ℕ) → k < length (x ∷ list) → get_or (x ∷ list) k 0 ≤ x + b
    at x list b h zero l = omega arith
    at x list b h (suc k) l = let m = h k (omega arith) in omega (arith, m)

pub contains-decided : (list : List ℕ) (n : ℕ) → Decided (Contains list n)
contains-decided list n = decided-same ((k : ℕ) × (k < length list) × (get_or list k 0 ≡ n)) (Contains list n)
    (λ h. subst (Contains list) h.2 (place-contains list h.0 h.1)) (contains-place list n)
    (some-below (λ k. get_or list k 0 ≡ n) (λ k. decided-eq (get_or list k 0) n) (length list))

module _ (list : List ℕ) where
  small-decided : (n : ℕ) → Decided (IsInSmall list n)
  small-decided n = decided-or (Contains list n) ((k : ℕ) → k < length list → get_or list k 0 < n) (contains-decided list n)
      (each-below (λ k. get_or list k 0 < n) (λ k. decided-lt (get_or list k 0) n) (length list))

  small-from : (n : ℕ) → (greatest-bound list).0 + 1 ≤ n → IsInSmall list n
  small-from n l = inr (λ k q. let m = (greatest-bound list).1 k q in omega (arith, m, l))

  -- the small elements are such, or they are not
  pub small_closed-or_not : IsClosedSet (IsInSmall list) ⊎ IsNotClosed (IsInSmall list)
  small_closed-or_not = closed-or_not (IsInSmall list) small-decided ((greatest-bound list).0 + 1) small-from

  pub small_accepted-decided : Decided (AreSmallAccepted list)
  small_accepted-decided = decided-and (Contains list 0) (IsClosedSet (IsInSmall list)) (contains-decided list 0)
      (elim small_closed-or_not [ inl closed ↦ inl closed | inr broken ↦ inr (λ h. broken.4 (h broken.0 broken.1 broken.2 broken.3)) ])

  pub small-set : AreSmallAccepted list → IsNumericalSet (IsInSmall list)
  small-set h = closed-set (IsInSmall list) small-decided ((greatest-bound list).0 + 1) small-from (inl h.0) h.1

  outside-from : (n : ℕ) → (greatest-bound list).0 + 1 ≤ n → IsOutside list n
  outside-from n l h = let p = contains-place list n h in let m = (greatest-bound list).1 p.0 p.1 in omega (arith, m, l, p.2)

  -- the naturals outside the list are a numerical semigroup, or they are none
  pub outside-decided : Decided ((M : List ℕ) × Generates (IsOutside list) M)
  outside-decided = generated-decided (IsOutside list) (λ n. decided-not (Contains list n) (contains-decided list n)) ((greatest-bound list).0 + 1) outside-from

  -- so are those that divide no entry, where no entry is 0
  pub divides_none-decided : ((k : ℕ) → k < length list → 0 < get_or list k 0) → Decided ((M : List ℕ) × Generates (λ n. ((k : ℕ) × (k < length list) × (n ∣ get_or list k 0)) → ⊥) M)
  divides_none-decided positive = generated-decided (λ n. ((k : ℕ) × (k < length list) × (n ∣ get_or list k 0)) → ⊥)
      (λ n. decided-not ((k : ℕ) × (k < length list) × (n ∣ get_or list k 0)) (some-below (λ k. n ∣ get_or list k 0) (λ k. decided-divides n (get_or list k 0)) (length list)))
      ((greatest-bound list).0 + 1)
      (λ n l h. let low : n ≤ get_or list h.0 0 = le_of_dvd (positive h.0 h.1) h.2 in let m = (greatest-bound list).1 h.0 h.1 in omega (arith, m, l, low))

-- ---- Apery lists

pub classes-decided : (t : List ℕ) → Decided (IsClassList t)
classes-decided t = elim (decided-lt 0 (length t)) [
  | inr not ↦ inr (λ h. not h.not_empty)
  | inl long ↦ elim (decided-eq (get_or t 0 0) 0) [
    | inr not ↦ inr (λ h. not h.zero)
    | inl none ↦ elim (each-below (λ i. get_or t i 0 % length t ≡ i) (λ i. decided-eq (get_or t i 0 % length t) i) (length t)) [
      | inr not ↦ inr (λ h. not h.residue)
      | inl residue ↦ inl (record { not_empty = long; zero = none; residue = residue })
    ]
  ]
]

-- whether a list is an Apery list is decided
pub kunz-decided : (t : List ℕ) → Decided (IsKunz t)
kunz-decided t = elim (classes-decided t) [
  | inr not ↦ inr (λ h. not h.classes)
  | inl classes ↦ elim (each-below (λ i. (j : ℕ) → j < length t → get_or t ((i + j) % length t) 0 ≤ get_or t i 0 + get_or t j 0)
      (λ i. each-below (λ j. get_or t ((i + j) % length t) 0 ≤ get_or t i 0 + get_or t j 0) (λ j. decided-le (get_or t ((i + j) % length t) 0) (get_or t i 0 + get_or t j 0)) (length t)) (length t)) [
        | inr not ↦ inr (λ h. not (λ i l j m. h.sums i j l m))
        | inl sums ↦ inl (record { classes = classes; sums = λ i j l m. sums i l j m })
      ]
]

-- what is at least the entry of its class is a numerical semigroup
pub above-set : (t : List ℕ) → IsKunz t → IsNumericalSet (IsAboveEntry t)
above-set t k =
    let b = greatest-bound t in
    let positive = k.classes.not_empty in
    record {
      decided = λ n. decided-le (get_or t (n % length t) 0) n;
      zero_in = (let e : 0 % length t ≡ 0 = omega (arith, positive) in omega (arith, ap (λ i. get_or t i 0) e, k.classes.zero));
      sums = λ x y p q.
          let s = k.sums (x % length t) (y % length t) (mod_below x (length t) positive) (mod_below y (length t) positive) in
          let e = ap (λ i. get_or t i 0) (residue-sum x y (length t)) in
          omega (arith, s, e, p, q);
      from = b.0;
      all = λ n l. let m = b.1 (n % length t) (mod_below n (length t) positive) in omega (arith, m, l);
    }

-- ---- modular semigroups

-- c x is at least the remainder of a x by b
pub modular-set : (a b c : ℕ) → 0 < b → 0 < c → IsNumericalSet (λ x. (a * x) % b ≤ c * x)
modular-set a b c positive factor = record {
  decided = λ x. decided-le ((a * x) % b) (c * x);
  zero_in = (let e : (a * 0) % b ≡ 0 = omega (arith, positive) in omega (arith, e));
  sums = λ x y p q. sum x y p q;
  from = b;
  all = λ x l. let m = mod_below (a * x) b positive in let one : 1 ≤ c = omega arith in let w = mul-le-mul_left x one in omega (arith, m, w, l);
}
  where
    sum : (x y : ℕ) → (a * x) % b ≤ c * x → (a * y) % b ≤ c * y → (a * (x + y)) % b ≤ c * (x + y)
    sum x y p q =
        let e : a * x + a * y ≡ a * (x + y) = omega arith in
        let f = residue-sum (a * x) (a * y) b ∙ ap (λ z. z % b) e in
        let low : ((a * x) % b + (a * y) % b) % b ≤ (a * x) % b + (a * y) % b = remainder-low ((a * x) % b + (a * y) % b) b in
        omega (arith, f, low, p, q)
      where
        remainder-low : (n d : ℕ) → n % d ≤ n
        remainder-low n d = omega arith

-- the sets of the constructors have minimal lists
pub sets-generated : AreSetsGenerated
sets-generated = record {
  intersection = λ G H s t. minimal_list-exists (IsInBoth G H) (both-set G H s t);
  quotient = λ G d s l. minimal_list-exists (IsInQuotient G d) (quotient-set G d s l);
  apery_accepted = kunz-decided;
  apery = λ t k. minimal_list-exists (IsAboveEntry t) (above-set t k);
  small_accepted = small_accepted-decided;
  small_elements = λ l h. minimal_list-exists (IsInSmall l) (small-set l h);
  gaps = outside-decided;
  modular = λ a b c l m. minimal_list-exists (λ x. (a * x) % b ≤ c * x) (modular-set a b c l m);
}

-- what is said of the same numbers is a numerical semigroup too
pub same-generated : (P Q : ℕ → Type 0) → ((n : ℕ) → P n → Q n) → ((n : ℕ) → Q n → P n) → (M : List ℕ) × Generates P M → (M : List ℕ) × Generates Q M
same-generated P Q to from h = (h.0, record { semigroup = h.1.semigroup; minimal = h.1.minimal; same = λ n. ((λ q. (h.1.same n).0 (from n q)), (λ m. to n ((h.1.same n).1 m))) })
