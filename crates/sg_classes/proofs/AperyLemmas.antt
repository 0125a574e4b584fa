-- What an Apery list tells: membership of every number by one comparison.
use Rattle.std.proofs.Common.{◌≡◌, ℕ, inl, inr, zero, suc, ◌+◌, ◌-◌, ◌*◌, ◌/◌, ◌%◌, ◌<◌, ◌≤◌, ◌↔◌, List, length, get_or, sym, ap, subst, ◌∙◌, arith}
use Rattle.std.proofs.lemmas.Nat.{mod_below}
use Rattle.std.proofs.lemmas.Bool.{cases_lt}
use Rattle.std.proofs.Math.Nat.{mod-add-div, mul-le-mul_left, add-mod_right}
use Rattle.std.specs.Prelude.{◌⊎◌}
use Rattle.sg_defs.specs.Membership.{IsMember}
use Rattle.sg_defs.specs.Apery.{IsApery}
use Rattle.sg_defs.proofs.MembershipLemmas.{member-add, member-times, member-induction}
use Rattle.sg_classes.proofs.ResidueLemmas.{same_residue-add}

-- numbers with one remainder and quotients p and q
quotients-split : (m r p q a b : ℕ) → 0 < m → r + m * p ≡ a → r + m * q ≡ b → a ≤ b → (k : ℕ) × (b ≡ a + k * m)
quotients-split m r p q a b positive e f l = elim (cases_lt q p) [
  | inl less ↦ absurd (let h : suc q ≤ p = omega arith in omega (arith, mul-le-mul_left m h))
  | inr more ↦
      let same : q ≡ p + (q - p) = omega arith in
      let g : r + m * (p + (q - p)) ≡ b = subst (λ n. r + m * n ≡ b) same f in
      (q - p, omega arith)
]

-- of two congruent numbers the greater is the lesser and a multiple of the modulus
pub congruent-split : (m a b : ℕ) → 0 < m → a % m ≡ b % m → a ≤ b → (k : ℕ) × (b ≡ a + k * m)
congruent-split m a b positive h l =
    quotients-split m (b % m) (a / m) (b / m) a b positive (ap (λ r. r + m * (a / m)) (sym h) ∙ mod-add-div a m) (mod-add-div b m) l

-- a number congruent to a member that is at most as great is a member
pub member-above : (G : List ℕ) (m a b : ℕ) → 0 < m → IsMember G m → IsMember G a → a % m ≡ b % m → a ≤ b → IsMember G b
member-above G m a b positive p q h l =
    let s = congruent-split m a b positive h l in
    subst (IsMember G) (sym s.1) (member-add G a (s.0 * m) q (member-times G s.0 m p))

-- a lesser number in the class of w would make w minus n a member
no_lesser : (G : List ℕ) (n w x : ℕ) → 0 < n → IsMember G n → IsMember G x → x % n ≡ w % n → ((y : ℕ) → y + n ≡ w → IsMember G y → ⊥) → w ≤ x
no_lesser G n w x positive p q h least = elim (cases_lt x w) [
  | inl less ↦
      let s = congruent-split n x w positive h (omega arith) in
      step s.0 s.1 less
  | inr more ↦ more
]
  where
    step : (k : ℕ) → w ≡ x + k * n → x < w → w ≤ x
    step zero e less = absurd (omega arith)
    step (suc k) e less =
        let f : (x + k * n) + n ≡ w = omega arith in
        absurd (least (x + k * n) f (member-add G x (k * n) q (member-times G k n p)))

-- x is a member exactly where the entry of its class is at most x
pub apery-member : (G : List ℕ) (n : ℕ) (t : List ℕ) → 0 < n → IsMember G n → IsApery G n t → (x : ℕ) → IsMember G x ↔ (get_or t (x % n) 0 ≤ x)
apery-member G n t positive p a x =
    let i = x % n in
    let inside : i < n = mod_below x n positive in (
      (λ q. no_lesser G n (get_or t i 0) x positive p q (sym (a.residue i inside)) (λ y e r. a.least i y inside e r)),
      (λ l. member-above G n (get_or t i 0) x positive p (a.member i inside) (a.residue i inside) l),
    )

-- in a list of members by residues that no generator lowers, each member is at least its entry
pub closed-bound : (G : List ℕ) (n : ℕ) (t : List ℕ) → 0 < n → get_or t 0 0 ≡ 0 → ((i : ℕ) → i < n → get_or t i 0 % n ≡ i) →
    ((i j : ℕ) → i < n → j < length G → get_or t ((get_or t i 0 + get_or G j 0) % n) 0 ≤ get_or t i 0 + get_or G j 0) →
    (x : ℕ) → IsMember G x → get_or t (x % n) 0 ≤ x
closed-bound G n t positive none residue closed =
    member-induction (λ x. get_or t (x % n) 0 ≤ x) G base step
  where
    base : get_or t (0 % n) 0 ≤ 0
    base =
        let e : 0 % n ≡ 0 = omega arith in
        let f : get_or t (0 % n) 0 ≡ 0 = ap (λ i. get_or t i 0) e ∙ none in
        omega arith

    step : (j x : ℕ) → j < length G → get_or t (x % n) 0 ≤ x → get_or t ((x + get_or G j 0) % n) 0 ≤ x + get_or G j 0
    step j x l h =
        let i = x % n in
        let inside : i < n = mod_below x n positive in
        let same : (get_or t i 0 + get_or G j 0) % n ≡ (x + get_or G j 0) % n =
        same_residue-add (get_or t i 0) x (get_or G j 0) n (residue i inside) in
        let low : get_or t ((x + get_or G j 0) % n) 0 ≤ get_or t i 0 + get_or G j 0 = subst (λ r. get_or t r 0 ≤ get_or t i 0 + get_or G j 0) same (closed i j inside l) in
        omega arith

-- such a list is the Apery list
pub apery-from_closed : (G : List ℕ) (n : ℕ) (t : List ℕ) → 0 < n → length t ≡ n → get_or t 0 0 ≡ 0 →
    ((i : ℕ) → i < n → IsMember G (get_or t i 0)) → ((i : ℕ) → i < n → get_or t i 0 % n ≡ i) →
    ((i j : ℕ) → i < n → j < length G → get_or t ((get_or t i 0 + get_or G j 0) % n) 0 ≤ get_or t i 0 + get_or G j 0) →
    IsApery G n t
apery-from_closed G n t positive len none member residue closed = record {
  entries = len;
  member = member;
  residue = residue;
  least = least;
}
  where
    least : (i y : ℕ) → i < n → y + n ≡ get_or t i 0 → IsMember G y → ⊥
    least i y inside e q =
        let low : get_or t (y % n) 0 ≤ y = closed-bound G n t positive none residue closed y q in
        let same : y % n ≡ i = sym (add-mod_right y n) ∙ ap (λ x. x % n) e ∙ residue i inside in
        let low' : get_or t i 0 ≤ y = subst (λ r. get_or t r 0 ≤ y) same low in
        omega arith

-- membership is decided
pub member-decided : (G : List ℕ) (n : ℕ) (t : List ℕ) → 0 < n → IsMember G n → IsApery G n t → (x : ℕ) → IsMember G x ⊎ (IsMember G x → ⊥)
member-decided G n t positive p a x = elim (cases_lt x (get_or t (x % n) 0)) [
  | inl less ↦ inr (λ q. omega (arith, less, (apery-member G n t positive p a x).0 q))
  | inr more ↦ inl ((apery-member G n t positive p a x).1 more)
]
