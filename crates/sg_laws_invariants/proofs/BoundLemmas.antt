-- Of generators without a common divisor, all numbers from some number on are sums: some two members differ by 1.
use Rattle.std.proofs.Common.{◌≡◌, ℕ, zero, suc, ◌+◌, ◌-◌, ◌*◌, ◌/◌, ◌%◌, ◌<◌, ◌≤◌, List, [], ◌∷◌, length, get_or, sym, ap, subst, inl, inr, arith}
use Rattle.std.specs.Prelude.{All}
use Rattle.std.specs.Int.{◌∣◌}
use Rattle.std.proofs.lemmas.Bool.{cases_lt, cases_eq}
use Rattle.std.proofs.lemmas.List.Elements.{All-nil, All-cons, All-from_get_or}
use Rattle.std.proofs.lemmas.Nat.{mod_below}
use Rattle.std.proofs.lemmas.Nat.Gcd.{dvd_refl, dvd-zero, dvd_trans}
use Rattle.std.proofs.Math.Nat.{dvd-sub_iff_left, eq-zero_of_zero-dvd, mod-add-div, mul-le-mul_left}
use Rattle.sg_defs.specs.Membership.{IsMember, Generates, IsNumericalSemigroup}
use Rattle.sg_defs.proofs.MembershipLemmas.{member-zero, member-add, member-entry, member-times}
use Rattle.sg_classes.proofs.ExistsLemmas.{generates-exists}
use Rattle.sg_defs.proofs.DecidedLemmas.{member-decided}
use Rattle.sg_laws_invariants.specs.Decided.{IsNumericalSet}

-- two members differ by d
abbrev IsDifference : List ℕ → ℕ → Type 0
IsDifference G d = (a : ℕ) × IsMember G a × IsMember G (a + d)

difference-entry : (G : List ℕ) (i : ℕ) → i < length G → IsDifference G (get_or G i 0)
difference-entry G i l = (0, member-zero G, subst (IsMember G) (let e : get_or G i 0 ≡ 0 + get_or G i 0 = omega arith in e) (member-entry G i l))

difference-less : (G : List ℕ) (d e : ℕ) → e ≤ d → IsDifference G d → IsDifference G e → IsDifference G (d - e)
difference-less G d e l p q =
    let s : (p.0 + d) + q.0 ≡ (p.0 + (q.0 + e)) + (d - e) = omega arith in
    (p.0 + (q.0 + e), member-add G p.0 (q.0 + e) p.1 q.2, subst (IsMember G) s (member-add G (p.0 + d) q.0 p.2 q.1))

-- a difference that divides two differences, as Euclid finds it
euclid : (G : List ℕ) (k a b : ℕ) → a + b ≤ k → IsDifference G a → IsDifference G b → (g : ℕ) × IsDifference G g × (g ∣ a) × (g ∣ b)
euclid G zero a b l p q = let e : 0 ≡ b = omega arith in (a, p, dvd_refl a, subst (λ n. a ∣ n) e (dvd-zero a))
euclid G (suc k) a b l p q = elim (cases_eq a 0) [
  | inl none ↦ (b, q, subst (λ n. b ∣ n) (sym none) (dvd-zero b), dvd_refl b)
  | inr some ↦ elim (cases_eq b 0) [
    | inl none ↦ (a, p, dvd_refl a, subst (λ n. a ∣ n) (sym none) (dvd-zero a))
    | inr other ↦ elim (cases_lt b a) [
      | inl less ↦
          let order : b ≤ a = omega arith in
          let r = euclid G k (a - b) b (omega arith) (difference-less G a b order p q) q in
          (r.0, r.1, (dvd-sub_iff_left r.0 order r.3).0 r.2, r.3)
      | inr more ↦
          let r = euclid G k a (b - a) (omega arith) p (difference-less G b a more q p) in
          (r.0, r.1, r.2, (dvd-sub_iff_left r.0 more r.2).0 r.3)
    ]
  ]
]

-- a difference that divides all of a list of differences
common-difference : (G xs : List ℕ) → ((i : ℕ) → i < length xs → IsDifference G (get_or xs i 0)) → (g : ℕ) × IsDifference G g × All (λ x. g ∣ x) xs
common-difference G [] h = (0, (0, member-zero G, subst (IsMember G) (let e : 0 ≡ 0 + 0 = omega arith in e) (member-zero G)), All-nil (λ x. 0 ∣ x))
common-difference G (x ∷ xs) h =
    let r = common-difference G xs (λ i l. h (suc i) (omega arith)) in
    let s = euclid G (x + r.0) x r.0 (omega arith) (h 0 (omega arith)) r.1 in
    (s.0, s.1, All-cons (λ y. s.0 ∣ y) x xs s.2 (All-from_get_or (λ y. s.0 ∣ y) xs 0 (λ i l. dvd_trans s.0 s.3 (r.2 i 0 l))))

one-difference : (G : List ℕ) → IsNumericalSemigroup G → IsDifference G 1
one-difference G s =
    let r = common-difference G G (difference-entry G) in
    let low : r.0 ≤ 1 = s.coprime r.0 r.2 in
    elim (cases_eq r.0 0) [
      | inl none ↦
          let nothing = subst (λ d. d ∣ get_or G 0 0) none (r.2 0 0 s.not_empty) in
          absurd (omega (arith, eq-zero_of_zero-dvd nothing, s.positive 0 0 s.not_empty))
      | inr some ↦ let one : r.0 ≡ 1 = omega arith in subst (IsDifference G) one r.1
    ]

-- a number from a a on is a sum of a and a + 1
above-square : (G : List ℕ) (a : ℕ) → 0 < a → IsMember G a → IsMember G (a + 1) → (n : ℕ) → a * a ≤ n → IsMember G n
above-square G a positive p q n l =
    let r = n % a in
    let t = n / a in
    let below : r < a = mod_below n a positive in
    let whole : r + a * t ≡ n = mod-add-div n a in
    elim (cases_lt t a) [
      | inl less ↦ let m = mul-le-mul_left a less in absurd (omega (arith, m, below, whole, l))
      | inr more ↦
          let split : (t - r) + r ≡ t = omega (arith, below, more) in
          let e : (t - r) * a + r * (a + 1) ≡ n = omega (arith, ap (λ x. a * x) split, whole) in
          subst (IsMember G) e (member-add G ((t - r) * a) (r * (a + 1)) (member-times G (t - r) a p) (member-times G r (a + 1) q))
    ]

-- from some number on, all are members
pub members-from : (G : List ℕ) → IsNumericalSemigroup G → (c : ℕ) × ((n : ℕ) → c ≤ n → IsMember G n)
members-from G s =
    let d = one-difference G s in
    elim (cases_eq d.0 0) [
      | inl none ↦
          let one : IsMember G 1 = subst (IsMember G) (let e : d.0 + 1 ≡ 1 = omega arith in e) d.2 in
          (0, λ n l. subst (IsMember G) (let e : n * 1 ≡ n = omega arith in e) (member-times G n 1 one))
      | inr some ↦ (d.0 * d.0, above-square G d.0 (omega arith) d.1 d.2)
    ]

-- the members of a numerical semigroup are a numerical set
pub numerical-set : (G : List ℕ) → IsNumericalSemigroup G → IsNumericalSet (IsMember G)
numerical-set G s =
    let r = members-from G s in
    record { decided = member-decided G; zero_in = member-zero G; sums = member-add G; from = r.0; all = r.1 }

-- a numerical set has a minimal list
pub minimal_list-exists : (P : ℕ → Type 0) → IsNumericalSet P → (M : List ℕ) × Generates P M
minimal_list-exists P h = generates-exists P h.from (record { decided = h.decided; zero_in = h.zero_in; sums = h.sums; all = h.all })
