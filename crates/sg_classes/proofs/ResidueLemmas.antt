-- In each residue class modulo m the members of a numerical semigroup occur.
use Rattle.std.proofs.Common.{◌≡◌, ℕ, zero, suc, ◌+◌, ◌*◌, ◌/◌, ◌%◌, ◌<◌, ◌≤◌, List, [], ◌∷◌, length, get_or, refl, sym, ap, subst, ◌∙◌, arith}
use Rattle.std.specs.Int.{◌∣◌, IsGcd}
use Rattle.std.proofs.lemmas.Nat.{mod_below}
use Rattle.std.proofs.lemmas.Nat.Gcd.{IsGcd-from_mod, IsGcd-from_zero, dvd_trans, mod-eq-zero_of_dvd, le_of_dvd}
use Rattle.std.proofs.lemmas.List.Elements.{All-from_get_or}
use Rattle.std.proofs.Math.Nat.{mod-add-div, mod-add-mod, mod-zero, add-mul-mod_self_right, mod-eq_of_lt}
use Rattle.sg_defs.specs.Membership.{IsMember, IsNumericalSemigroup}
use Rattle.sg_defs.proofs.MembershipLemmas.{member-zero, member-add, member-times, member-entry}

-- equal residues stay equal when one number is added
pub same_residue-add : (a b g m : ℕ) → a % m ≡ b % m → (a + g) % m ≡ (b + g) % m
same_residue-add a b g m h = sym (mod-add-mod a m g) ∙ ap (λ r. (r + g) % m) h ∙ mod-add-mod b m g

-- some member is c and a multiple of m
abbrev pub IsReached : List ℕ → ℕ → ℕ → Type 0
IsReached G m c = (k : ℕ) × IsMember G (c + k * m)

-- each multiple of a reached number is reached
pub reached-times : (G : List ℕ) (m q c : ℕ) → IsReached G m c → IsReached G m (q * c)
reached-times G m q c h =
    let e : q * (c + h.0 * m) ≡ q * c + (q * h.0) * m = omega arith in
    (q * h.0, subst (IsMember G) e (member-times G q (c + h.0 * m) h.1))

-- the difference of two reached numbers, where m is above 0
reached-minus : (G : List ℕ) (p a b : ℕ) → IsReached G (suc p) (a + b) → IsReached G (suc p) b → IsReached G (suc p) a
reached-minus G p a b g h =
    let k = g.0 in
    let l = h.0 in
    let e : (a + b + k * suc p) + p * (b + l * suc p) ≡ a + (k + b + p * l) * suc p = omega arith in
    (k + b + p * l, subst (IsMember G) e (member-add G (a + b + k * suc p) (p * (b + l * suc p)) g.1 (member-times G p (b + l * suc p) h.1)))

reached-rest : (G : List ℕ) (p a b : ℕ) → IsReached G (suc p) a → IsReached G (suc p) b → IsReached G (suc p) (a % b)
reached-rest G p a b g h =
    let e : a ≡ a % b + (a / b) * b = omega (arith, mod-add-div a b) in
    reached-minus G p (a % b) ((a / b) * b) (subst (IsReached G (suc p)) e g) (reached-times G (suc p) (a / b) b h)

-- Euclid's steps stay inside the reached numbers
pub reached-gcd : (G : List ℕ) (p n a b : ℕ) → b ≤ n → IsReached G (suc p) a → IsReached G (suc p) b → (d : ℕ) × IsGcd a b d × IsReached G (suc p) d
reached-gcd G p zero a b l g h = (a, IsGcd-from_zero a b (let e : b ≡ 0 = omega arith in e), g)
reached-gcd G p (suc n) a zero l g h = (a, IsGcd-from_zero a 0 refl, g)
reached-gcd G p (suc n) a (suc b) l g h =
    let less : a % suc b < suc b = mod_below a (suc b) (omega arith) in
    let r = reached-gcd G p n (suc b) (a % suc b) (omega arith) h (reached-rest G p a (suc b) g h) in
    (r.0, IsGcd-from_mod a (suc b) r.0 r.1, r.2)

-- an entry, in the form of a reached number
reached-entry : (G : List ℕ) (m i : ℕ) → i < length G → IsReached G m (get_or G i 0)
reached-entry G m i l =
    let e : get_or G i 0 ≡ get_or G i 0 + 0 * m = omega arith in
    (0, subst (IsMember G) e (member-entry G i l))

-- a common divisor of the entries is reached
reached-divisor : (G : List ℕ) (p : ℕ) (gs : List ℕ) → ((i : ℕ) → i < length gs → IsReached G (suc p) (get_or gs i 0)) → (d : ℕ) × ((i : ℕ) → i < length gs → d ∣ get_or gs i 0) × IsReached G (suc p) d
reached-divisor G p [] h = (0, (λ i l. absurd (omega arith)), (0, subst (IsMember G) (let e : 0 ≡ 0 + 0 * suc p = omega arith in e) (member-zero G)))
reached-divisor G p (g ∷ gs) h =
    let below = reached-divisor G p gs (λ i l. h (suc i) (omega arith)) in
    let all = reached-gcd G p below.0 g below.0 (omega arith) (h 0 (omega arith)) below.2 in
    (all.0, divides all.0 below.0 all.1.0 all.1.1 below.1, all.2)
  where
    divides : (d e : ℕ) → d ∣ g → d ∣ e → ((i : ℕ) → i < length gs → e ∣ get_or gs i 0) → (i : ℕ) → i < length (g ∷ gs) → d ∣ get_or (g ∷ gs) i 0
    divides d e x y z zero l = x
    divides d e x y z (suc i) l = dvd_trans d y (z i (omega arith))

-- the greatest common divisor of the entries is reached
pub divisor-reached : (G : List ℕ) (m : ℕ) → 0 < m → (d : ℕ) × ((i : ℕ) → i < length G → d ∣ get_or G i 0) × IsReached G m d
divisor-reached G zero l = absurd (omega arith)
divisor-reached G (suc p) l = reached-divisor G p G (λ i m. reached-entry G (suc p) i m)

-- what 0 divides is 0
zero_divides : (n : ℕ) → 0 ∣ n → n ≡ 0
zero_divides n h = sym (mod-zero n) ∙ mod-eq-zero_of_dvd 0 h

-- a greatest common divisor with a number above 0 is above 0 and at most that number
pub gcd-range : (a n d : ℕ) → 0 < n → IsGcd a n d → (0 < d) × (d ≤ n)
gcd-range a n zero l h = absurd (omega (arith, zero_divides n h.1))
gcd-range a n (suc d) l h = (omega arith, le_of_dvd l h.1)

-- a common divisor of the entries of a numerical semigroup is 1
pub common_divisor-one : (G : List ℕ) (d : ℕ) → IsNumericalSemigroup G → ((i : ℕ) → i < length G → d ∣ get_or G i 0) → d ≡ 1
common_divisor-one G zero s h =
    let none : get_or G 0 0 ≡ 0 = zero_divides (get_or G 0 0) (h 0 s.not_empty) in
    absurd (omega (arith, s.positive 0 0 s.not_empty))
common_divisor-one G (suc d) s h =
    let top : suc d ≤ 1 = s.coprime (suc d) (All-from_get_or (λ g. suc d ∣ g) G 0 h) in
    omega arith

-- 1 is reached
reached-one : (G : List ℕ) (p : ℕ) → IsNumericalSemigroup G → IsReached G (suc p) 1
reached-one G p s =
    let d = divisor-reached G (suc p) (omega arith) in
    subst (IsReached G (suc p)) (common_divisor-one G d.0 s d.1) d.2

-- in each residue class there is a member
pub member-residue : (G : List ℕ) (m r : ℕ) → IsNumericalSemigroup G → r < m → (n : ℕ) × IsMember G n × (n % m ≡ r)
member-residue G zero r s l = absurd (omega arith)
member-residue G (suc p) r s l =
    let h = reached-times G (suc p) r 1 (reached-one G p s) in
    let e : r * 1 ≡ r = omega arith in
    (r * 1 + h.0 * suc p, h.1, add-mul-mod_self_right (r * 1) h.0 (suc p) ∙ ap (λ n. n % suc p) e ∙ mod-eq_of_lt l)

-- the sum of two residues, and the residue of the sum
pub residue-sum : (a b n : ℕ) → (a % n + b % n) % n ≡ (a + b) % n
residue-sum a b n =
    let e : a + b % n ≡ b % n + a = omega arith in
    let f : b + a ≡ a + b = omega arith in
    mod-add-mod a n (b % n) ∙ ap (λ x. x % n) e ∙ mod-add-mod b n a ∙ ap (λ x. x % n) f

-- 0 leaves the residue 0
pub zero-residue : (n : ℕ) → 0 < n → 0 % n ≡ 0
zero-residue n l = omega arith
