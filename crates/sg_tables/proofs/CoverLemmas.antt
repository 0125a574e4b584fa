-- The circles of a generator have all classes; there are as many as the greatest common divisor of it and the modulus.
use Rattle.std.proofs.Common.{◌≡◌, ℕ, zero, suc, ◌+◌, ◌-◌, ◌*◌, ◌/◌, ◌%◌, ◌<◌, List, [], ◌∷◌, length, get_or, sym, ap, subst, ◌∙◌, inl, inr, arith}
use Rattle.std.specs.Int.{IsGcd}
use Rattle.std.proofs.lemmas.Bool.{cases_lt}
use Rattle.std.proofs.lemmas.Nat.{mod_below}
use Rattle.std.proofs.lemmas.Nat.Gcd.{same_from_IsGcd}
use Rattle.std.proofs.Math.Nat.{mod-add-div, add-mul-mod_self_right, mod-eq_of_lt, mod-mod_of_dvd, div-mul_cancel, pos_of_dvd_of_pos}
use Rattle.sg_defs.specs.Membership.{IsMember, IsFactorization}
use Rattle.sg_defs.proofs.MembershipLemmas.{member-times, member-entry}
use Rattle.sg_classes.proofs.ResidueLemmas.{IsReached, reached-gcd}
use Rattle.sg_tables.specs.Circles.{IsClosedAt, IsFollowed, IsLoweredOn}

-- a member of one generator is a multiple of it
pub member-of_one : (g x : ℕ) → IsMember (g ∷ []) x → (j : ℕ) × (x ≡ j * g)
member-of_one g x h = at h.0 h.1
  where
    at : (z : List ℕ) → IsFactorization (g ∷ []) x z → (j : ℕ) × (x ≡ j * g)
    at [] f = absurd (omega (arith, f.places))
    at (j ∷ z) f = let v = f.value in let e : x ≡ j * g = omega (arith, v) in (j, e)

-- the greatest common divisor of g and n is a multiple of g less one of n
gcd-multiple : (g p d : ℕ) → 0 < g → IsGcd g (suc p) d → (j k : ℕ) × (j * g ≡ d + k * suc p)
gcd-multiple g p d positive h =
    let G = g ∷ [] in
    let entry : IsMember G g = member-entry G 0 (omega arith) in
    let first : IsReached G (suc p) g = (0, subst (IsMember G) (let e : g ≡ g + 0 * suc p = omega arith in e) entry) in
    let second : IsReached G (suc p) (suc p) = (g - 1, subst (IsMember G) (whole g (g - 1) (omega arith)) (member-times G (suc p) g entry)) in
    let r = reached-gcd G p (suc p) g (suc p) (omega arith) first second in
    let same : r.0 ≡ d = same_from_IsGcd g (suc p) r.0 d r.1 h in
    let m = member-of_one g (r.0 + r.2.0 * suc p) r.2.1 in
    (m.0, r.2.0, sym m.1 ∙ ap (λ x. x + r.2.0 * suc p) same)
  where
    whole : (g k : ℕ) → g ≡ k + 1 → suc p * g ≡ suc p + k * suc p
    whole g k e = ap (λ x. suc p * x) e ∙ (let f : suc p * (k + 1) ≡ suc p + k * suc p = omega arith in f)

-- the sums that meet: i is its residue modulo d and some steps by g, but for multiples of n
module _ (i r d q j0 k0 n g : ℕ) (split : r + d * q ≡ i) (multiple : j0 * g ≡ d + k0 * n) where
  round : r + (q * j0) * g ≡ i + (q * k0) * n
  round =
      let e = ap (λ x. q * x) multiple in
      omega (arith, e, split)

-- whole circles may be left out
module _ (r j u L g h n : ℕ) (whole : L * g ≡ h * n) where
  less : r + (j + L * u) * g ≡ (r + j * g) + (u * h) * n
  less = let e = ap (λ x. u * x) whole in omega (arith, e)

-- each class stands on the circle of its residue
pub class-met : (g n d i : ℕ) → 0 < g → IsGcd g n d → i < n → (j : ℕ) × (j < n / d) × ((i % d + j * g) % n ≡ i)
class-met g zero d i positive h l = absurd (omega arith)
class-met g (suc p) d i positive h l =
    let n = suc p in
    let some : 0 < d = pos_of_dvd_of_pos h.1 (omega arith) in
    let L = n / d in
    let circle : L * d ≡ n = div-mul_cancel d h.1 in
    let full : 0 < L = nonzero L d circle in
    let m = gcd-multiple g p d positive h in
    let q = i / d in
    let j1 = q * m.0 in
    let u = j1 / L in
    let part : (g / d) * d ≡ g = div-mul_cancel d h.0 in
    let whole : L * g ≡ (g / d) * n = product L (g / d) d g n part circle in
    let a : i % d + j1 * g ≡ i + (q * m.1) * n = round i (i % d) d q m.0 m.1 n g (mod-add-div i d) m.2 in
    let b : i % d + (j1 % L + L * u) * g ≡ (i % d + (j1 % L) * g) + (u * (g / d)) * n = less (i % d) (j1 % L) u L g (g / d) n whole in
    let c : (i % d + (j1 % L) * g) + (u * (g / d)) * n ≡ i + (q * m.1) * n = sym b ∙ ap (λ x. i % d + x * g) (mod-add-div j1 L) ∙ a in (
      j1 % L,
      mod_below j1 L full,
      sym (add-mul-mod_self_right (i % d + (j1 % L) * g) (u * (g / d)) n) ∙ ap (λ x. x % n) c ∙ add-mul-mod_self_right i (q * m.1) n ∙ mod-eq_of_lt l,
    )
  where
    nonzero : (L d : ℕ) → L * d ≡ suc p → 0 < L
    nonzero zero d e = absurd (omega (arith, e))
    nonzero (suc L) d e = omega arith

    product : (L h d g n : ℕ) → h * d ≡ g → L * d ≡ n → L * g ≡ h * n
    product L h d g n e f =
        let a = ap (λ x. L * x) e in
        let b = ap (λ x. h * x) f in
        omega (arith, a, b)

-- and on no other circle
pub class-circle : (g n d r i j : ℕ) → IsGcd g n d → r < d → i ≡ (r + j * g) % n → i % d ≡ r
class-circle g n d r i j h l e =
    let part : (g / d) * d ≡ g = div-mul_cancel d h.0 in
    let f : r + j * g ≡ r + (j * (g / d)) * d = steps (g / d) part in
    ap (λ x. x % d) e ∙ mod-mod_of_dvd d (r + j * g) h.1 ∙ ap (λ x. x % d) f ∙ add-mul-mod_self_right r (j * (g / d)) d ∙ mod-eq_of_lt l
  where
    steps : (h : ℕ) → h * d ≡ g → r + j * g ≡ r + (j * h) * d
    steps h e = let a = ap (λ x. j * x) e in omega (arith, a)

-- the circles before r were followed, and then that of r
pub circles-more : (g n d r : ℕ) (t u : List ℕ) → 0 < g → IsGcd g n d → r < d → length t ≡ n → ((i : ℕ) → i < n → i % d < r → IsClosedAt t g i) →
    IsLoweredOn g r t u → IsFollowed u g r (n / d) → (i : ℕ) → i < n → i % d < r + 1 → IsClosedAt u g i
circles-more g n d r t u positive h l long before lowered followed i inside less = elim (cases_lt (i % d) r) [
  | inl earlier ↦ elim (lowered.circle i (omega (arith, long, inside))) [
    | inr on ↦ absurd (omega (arith, earlier, class-circle g n d r i on.0 h l (on.1 ∙ ap (λ x. (r + on.0 * g) % x) long)))
    | inl same ↦
        let target = (i + g) % length t in
        let within : target < length t = mod_below (i + g) (length t) (omega (arith, long, inside)) in
        omega (arith, ap (λ x. get_or u ((i + g) % x) 0) lowered.long, lowered.down target within, same, before i inside earlier)
  ]
  | inr here ↦
      let at : i % d ≡ r = omega arith in
      let j = class-met g n d i positive h inside in
      let e : (r + j.0 * g) % length u ≡ i = ap (λ x. (r + j.0 * g) % x) (lowered.long ∙ long) ∙ ap (λ x. (x + j.0 * g) % n) (sym at) ∙ j.2 in
      subst (IsClosedAt u g) e (followed j.0 j.1)
]
