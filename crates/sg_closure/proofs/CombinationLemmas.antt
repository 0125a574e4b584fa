-- Integer combinations: what divides the numbers divides them, and a member less a multiple of a number is one.
use Rattle.std.proofs.Common.{◌≡◌, ℕ, zero, suc, ◌+◌, ◌-◌, ◌*◌, ◌<◌, List, [], ◌∷◌, length, get_or, map, refl, ap, subst, ◌∙◌, arith}
use Rattle.std.specs.Prelude.{ℤ, pos, negsuc, ◌+ℤ◌, ◌-ℤ◌, ◌*ℤ◌}
use Rattle.std.specs.Int.{◌∣◌}
use Rattle.std.proofs.lemmas.Int.{ints}
use Rattle.std.proofs.lemmas.List.{length-map}
use Rattle.std.proofs.lemmas.Nat.Gcd.{dvd-zero}
use Rattle.std.proofs.Math.Nat.{dvd-add, dvd-sub}
use Rattle.std.proofs.Math.IntN.{pos-*ℤ-pos, negsuc-*ℤ-pos}
use Rattle.sg_defs.specs.Vectors.{value_of}
use Rattle.sg_defs.specs.Membership.{IsMember}
use Rattle.sg_defs.specs.Closures.{integer_value_of}

dvd-times : (d n s : ℕ) → d ∣ s → d ∣ (n * s)
dvd-times d zero s h = subst (λ x. d ∣ x) (let e : 0 ≡ 0 * s = omega arith in e) (dvd-zero d)
dvd-times d (suc n) s h = subst (λ x. d ∣ x) (let e : s + n * s ≡ suc n * s = omega arith in e) (dvd-add d h (dvd-times d n s h))

-- the positive and the negative part, each a multiple
combination-parts : (d : ℕ) (ss : List ℕ) (zs : List ℤ) → ((i : ℕ) → i < length ss → d ∣ get_or ss i 0) →
    (p n : ℕ) × (d ∣ p) × (d ∣ n) × (integer_value_of ss zs ≡ pos p -ℤ pos n)
combination-parts d [] zs h = (0, 0, dvd-zero d, dvd-zero d, let e : pos 0 ≡ pos 0 -ℤ pos 0 = omega (arith, ints) in e)
combination-parts d (s ∷ ss) [] h = (0, 0, dvd-zero d, dvd-zero d, let e : pos 0 ≡ pos 0 -ℤ pos 0 = omega (arith, ints) in e)
combination-parts d (s ∷ ss) (pos k ∷ zs) h =
    let r = combination-parts d ss zs (λ i l. h (suc i) (omega arith)) in
    let first : d ∣ s = h 0 (omega arith) in
    (k * s + r.0, r.1, dvd-add d (dvd-times d k s first) r.2, r.3, omega (arith, ints, pos-*ℤ-pos k s, r.4))
combination-parts d (s ∷ ss) (negsuc k ∷ zs) h =
    let r = combination-parts d ss zs (λ i l. h (suc i) (omega arith)) in
    let first : d ∣ s = h 0 (omega arith) in
    (r.0, suc k * s + r.1, r.2, dvd-add d (dvd-times d (suc k) s first) r.3, omega (arith, ints, negsuc-*ℤ-pos k s, r.4))

-- a common divisor divides each integer combination
pub combination-divides : (d : ℕ) (ss : List ℕ) (zs : List ℤ) (r : ℕ) → ((i : ℕ) → i < length ss → d ∣ get_or ss i 0) →
    integer_value_of ss zs ≡ pos r → d ∣ r
combination-divides d ss zs r h e =
    let c = combination-parts d ss zs h in
    let f : c.0 - c.1 ≡ r = omega (arith, ints, e, c.4) in
    subst (λ x. d ∣ x) f (dvd-sub d c.2 c.3)

natural-value : (G z : List ℕ) → integer_value_of G (map pos z) ≡ pos (value_of G z)
natural-value [] z = refl
natural-value (g ∷ G) [] = refl
natural-value (g ∷ G) (c ∷ z) = omega (arith, ints, pos-*ℤ-pos c g, natural-value G z)

-- minus n times m
minus : (n m : ℕ) → (k : ℤ) × ((k *ℤ pos m) +ℤ pos (n * m) ≡ pos 0)
minus zero m = (pos 0, omega (arith, ints, pos-*ℤ-pos 0 m))
minus (suc n) m = (negsuc n, omega (arith, ints, negsuc-*ℤ-pos n m))

-- a member of G less a multiple of m, as a combination of m and the entries
pub combination-made : (G : List ℕ) (m c r : ℕ) → IsMember G (r + c * m) → (zs : List ℤ) × (length zs ≡ length (m ∷ G)) × (integer_value_of (m ∷ G) zs ≡ pos r)
combination-made G m c r h =
    let k = minus c m in
    let long : length (map pos h.0) ≡ length G = length-map h.0 pos ∙ h.1.places in
    let value : integer_value_of G (map pos h.0) ≡ pos (r + c * m) = natural-value G h.0 ∙ ap pos h.1.value in
    (k.0 ∷ map pos h.0, ap suc long, omega (arith, ints, k.1, value))
