-- <3, 5, 7> is Arf, of maximal embedding dimension and saturated, and is the closure of <3, 5> of each kind.
use Rattle.std.proofs.Common.{◌≡◌, ◌≢◌, ℕ, zero, suc, ◌+◌, ◌-◌, ◌*◌, ◌<◌, ◌≤◌, List, [], ◌∷◌, refl, sym, subst, ◌∙◌, inl, inr, arith}
use Rattle.std.specs.Prelude.{ℤ, pos, negsuc, ◌+ℤ◌, ◌*ℤ◌, All}
use Rattle.std.proofs.lemmas.Bool.{cases_lt}
use Rattle.std.proofs.lemmas.Int.{ints}
use Rattle.std.proofs.lemmas.List.Elements.{All-nil, All-cons}
use Rattle.sg_defs.specs.Closures.{IsArf, IsMed, integer_value_of, IsSaturated, IsArfClosure, IsMedClosure, IsSaturatedClosure}
use Rattle.sg_defs.specs.Membership.{IsMember, IsNumericalSemigroup, IsMultiplicity, Holds}
use Rattle.sg_defs.proofs.OneLemmas.{one-multiplicity}
use Rattle.sg_defs.proofs.MembershipLemmas.{member-add, member-entry, member-times}
use Rattle.sg_samples.proofs.SmallLemmas.{by_three}
use Rattle.sg_samples.proofs.KnownSemigroups.{three_five_seven, three_five_seven-above, three_five_seven-in, three_five_seven-out}
use Rattle.sg_samples.proofs.MemberSamples.{more_generators, not_seven, three_five-multiplicity}

five : IsMember (3 ∷ 5 ∷ []) 5
five = member-entry (3 ∷ 5 ∷ []) 1 (omega arith)

three : IsMember (3 ∷ 5 ∷ []) 3
three = member-entry (3 ∷ 5 ∷ []) 0 (omega arith)

-- what has 3, 5 and 7 holds <3, 5, 7>
holds-three_five_seven : (K : List ℕ) → IsMember K 3 → IsMember K 5 → IsMember K 7 → Holds K (3 ∷ 5 ∷ 7 ∷ [])
holds-three_five_seven K a b c n h =
    let p = by_three 3 5 7 n h.0 h.1 in
    subst (IsMember K) p.4 (member-add K (p.0 * 3 + p.1 * 5) (p.2 * 7) (member-add K (p.0 * 3) (p.1 * 5) (member-times K p.0 3 a) (member-times K p.1 5 b)) (member-times K p.2 7 c))

-- ---- Arf

-- <3, 5, 7> is Arf
pub arf : IsArf (3 ∷ 5 ∷ 7 ∷ [])
arf x y z l m p q r =
    let a = three_five_seven-out x p in
    let b = three_five_seven-out y q in
    let c = three_five_seven-out z r in
    three_five_seven-in (x + y - z) (λ e. omega arith) (λ e. omega arith) (λ e. omega arith)

-- 5 + 5 - 3 = 7
pub not_arf : IsArf (3 ∷ 5 ∷ []) → ⊥
not_arf h = not_seven (h 5 5 3 (omega arith) (omega arith) five five three)

-- it is the Arf closure of <3, 5>
pub arf_closure : IsArfClosure (3 ∷ 5 ∷ []) (3 ∷ 5 ∷ 7 ∷ [])
arf_closure = record { semigroup = three_five_seven; has = arf; holds = more_generators; least = least }
  where
    least : (K : List ℕ) → IsNumericalSemigroup K → IsArf K → Holds K (3 ∷ 5 ∷ []) → Holds K (3 ∷ 5 ∷ 7 ∷ [])
    least K s a h = holds-three_five_seven K (h 3 three) (h 5 five) (a 5 5 3 (omega arith) (omega arith) (h 5 five) (h 5 five) (h 3 three))

-- ---- maximal embedding dimension

pub three_five_seven-multiplicity : IsMultiplicity (3 ∷ 5 ∷ 7 ∷ []) 3
three_five_seven-multiplicity = record { positive = omega arith; member = member-entry (3 ∷ 5 ∷ 7 ∷ []) 0 (omega arith); least = least }
  where
    least : (n : ℕ) → 0 < n → IsMember (3 ∷ 5 ∷ 7 ∷ []) n → 3 ≤ n
    least n l h = let o = three_five_seven-out n h in omega arith

-- <3, 5, 7> is of maximal embedding dimension
pub med : IsMed (3 ∷ 5 ∷ 7 ∷ [])
med = (3, three_five_seven-multiplicity, sums)
  where
    sums : (x y : ℕ) → 0 < x → 0 < y → IsMember (3 ∷ 5 ∷ 7 ∷ []) x → IsMember (3 ∷ 5 ∷ 7 ∷ []) y → IsMember (3 ∷ 5 ∷ 7 ∷ []) (x + y - 3)
    sums x y l m p q =
        let a = three_five_seven-out x p in
        let b = three_five_seven-out y q in
        three_five_seven-in (x + y - 3) (λ e. omega arith) (λ e. omega arith) (λ e. omega arith)

-- <3, 5> is not
pub not_med : IsMed (3 ∷ 5 ∷ []) → ⊥
not_med h =
    let e : 5 + 5 - h.0 ≡ 7 = let m = one-multiplicity (3 ∷ 5 ∷ []) h.0 3 h.1 three_five-multiplicity in omega arith in
    not_seven (subst (IsMember (3 ∷ 5 ∷ [])) e (h.2 5 5 (omega arith) (omega arith) five five))

-- its closure of that kind
pub med_closure : IsMedClosure (3 ∷ 5 ∷ []) (3 ∷ 5 ∷ 7 ∷ [])
med_closure = record { semigroup = three_five_seven; has = (med, same); holds = more_generators; least = least }
  where
    same : (m : ℕ) → IsMultiplicity (3 ∷ 5 ∷ []) m → IsMultiplicity (3 ∷ 5 ∷ 7 ∷ []) m
    same m h = subst (IsMultiplicity (3 ∷ 5 ∷ 7 ∷ [])) (one-multiplicity (3 ∷ 5 ∷ []) 3 m three_five-multiplicity h) three_five_seven-multiplicity

    least : (K : List ℕ) → IsNumericalSemigroup K → IsMed K × ((m : ℕ) → IsMultiplicity (3 ∷ 5 ∷ []) m → IsMultiplicity K m) → Holds K (3 ∷ 5 ∷ []) → Holds K (3 ∷ 5 ∷ 7 ∷ [])
    least K s p h =
        let m = one-multiplicity K p.0.0 3 p.0.1 (p.1 3 three_five-multiplicity) in
        let e : 5 + 5 - p.0.0 ≡ 7 = omega arith in
        holds-three_five_seven K (h 3 three) (h 5 five) (subst (IsMember K) e (p.0.2 5 5 (omega arith) (omega arith) (h 5 five) (h 5 five)))

-- ---- saturated

times_zero : (z : ℤ) → z *ℤ pos 0 ≡ pos 0
times_zero (pos a) = omega (arith, ints)
times_zero (negsuc a) = omega (arith, ints)

times_three : (z : ℤ) → z *ℤ pos 3 ≡ (z +ℤ z) +ℤ z
times_three (pos a) = omega (arith, ints)
times_three (negsuc a) = omega (arith, ints)

-- an integer combination of zeros and threes is three times an integer
threefold : (s : ℕ) → s ≤ 3 → (ss : List ℕ) (zs : List ℤ) → All (λ t. IsMember (3 ∷ 5 ∷ 7 ∷ []) t × (t ≤ s)) ss → (k : ℤ) × (integer_value_of ss zs ≡ (k +ℤ k) +ℤ k)
threefold s l [] zs all = (pos 0, refl)
threefold s l (t ∷ ss) [] all = (pos 0, refl)
threefold s l (t ∷ ss) (z ∷ zs) all =
    let rest = threefold s l ss zs (λ i d h. all (suc i) d (omega arith)) in
    let first = all 0 t (omega arith) in
    let o = three_five_seven-out t first.0 in
    one t o.0 o.1 (omega (arith, first.1)) rest.0 rest.1
  where
    one : (t : ℕ) → t ≢ 1 → t ≢ 2 → t ≤ 3 → (k : ℤ) → integer_value_of ss zs ≡ (k +ℤ k) +ℤ k → (k : ℤ) × ((z *ℤ pos t) +ℤ integer_value_of ss zs ≡ (k +ℤ k) +ℤ k)
    one zero a b c k e = (k, omega (arith, ints, times_zero z, e))
    one (suc zero) a b c k e = absurd (a refl)
    one (suc (suc zero)) a b c k e = absurd (b refl)
    one (suc (suc (suc zero))) a b c k e = (z +ℤ k, omega (arith, ints, times_three z, e))
    one (suc (suc (suc (suc t)))) a b c k e = absurd (omega arith)

-- <3, 5, 7> is saturated
pub saturated : IsSaturated (3 ∷ 5 ∷ 7 ∷ [])
saturated s ss zs r member all places value = elim (cases_lt s 5) [
  | inl small ↦
      let o = three_five_seven-out s member in
      let t = threefold s (omega arith) ss zs all in
      near t.0 (sym t.1 ∙ value) (omega arith)
  | inr great ↦ three_five_seven-above (s + r) (omega arith)
]
  where
    near : (k : ℤ) → (k +ℤ k) +ℤ k ≡ pos r → s < 4 → IsMember (3 ∷ 5 ∷ 7 ∷ []) (s + r)
    near (pos a) e l =
        let o = three_five_seven-out s member in
        let f : a + a + a ≡ r = omega (arith, ints, e) in
        three_five_seven-in (s + r) (λ g. omega arith) (λ g. omega arith) (λ g. omega arith)
    near (negsuc a) e l = absurd (omega (arith, ints, e))

-- 5 - 3 = 2, and 5 + 2 = 7
seven : (K : List ℕ) → IsSaturated K → IsMember K 3 → IsMember K 5 → IsMember K 7
seven K h a b = h 5 (3 ∷ 5 ∷ []) (negsuc 0 ∷ pos 1 ∷ []) 2 b
    (All-cons (λ t. IsMember K t × (t ≤ 5)) 3 (5 ∷ []) (a, omega arith) (All-cons (λ t. IsMember K t × (t ≤ 5)) 5 [] (b, omega arith) (All-nil (λ t. IsMember K t × (t ≤ 5)))))
    refl refl

-- <3, 5> is not
pub not_saturated : IsSaturated (3 ∷ 5 ∷ []) → ⊥
not_saturated h = not_seven (seven (3 ∷ 5 ∷ []) h three five)

-- its saturated closure
pub saturated_closure : IsSaturatedClosure (3 ∷ 5 ∷ []) (3 ∷ 5 ∷ 7 ∷ [])
saturated_closure = record { semigroup = three_five_seven; has = saturated; holds = more_generators; least = least }
  where
    least : (K : List ℕ) → IsNumericalSemigroup K → IsSaturated K → Holds K (3 ∷ 5 ∷ []) → Holds K (3 ∷ 5 ∷ 7 ∷ [])
    least K s a h = holds-three_five_seven K (h 3 three) (h 5 five) (seven K a (h 3 three) (h 5 five))
