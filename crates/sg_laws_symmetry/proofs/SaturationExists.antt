-- Whether a numerical semigroup is saturated is decided, and it has a saturated closure: the numbers that each common divisor
-- of the generators up to them divides.
use Rattle.std.proofs.Common.{ℕ, suc, ◌+◌, ◌<◌, ◌≤◌, List, length, get_or, refl, subst, inl, inr, arith}
use Rattle.std.specs.Prelude.{Contains}
use Rattle.std.specs.Int.{◌∣◌}
use Rattle.std.proofs.lemmas.Bool.{cases_lt}
use Rattle.std.proofs.lemmas.Nat.Gcd.{le_of_dvd}
use Rattle.sg_defs.specs.Membership.{IsMember, IsNumericalSemigroup, IsMinimal, Generates}
use Rattle.sg_defs.specs.Closures.{IsSaturated, IsSaturatedClosure}
use Rattle.sg_classes.proofs.GeneratorLemmas.{contains-place, place-contains}
use Rattle.sg_closure.specs.Saturation.{IsInSaturation}
use Rattle.sg_closure.proofs.SaturatedLemmas.{saturation-sums, saturation-holds, saturation-saturated, saturation-least}
use Rattle.sg_laws_invariants.specs.Decided.{Decided, IsNumericalSet}
use Rattle.sg_laws_invariants.proofs.Decisions.{decided-implies, decided-same, decided-eq, decided-le, decided-divides, each-below}
use Rattle.sg_defs.proofs.DecidedLemmas.{member-decided}
use Rattle.sg_laws_invariants.proofs.BoundLemmas.{members-from, numerical-set, minimal_list-exists}

-- d divides the generators up to x
abbrev DividesLower : List ℕ → ℕ → ℕ → Type 0
DividesLower G x d = (g : ℕ) → Contains G g → g ≤ x → d ∣ g

lower-decided : (G : List ℕ) (x d : ℕ) → Decided (DividesLower G x d)
lower-decided G x d = decided-same ((k : ℕ) → k < length G → get_or G k 0 ≤ x → d ∣ get_or G k 0) (DividesLower G x d)
    (λ h g c l. let p = contains-place G g c in subst (λ y. d ∣ y) p.2 (h p.0 p.1 (omega (arith, l, p.2))))
    (λ h k l m. h (get_or G k 0) (place-contains G k l) m)
    (each-below (λ k. get_or G k 0 ≤ x → d ∣ get_or G k 0) (λ k. decided-implies (get_or G k 0 ≤ x) (d ∣ get_or G k 0) (decided-le (get_or G k 0) x) (decided-divides d (get_or G k 0))) (length G))

-- from the first generator on such divisors are at most as great as it
divided-decided : (G : List ℕ) → IsNumericalSemigroup G → (x : ℕ) → get_or G 0 0 ≤ x → Decided ((d : ℕ) → DividesLower G x d → d ∣ x)
divided-decided G s x low = decided-same ((d : ℕ) → d < suc (get_or G 0 0) → DividesLower G x d → d ∣ x) ((d : ℕ) → DividesLower G x d → d ∣ x)
    (λ h d all. h d (let l : d ≤ get_or G 0 0 = le_of_dvd (s.positive 0 0 s.not_empty) (all (get_or G 0 0) (place-contains G 0 s.not_empty) low) in omega arith) all)
    (λ h d l all. h d all)
    (each-below (λ d. DividesLower G x d → d ∣ x) (λ d. decided-implies (DividesLower G x d) (d ∣ x) (lower-decided G x d) (decided-divides d x)) (suc (get_or G 0 0)))

saturation-decided : (G : List ℕ) → IsNumericalSemigroup G → (x : ℕ) → Decided (IsInSaturation G x)
saturation-decided G s x = elim (decided-eq x 0) [
  | inl none ↦ inl (inl none)
  | inr some ↦ elim (decided-le (get_or G 0 0) x) [
    | inr small ↦ inr (λ h. elim h [ inl none ↦ some none | inr p ↦ small p.0 ])
    | inl low ↦ elim (divided-decided G s x low) [
      | inl divided ↦ inl (inr (low, divided))
      | inr not ↦ inr (λ h. elim h [ inl none ↦ some none | inr p ↦ not p.1 ])
    ]
  ]
]

module _ (G : List ℕ) (s : IsNumericalSemigroup G) (minimal : IsMinimal G) where
  saturation-set : IsNumericalSet (IsInSaturation G)
  saturation-set =
      let c = members-from G s in
      record { decided = saturation-decided G s; zero_in = inl refl; sums = saturation-sums G s minimal; from = c.0; all = λ n l. saturation-holds G s minimal n (c.1 n l) }

  -- a list with just these members is the closure
  closure-from : (M : List ℕ) → Generates (IsInSaturation G) M → IsSaturatedClosure G M
  closure-from M g = record {
    semigroup = g.semigroup;
    has = λ n ss zs r p h l f.
        (g.same (n + r)).0 (saturation-saturated G s minimal n ss zs r ((g.same n).1 p) (λ i k. let q = h i 0 k in ((g.same (get_or ss i 0)).1 q.0, q.1)) f);
    holds = λ n p. (g.same n).0 (saturation-holds G s minimal n p);
    least = λ K semigroup kind above n p. saturation-least G s minimal K kind above n ((g.same n).1 p);
  }

  minimal_closure-exists : (H : List ℕ) × IsSaturatedClosure G H
  minimal_closure-exists = let m = minimal_list-exists (IsInSaturation G) saturation-set in (m.0, closure-from m.0 m.1)

  -- it is saturated where it has all these numbers
  minimal_saturated-decided : Decided (IsSaturated G)
  minimal_saturated-decided =
      let c = members-from G s in
      elim (each-below (λ n. IsInSaturation G n → IsMember G n) (λ n. decided-implies (IsInSaturation G n) (IsMember G n) (saturation-decided G s n) (member-decided G n)) c.0) [
        | inr not ↦ inr (λ kind. not (λ n l p. saturation-least G s minimal G kind (λ k q. q) n p))
        | inl each ↦
            let back : (n : ℕ) → IsInSaturation G n → IsMember G n = λ n p. elim (cases_lt n c.0) [ inl less ↦ each n less p | inr more ↦ c.1 n more ] in
            inl (λ n ss zs r p h l f.
            back (n + r) (saturation-saturated G s minimal n ss zs r (saturation-holds G s minimal n p) (λ i k. let q = h i 0 k in (saturation-holds G s minimal (get_or ss i 0) q.0, q.1)) f))
      ]

-- lists with the same members have the same closure, and are saturated together
same-closure : (G N H : List ℕ) → ((n : ℕ) → IsMember G n → IsMember N n) → ((n : ℕ) → IsMember N n → IsMember G n) → IsSaturatedClosure N H → IsSaturatedClosure G H
same-closure G N H to from c = record {
  semigroup = c.semigroup;
  has = c.has;
  holds = λ n p. c.holds n (to n p);
  least = λ K semigroup kind above. c.least K semigroup kind (λ n p. above n (from n p));
}

-- lists with the same members are saturated together
pub same-saturated : (G N : List ℕ) → ((n : ℕ) → IsMember G n → IsMember N n) → ((n : ℕ) → IsMember N n → IsMember G n) → IsSaturated N → IsSaturated G
same-saturated G N to from kind n ss zs r p h l f = from (n + r) (kind n ss zs r (to n p) (λ i d k. let q = h i d k in (to (get_or ss i d) q.0, q.1)) l f)

-- there is a saturated closure
pub saturated_closure-exists : (G : List ℕ) → IsNumericalSemigroup G → (H : List ℕ) × IsSaturatedClosure G H
saturated_closure-exists G s =
    let m = minimal_list-exists (IsMember G) (numerical-set G s) in
    let r = minimal_closure-exists m.0 m.1.semigroup m.1.minimal in
    (r.0, same-closure G m.0 r.0 (λ n p. (m.1.same n).0 p) (λ n p. (m.1.same n).1 p) r.1)

-- whether it is saturated is decided: whether it is its own closure
pub saturated-decided : (G : List ℕ) → IsNumericalSemigroup G → Decided (IsSaturated G)
saturated-decided G s =
    let m = minimal_list-exists (IsMember G) (numerical-set G s) in
    decided-same (IsSaturated m.0) (IsSaturated G) (same-saturated G m.0 (λ n p. (m.1.same n).0 p) (λ n p. (m.1.same n).1 p))
    (same-saturated m.0 G (λ n p. (m.1.same n).1 p) (λ n p. (m.1.same n).0 p)) (minimal_saturated-decided m.0 m.1.semigroup m.1.minimal)
