-- Each invariant of a numerical semigroup exists, and each condition that it lists is decided.
use Rattle.std.proofs.Common.{◌≡◌, ℕ, zero, suc, ◌+◌, ◌*◌, ◌%◌, ◌<◌, ◌≤◌, List, [], ◌∷◌, ◌++◌, length, get_or, refl, sym, ap, subst, ◌∙◌, inl, inr, arith}
use Rattle.std.specs.Prelude.{ℤ, pos, negsuc, ◌+ℤ◌, ◌-ℤ◌, ◌<ℤ◌, ◌≤ℤ◌}
use Rattle.std.proofs.lemmas.Bool.{cases_eq}
use Rattle.std.proofs.lemmas.Int.{ints}
use Rattle.std.proofs.lemmas.List.{length_push}
use Rattle.std.proofs.lemmas.Nat.{mod-mul-add}
use Rattle.std.proofs.Math.Nat.{add-mod_right, mul-le-mul_left}
use Rattle.sg_defs.specs.Apery.{IsApery, IsAperyEntry}
use Rattle.sg_defs.specs.Listings.{Lists, ListsIntegers}
use Rattle.sg_defs.specs.Membership.{IsMember, IsIntegerMember, IsNumericalSemigroup, IsMultiplicity}
use Rattle.sg_defs.specs.Invariants.{IsFrobenius, IsConductor, IsGap, IsGenus, AreSmallElements, IsPseudoFrobenius, IsSpecialGap, IsFundamentalGap, IsType}
use Rattle.sg_defs.proofs.MembershipLemmas.{member-entry}
use Rattle.sg_classes.proofs.GeneratorLemmas.{each-push}
use Rattle.sg_defs.proofs.DecidedLemmas.{member-decided}
use Rattle.sg_invar.proofs.GapLemmas.{gap-below_conductor, fundamental-from_three}
use Rattle.sg_invar.proofs.PseudoFrobeniusLemmas.{pseudo_frobenius-from_generators, pseudo_frobenius-generators, pseudo_frobenius-low, outside-below}
use Rattle.sg_laws_invariants.specs.Decided.{Decided}
use Rattle.sg_laws_invariants.specs.Invariants.{HasInvariants}
use Rattle.sg_laws_invariants.proofs.Decisions.{decided-not, decided-and, decided-lt, decided-le, decided-eq, each-below, least-exists}
use Rattle.sg_laws_invariants.proofs.ListsExist.{list-exists, integers-exist}
use Rattle.sg_laws_invariants.proofs.BoundLemmas.{members-from, numerical-set, minimal_list-exists}

-- ---- the conductor, by going down to the first number that is no member

conductor-from : (G : List ℕ) (c : ℕ) → ((n : ℕ) → c ≤ n → IsMember G n) → (d : ℕ) × IsConductor G d
conductor-from G zero all = (0, subst (IsFrobenius G) (let e : negsuc 0 ≡ pos 0 -ℤ pos 1 = omega (arith, ints) in e) (record { outside = λ h. h; above = above }))
  where
    above : (x : ℤ) → negsuc 0 <ℤ x → IsIntegerMember G x
    above (pos n) l = all n (omega arith)
    above (negsuc n) l = absurd (omega (arith, ints, l))
conductor-from G (suc c) all = elim (member-decided G c) [
  | inl here ↦ conductor-from G c (λ n l. elim (cases_eq c n) [
    | inl same ↦ subst (IsMember G) same here
    | inr other ↦ all n (omega arith)
  ])
  | inr gap ↦ (suc c, subst (IsFrobenius G) (let e : pos c ≡ pos (suc c) -ℤ pos 1 = omega (arith, ints) in e) (record { outside = gap; above = above }))
]
  where
    above : (x : ℤ) → pos c <ℤ x → IsIntegerMember G x
    above (pos n) l = all n (omega (arith, ints, l))
    above (negsuc n) l = absurd (omega (arith, ints, l))

-- there is a conductor
pub conductor-exists : (G : List ℕ) → IsNumericalSemigroup G → (c : ℕ) × IsConductor G c
conductor-exists G s = let r = members-from G s in conductor-from G r.0 r.1

-- there is a Frobenius number
pub frobenius-exists : (G : List ℕ) → IsNumericalSemigroup G → (f : ℤ) × IsFrobenius G f
frobenius-exists G s = let r = conductor-exists G s in (pos r.0 -ℤ pos 1, r.1)

-- there is a multiplicity
pub multiplicity-exists : (G : List ℕ) → IsNumericalSemigroup G → (m : ℕ) × IsMultiplicity G m
multiplicity-exists G s =
    let r = least-exists (λ n. (0 < n) × IsMember G n) (λ n. decided-and (0 < n) (IsMember G n) (decided-lt 0 n) (member-decided G n))
    (get_or G 0 0) (s.positive 0 0 s.not_empty, member-entry G 0 s.not_empty) in
    (r.0, record { positive = r.1.0; member = r.1.1; least = λ n l p. r.2 n (l, p) })

-- ---- the conditions

-- membership of integers is decided
pub integer_member-decided : (G : List ℕ) (x : ℤ) → Decided (IsIntegerMember G x)
integer_member-decided G (pos n) = member-decided G n
integer_member-decided G (negsuc n) = inr (λ h. h)

pub gap-decided : (G : List ℕ) (n : ℕ) → Decided (IsGap G n)
gap-decided G n = decided-not (IsMember G n) (member-decided G n)

pub pseudo_frobenius-decided : (G : List ℕ) → IsNumericalSemigroup G → (x : ℤ) → Decided (IsPseudoFrobenius G x)
pseudo_frobenius-decided G s x = elim (integer_member-decided G x) [
  | inl member ↦ inr (λ p. p.outside member)
  | inr outside ↦ elim (each-below (λ i. IsIntegerMember G (x +ℤ pos (get_or G i 0))) (λ i. integer_member-decided G (x +ℤ pos (get_or G i 0))) (length G)) [
    | inl each ↦ inl (pseudo_frobenius-from_generators G x outside each)
    | inr not ↦ inr (λ p. not (pseudo_frobenius-generators G x s p))
  ]
]

pub special_gap-decided : (G : List ℕ) → IsNumericalSemigroup G → (x : ℤ) → Decided (IsSpecialGap G x)
special_gap-decided G s x = elim (pseudo_frobenius-decided G s x) [
  | inr not ↦ inr (λ p. not p.pseudo_frobenius)
  | inl found ↦ elim (integer_member-decided G (x +ℤ x)) [
    | inr not ↦ inr (λ p. not p.double)
    | inl double ↦ inl (record { pseudo_frobenius = found; double = double })
  ]
]

pub fundamental_gap-decided : (G : List ℕ) (n : ℕ) → Decided (IsFundamentalGap G n)
fundamental_gap-decided G n = elim (member-decided G n) [
  | inl member ↦ inr (λ p. p.gap member)
  | inr gap ↦ elim (member-decided G (2 * n)) [
    | inr not ↦ inr (λ p. not (p.multiples 2 (omega arith)))
    | inl two ↦ elim (member-decided G (3 * n)) [
      | inr not ↦ inr (λ p. not (p.multiples 3 (omega arith)))
      | inl three ↦ inl (fundamental-from_three G n gap two three)
    ]
  ]
]

-- ---- the lists

-- the gaps are listed
pub gaps-exist : (G : List ℕ) → IsNumericalSemigroup G → (l : List ℕ) × Lists (IsGap G) l
gaps-exist G s = let c = conductor-exists G s in list-exists (IsGap G) (gap-decided G) c.0 (λ n gap. gap-below_conductor G c.0 n c.1 gap)

-- the fundamental gaps are listed
pub fundamental_gaps-exist : (G : List ℕ) → IsNumericalSemigroup G → (l : List ℕ) × Lists (IsFundamentalGap G) l
fundamental_gaps-exist G s =
    let c = conductor-exists G s in list-exists (IsFundamentalGap G) (fundamental_gap-decided G) c.0 (λ n p. gap-below_conductor G c.0 n c.1 p.gap)

-- the members up to the conductor are listed
pub small_elements-exist : (G : List ℕ) → IsNumericalSemigroup G → (l : List ℕ) × AreSmallElements G l
small_elements-exist G s =
    let c = conductor-exists G s in
    let r = list-exists (λ n. IsMember G n × (n ≤ c.0)) (λ n. decided-and (IsMember G n) (n ≤ c.0) (member-decided G n) (decided-le n c.0)) (c.0 + 1) (λ n p. omega (arith, p.1)) in
    (r.0, (c.0, c.1, r.1))

-- there is a genus
pub genus-exists : (G : List ℕ) → IsNumericalSemigroup G → (g : ℕ) × IsGenus G g
genus-exists G s = let r = gaps-exist G s in (length r.0, (r.0, r.1, refl))

frobenius-low : (G : List ℕ) (f : ℤ) → IsFrobenius G f → negsuc 0 ≤ℤ f
frobenius-low G (pos n) h = omega (arith, ints)
frobenius-low G (negsuc zero) h = omega (arith, ints)
frobenius-low G (negsuc (suc n)) h = absurd (h.above (negsuc 0) (omega (arith, ints)))

-- pseudo-Frobenius numbers are from -1 on, and at most the Frobenius number
module _ (G : List ℕ) (s : IsNumericalSemigroup G) (P : ℤ → Type 0) (decided : (x : ℤ) → Decided (P x)) (part : (x : ℤ) → P x → IsPseudoFrobenius G x) where
  pseudo-list : (l : List ℤ) × ListsIntegers P l
  pseudo-list =
      let c = conductor-exists G s in
      let low = frobenius-low G (pos c.0 -ℤ pos 1) c.1 in
      integers-exist P decided 1 (c.0 + 1)
      (λ x p. let l : negsuc 0 ≤ℤ x = pseudo_frobenius-low G (pos c.0 -ℤ pos 1) x c.1 low (part x p) in omega (arith, ints, l))
      (λ x p. let l : x ≤ℤ (pos c.0 -ℤ pos 1) = outside-below G (pos c.0 -ℤ pos 1) x c.1 (part x p).outside in omega (arith, ints, l))

-- the pseudo-Frobenius numbers are listed
pub pseudo_frobenius-exist : (G : List ℕ) → IsNumericalSemigroup G → (l : List ℤ) × ListsIntegers (IsPseudoFrobenius G) l
pseudo_frobenius-exist G s = pseudo-list G s (IsPseudoFrobenius G) (pseudo_frobenius-decided G s) (λ x p. p)

-- the special gaps are listed
pub special_gaps-exist : (G : List ℕ) → IsNumericalSemigroup G → (l : List ℤ) × ListsIntegers (IsSpecialGap G) l
special_gaps-exist G s = pseudo-list G s (IsSpecialGap G) (special_gap-decided G s) (λ x p. p.pseudo_frobenius)

-- there is a type
pub type-exists : (G : List ℕ) → IsNumericalSemigroup G → (n : ℕ) × IsType G n
type-exists G s = let r = pseudo_frobenius-exist G s in (length r.0, (r.0, r.1, refl))

-- ---- Apery lists

-- the least member of a residue class
pub entry-exists : (G : List ℕ) → IsNumericalSemigroup G → (n i : ℕ) → i < n → (w : ℕ) × IsAperyEntry G n i w
entry-exists G s n i inside =
    let c = members-from G s in
    let positive : 1 ≤ n = omega arith in
    let far : c.0 ≤ c.0 * n + i = let m = mul-le-mul_left c.0 positive in omega (arith, m) in
    let r = least-exists (λ w. IsMember G w × (w % n ≡ i)) (λ w. decided-and (IsMember G w) (w % n ≡ i) (member-decided G w) (decided-eq (w % n) i))
    (c.0 * n + i) (c.1 (c.0 * n + i) far, mod-mul-add c.0 n i inside) in
    (r.0, record { member = r.1.0; residue = r.1.1; least = λ y e p. let l = r.2 y (p, same y r.0 e r.1.1) in omega (arith, l, e) })
  where
    same : (y w : ℕ) → y + n ≡ w → w % n ≡ i → y % n ≡ i
    same y w e h = sym (add-mod_right y n) ∙ (ap (λ x. x % n) e ∙ h)

-- the first k entries of an Apery list
entries-exist : (G : List ℕ) → IsNumericalSemigroup G → (n k : ℕ) → k ≤ n → (t : List ℕ) × (length t ≡ k) × ((i : ℕ) → i < k → IsAperyEntry G n i (get_or t i 0))
entries-exist G s n zero l = ([], refl, λ i q. absurd (omega arith))
entries-exist G s n (suc k) l =
    let before = entries-exist G s n k (omega arith) in
    let here = entry-exists G s n k (omega arith) in (
      before.0 ++ here.0 ∷ [],
      (let e : length (before.0 ++ here.0 ∷ []) ≡ suc k = omega (arith, length_push before.0 here.0, before.1) in e),
      λ i q. each-push (λ i w. IsAperyEntry G n i w) before.0 here.0 k before.1 before.2 here.1 i (omega arith),
    )

-- there is an Apery list modulo each number
pub apery-exists : (G : List ℕ) → IsNumericalSemigroup G → (n : ℕ) → (t : List ℕ) × IsApery G n t
apery-exists G s n =
    let r = entries-exist G s n n (omega arith) in
    (r.0, record { entries = r.1; member = λ i l. (r.2 i l).member; residue = λ i l. (r.2 i l).residue; least = λ i y l. (r.2 i l).least y })

-- so each invariant is there
pub invariants-exist : (G : List ℕ) → IsNumericalSemigroup G → HasInvariants G
invariants-exist G s = record {
  minimal = minimal_list-exists (IsMember G) (numerical-set G s);
  apery = λ n l p. apery-exists G s n;
  multiplicity = multiplicity-exists G s;
  frobenius = frobenius-exists G s;
  conductor = conductor-exists G s;
  gaps = gaps-exist G s;
  genus = genus-exists G s;
  small_elements = small_elements-exist G s;
  fundamental_gaps = fundamental_gaps-exist G s;
  pseudo_frobenius = pseudo_frobenius-exist G s;
  special_gaps = special_gaps-exist G s;
  type = type-exists G s;
}
