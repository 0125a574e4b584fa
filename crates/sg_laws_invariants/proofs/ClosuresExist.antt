-- Whether a semigroup is Arf or of maximal embedding dimension is decided, and the least such above it exists.
use Rattle.std.proofs.Common.{ℕ, zero, suc, ◌+◌, ◌-◌, ◌<◌, ◌≤◌, List, ◌∷◌, length, get_or, subst, inl, inr, arith}
use Rattle.std.specs.Prelude.{◌⊎◌}
use Rattle.std.proofs.lemmas.Bool.{cases_lt}
use Rattle.sg_defs.specs.Membership.{IsMember, IsNumericalSemigroup, IsMultiplicity}
use Rattle.sg_defs.specs.Invariants.{IsGap}
use Rattle.sg_defs.specs.Closures.{IsArf, IsMed, IsArfClosure, IsMedClosure}
use Rattle.sg_defs.proofs.MembershipLemmas.{member-entry}
use Rattle.sg_classes.proofs.GeneratorLemmas.{member-split}
use Rattle.sg_laws_invariants.specs.Decided.{Decided}
use Rattle.sg_laws_invariants.proofs.Decisions.{decided-not, decided-and, decided-lt, decided-le, some-below}
use Rattle.sg_defs.proofs.OneLemmas.{one-multiplicity}
use Rattle.sg_defs.proofs.DecidedLemmas.{member-decided}
use Rattle.sg_laws_invariants.proofs.BoundLemmas.{members-from}
use Rattle.sg_laws_invariants.proofs.InvariantsExist.{multiplicity-exists}
use Rattle.sg_laws_invariants.proofs.LeastExists.{least-exists, more-holds}

-- ---- Arf

pub record IsArfBreak (K : List ℕ) (x y z : ℕ) : Type 0 where
  pub second : z ≤ y
  pub first : y ≤ x
  pub greatest : IsMember K x
  pub middle : IsMember K y
  pub lesser : IsMember K z
  pub out : IsGap K (x + y - z)

arf_break-decided : (K : List ℕ) (x y z : ℕ) → Decided (IsArfBreak K x y z)
arf_break-decided K x y z = elim (decided-and (z ≤ y) (y ≤ x) (decided-le z y) (decided-le y x)) [
  | inr not ↦ inr (λ h. not (h.second, h.first))
  | inl order ↦ elim (decided-and (IsMember K x) (IsMember K y) (member-decided K x) (member-decided K y)) [
    | inr not ↦ inr (λ h. not (h.greatest, h.middle))
    | inl both ↦ elim (decided-and (IsMember K z) (IsGap K (x + y - z)) (member-decided K z) (decided-not (IsMember K (x + y - z)) (member-decided K (x + y - z)))) [
      | inr not ↦ inr (λ h. not (h.lesser, h.out))
      | inl last ↦ inl (record { second = order.0; first = order.1; greatest = both.0; middle = both.1; lesser = last.0; out = last.1 })
    ]
  ]
]

-- it is Arf, or three members break the rule; those from the conductor on do not
pub arf-or_break : (K : List ℕ) → IsNumericalSemigroup K → IsArf K ⊎ ((x y z : ℕ) × IsArfBreak K x y z)
arf-or_break K s =
    let c = members-from K s in
    elim (some-below (λ x. (y : ℕ) × (y < suc x) × ((z : ℕ) × (z < suc y) × IsArfBreak K x y z))
    (λ x. some-below (λ y. (z : ℕ) × (z < suc y) × IsArfBreak K x y z) (λ y. some-below (IsArfBreak K x y) (arf_break-decided K x y) (suc y)) (suc x)) c.0) [
      | inl found ↦ inr (found.0, found.2.0, found.2.2.0, found.2.2.2)
      | inr none ↦ inl (λ x y z l m p q r. elim (member-decided K (x + y - z)) [
        | inl member ↦ member
        | inr gap ↦ elim (cases_lt x c.0) [
          | inr more ↦ c.1 (x + y - z) (omega arith)
          | inl less ↦ absurd (none (x, less, (y, omega arith, (z, omega arith, record { second = l; first = m; greatest = p; middle = q; lesser = r; out = gap }))))
        ]
      ])
    ]

-- whether it is Arf is decided
pub arf-decided : (K : List ℕ) → IsNumericalSemigroup K → Decided (IsArf K)
arf-decided K s = elim (arf-or_break K s) [
  | inl arf ↦ inl arf
  | inr b ↦ inr (λ arf. b.3.out (arf b.0 b.1 b.2 b.3.second b.3.first b.3.greatest b.3.middle b.3.lesser))
]

-- the Arf closure exists
pub arf_closure-exists : (G : List ℕ) → IsNumericalSemigroup G → (H : List ℕ) × IsArfClosure G H
arf_closure-exists G s = least-exists IsArf (λ K. Unit {0}) G s tt (λ K t h i. elim (arf-or_break K t) [
  | inl arf ↦ inl arf
  | inr b ↦ inr (
    b.0 + b.1 - b.2,
    record {
      gap = b.3.out;
      keeps = tt;
      wanted = λ L u arf above. arf b.0 b.1 b.2 b.3.second b.3.first (above b.0 b.3.greatest) (above b.1 b.3.middle) (above b.2 b.3.lesser);
    },
  )
])

-- ---- maximal embedding dimension

pub record IsMedBreak (K : List ℕ) (m x y : ℕ) : Type 0 where
  pub first_positive : 0 < x
  pub second_positive : 0 < y
  pub first : IsMember K x
  pub second : IsMember K y
  pub out : IsGap K (x + y - m)

med_break-decided : (K : List ℕ) (m x y : ℕ) → Decided (IsMedBreak K m x y)
med_break-decided K m x y = elim (decided-and (0 < x) (0 < y) (decided-lt 0 x) (decided-lt 0 y)) [
  | inr not ↦ inr (λ h. not (h.first_positive, h.second_positive))
  | inl some ↦ elim (decided-and (IsMember K x) (IsMember K y) (member-decided K x) (member-decided K y)) [
    | inr not ↦ inr (λ h. not (h.first, h.second))
    | inl both ↦ elim (member-decided K (x + y - m)) [
      | inl member ↦ inr (λ h. h.out member)
      | inr gap ↦ inl (record { first_positive = some.0; second_positive = some.1; first = both.0; second = both.1; out = gap })
    ]
  ]
]

-- it is of maximal embedding dimension, or two members break the rule
pub med-or_break : (K : List ℕ) (m : ℕ) → IsNumericalSemigroup K → IsMultiplicity K m → IsMed K ⊎ ((x y : ℕ) × IsMedBreak K m x y)
med-or_break K m s mult =
    let c = members-from K s in
    elim (some-below (λ x. (y : ℕ) × (y < c.0) × IsMedBreak K m x y) (λ x. some-below (IsMedBreak K m x) (med_break-decided K m x) c.0) c.0) [
      | inl found ↦ inr (found.0, found.2.0, found.2.2)
      | inr none ↦ inl (
        m,
        mult,
        λ x y l q p r. elim (member-decided K (x + y - m)) [
          | inl member ↦ member
          | inr gap ↦
              let a = mult.least x l p in
              let b = mult.least y q r in
              elim (cases_lt x c.0) [
                | inr more ↦ c.1 (x + y - m) (omega (arith, more, b))
                | inl less ↦ elim (cases_lt y c.0) [
                  | inr more ↦ c.1 (x + y - m) (omega (arith, more, a))
                  | inl small ↦ absurd (none (x, less, (y, small, record { first_positive = l; second_positive = q; first = p; second = r; out = gap })))
                ]
              ]
        ],
      )
    ]

-- whether the embedding dimension is maximal is decided
pub med-decided : (K : List ℕ) → IsNumericalSemigroup K → Decided (IsMed K)
med-decided K s =
    let m = multiplicity-exists K s in
    elim (med-or_break K m.0 s m.1) [
      | inl med ↦ inl med
      | inr b ↦ inr (λ med.
          let e = one-multiplicity K med.0 m.0 med.1 m.1 in
          b.2.out (subst (λ n. IsMember K (b.0 + b.1 - n)) e (med.2 b.0 b.1 b.2.first_positive b.2.second_positive b.2.first b.2.second)))
    ]

-- a generator from the multiplicity on leaves it
more-multiplicity : (K : List ℕ) (m x : ℕ) → IsNumericalSemigroup K → m ≤ x → IsMultiplicity K m → IsMultiplicity (x ∷ K) m
more-multiplicity K m x s l mult = record { positive = mult.positive; member = more-holds K x m mult.member; least = least }
  where
    entry : (i : ℕ) → i < length (x ∷ K) → m ≤ get_or (x ∷ K) i 0
    entry zero q = l
    entry (suc i) q = mult.least (get_or K i 0) (let p = s.positive i 0 (omega arith) in omega (arith, p)) (member-entry K i (omega arith))

    least : (n : ℕ) → 0 < n → IsMember (x ∷ K) n → m ≤ n
    least n q p = elim (member-split (x ∷ K) n p) [ inl e ↦ absurd (omega arith) | inr r ↦ let a = entry r.0 r.2 in omega (arith, a, r.4) ]

-- the closure of maximal embedding dimension exists
pub med_closure-exists : (G : List ℕ) → IsNumericalSemigroup G → (H : List ℕ) × IsMedClosure G H
med_closure-exists G s =
    let m = multiplicity-exists G s in
    least-exists (λ K. IsMed K × ((n : ℕ) → IsMultiplicity G n → IsMultiplicity K n)) (λ K. IsMultiplicity K m.0) G s m.1 (λ K t h mult. elim (med-or_break K m.0 t mult) [
      | inl med ↦ inl (med, λ n p. subst (IsMultiplicity K) (one-multiplicity G m.0 n m.1 p) mult)
      | inr b ↦
          let a = mult.least b.0 b.2.first_positive b.2.first in
          let d = mult.least b.1 b.2.second_positive b.2.second in
          inr (
            b.0 + b.1 - m.0,
            record {
              gap = b.2.out;
              keeps = more-multiplicity K m.0 (b.0 + b.1 - m.0) t (omega (arith, a, d)) mult;
              wanted = λ L u kind above.
                  let e = one-multiplicity L kind.0.0 m.0 kind.0.1 (kind.1 m.0 m.1) in
                  subst (λ n. IsMember L (b.0 + b.1 - n)) e
                  (kind.0.2 b.0 b.1 b.2.first_positive b.2.second_positive (above b.0 b.2.first) (above b.1 b.2.second));
            },
          )
    ])
