-- What lies below the conductor, and which multiples of a gap tell that it is fundamental.
use Rattle.std.proofs.Common.{◌≡◌, ℕ, ◌+◌, ◌-◌, ◌*◌, ◌/◌, ◌%◌, ◌<◌, ◌≤◌, List, sym, subst, inl, inr, arith}
use Rattle.std.specs.Prelude.{pos}
use Rattle.std.proofs.lemmas.Bool.{cases_lt, cases_eq}
use Rattle.std.proofs.lemmas.Int.{ints}
use Rattle.sg_defs.specs.Membership.{IsMember}
use Rattle.sg_defs.specs.Invariants.{IsConductor, IsGap, IsFundamentalGap}
use Rattle.sg_defs.proofs.MembershipLemmas.{member-add, member-times}

-- every number from the conductor on is a member
pub member-from_conductor : (G : List ℕ) (c n : ℕ) → IsConductor G c → c ≤ n → IsMember G n
member-from_conductor G c n h l = h.above (pos n) (omega (arith, ints))

pub gap-below_conductor : (G : List ℕ) (c n : ℕ) → IsConductor G c → IsGap G n → n < c
gap-below_conductor G c n h gap = elim (cases_lt n c) [
  | inl less ↦ less
  | inr more ↦ absurd (gap (member-from_conductor G c n h more))
]

-- twice and three times a number make each of its multiples by 2 or more
pub multiples : (G : List ℕ) (n k : ℕ) → IsMember G (2 * n) → IsMember G (3 * n) → 2 ≤ k → IsMember G (k * n)
multiples G n k two three l = elim (cases_eq (k % 2) 0) [
  | inl even ↦
      let half : (k / 2) * (2 * n) ≡ k * n = halves k (k / 2) n (omega arith) in
      subst (IsMember G) half (member-times G (k / 2) (2 * n) two)
  | inr odd ↦
      let rest : 3 * n + ((k - 3) / 2) * (2 * n) ≡ k * n = and_three k ((k - 3) / 2) n (omega arith) in
      subst (IsMember G) rest (member-add G (3 * n) (((k - 3) / 2) * (2 * n)) three (member-times G ((k - 3) / 2) (2 * n) two))
]
  where
    halves : (k a n : ℕ) → k ≡ 2 * a → a * (2 * n) ≡ k * n
    halves k a n e = subst (λ j. a * (2 * n) ≡ j * n) (sym e) (omega arith)

    and_three : (k a n : ℕ) → k ≡ 3 + 2 * a → 3 * n + a * (2 * n) ≡ k * n
    and_three k a n e = subst (λ j. 3 * n + a * (2 * n) ≡ j * n) (sym e) (omega arith)

pub fundamental-from_three : (G : List ℕ) (n : ℕ) → IsGap G n → IsMember G (2 * n) → IsMember G (3 * n) → IsFundamentalGap G n
fundamental-from_three G n gap two three = record { gap = gap; multiples = λ k l. multiples G n k two three l }
