-- A candidate is the sum of an entry of any Apery list of the first generator and a later generator.
use Rattle.std.proofs.Common.{◌≡◌, ℕ, zero, suc, ◌+◌, ◌*◌, ◌%◌, ◌<◌, ◌≤◌, List, length, get_or, sym, inl, inr, ◌∙◌, arith}
use Rattle.std.specs.Prelude.{All}
use Rattle.std.proofs.lemmas.Bool.{cases_lt}
use Rattle.std.proofs.lemmas.Nat.{mod_below}
use Rattle.sg_defs.specs.Apery.{IsApery, IsAperyEntry}
use Rattle.sg_defs.specs.Membership.{IsMember}
use Rattle.sg_defs.proofs.MembershipLemmas.{member-add, member-entry, member-times}
use Rattle.sg_classes.proofs.AperyLemmas.{congruent-split}
use Rattle.sg_laws_families.specs.Candidates.{IsBettiCandidate}

-- a member of the class below an entry would make the entry less the modulus a member
not_below : (G : List ℕ) (m w x : ℕ) → 0 < m → IsMember G m → IsMember G x → x % m ≡ w % m → ((y : ℕ) → y + m ≡ w → IsMember G y → ⊥) → x < w → ⊥
not_below G m w x positive p q h least less =
    let s = congruent-split m x w positive h (omega arith) in
    by s.0 s.1
  where
    by : (k : ℕ) → w ≡ x + k * m → ⊥
    by zero e = omega (arith, less)
    by (suc k) e = least (x + k * m) (omega (arith, e)) (member-add G x (k * m) q (member-times G k m p))

-- two entries of one class are the same
pub one-entry : (G : List ℕ) (m i v w : ℕ) → 0 < m → IsMember G m → IsAperyEntry G m i v → IsAperyEntry G m i w → v ≡ w
one-entry G m i v w positive p a b = elim (cases_lt v w) [
  | inl less ↦ absurd (not_below G m w v positive p a.member (a.residue ∙ sym b.residue) b.least less)
  | inr more ↦ elim (cases_lt w v) [
    | inl less ↦ absurd (not_below G m v w positive p b.member (b.residue ∙ sym a.residue) a.least less)
    | inr same ↦ omega arith
  ]
]

-- the Apery element of a candidate stands in the list
pub candidate-entry : (G t : List ℕ) (n : ℕ) → All (λ g. 1 ≤ g) G → IsApery G (get_or G 0 0) t → (c : IsBettiCandidate G n) →
    (i : ℕ) × (i < length t) × (get_or t i 0 ≡ c.rest)
candidate-entry G t n all a c =
    let m = get_or G 0 0 in
    let long : 0 < length G = omega (arith, c.after_first, c.in_range) in
    let positive : 0 < m = all 0 0 long in
    let i = c.rest % m in
    let inside : i < m = mod_below c.rest m positive in
    let entry : IsAperyEntry G m i (get_or t i 0) = record { member = a.member i inside; residue = a.residue i inside; least = λ y e q. a.least i y inside e q } in
    (i, omega (arith, inside, a.entries), one-entry G m i (get_or t i 0) c.rest positive (member-entry G 0 long) entry c.entry)

pub candidate-listed : (G t : List ℕ) (n : ℕ) → All (λ g. 1 ≤ g) G → IsApery G (get_or G 0 0) t → IsBettiCandidate G n →
    (i j : ℕ) × (i < length t) × (0 < j) × (j < length G) × (n ≡ get_or t i 0 + get_or G j 0)
candidate-listed G t n all a c =
    let s = candidate-entry G t n all a c in
    (s.0, c.place, s.1, c.after_first, c.in_range, omega (arith, s.2, c.sum))
