-- Entries of an Apery list: each is the one number of its class that is a member and whose difference with the
-- modulus is none.
use Rattle.std.proofs.Common.{◌≡◌, ℕ, zero, suc, ◌+◌, ◌*◌, ◌%◌, ◌<◌, ◌≤◌, List, sym, subst, ◌∙◌, refl, inl, inr, arith}
use Rattle.std.specs.Prelude.{pos, ◌-ℤ◌}
use Rattle.std.proofs.lemmas.Bool.{cases_lt}
use Rattle.std.proofs.lemmas.Int.{ints}
use Rattle.sg_defs.specs.Membership.{IsMember, IsIntegerMember}
use Rattle.sg_defs.specs.Apery.{IsAperyEntry}
use Rattle.sg_defs.proofs.MembershipLemmas.{member-add, member-times}
use Rattle.sg_apery.proofs.AperyLemmas.{congruent-split}
use Rattle.sg_apery.proofs.SpanLemmas.{minus_cases}

-- an entry less the modulus is no member
pub entry-outside : (G : List ℕ) (m i w : ℕ) → IsAperyEntry G m i w → IsIntegerMember G (pos w -ℤ pos m) → ⊥
entry-outside G m i w e q = elim (minus_cases w m) [
  | inl p ↦ e.least p.0 p.1 (subst (IsIntegerMember G) p.2 q)
  | inr p ↦ subst (IsIntegerMember G) p.2 q
]

-- a member that is none once the modulus is taken away is the entry of its class
pub entry-from_outside : (G : List ℕ) (m w : ℕ) → IsMember G w → (IsIntegerMember G (pos w -ℤ pos m) → ⊥) → IsAperyEntry G m (w % m) w
entry-from_outside G m w member outside = record {
  member = member;
  residue = refl;
  least = λ y e q. outside (subst (IsIntegerMember G) (let f : pos y ≡ pos w -ℤ pos m = omega (arith, ints) in f) q);
}

-- no member of the class is below the entry
entry-below : (G : List ℕ) (m i v w : ℕ) → 0 < m → IsMember G m → IsAperyEntry G m i v → IsAperyEntry G m i w → w ≤ v
entry-below G m i v w positive modulus e f = elim (cases_lt v w) [
  | inl less ↦
      let s = congruent-split m v w positive (e.residue ∙ sym f.residue) (omega arith) in
      absurd (step s.0 s.1 less)
  | inr more ↦ more
]
  where
    step : (k : ℕ) → w ≡ v + k * m → v < w → ⊥
    step zero s less = omega arith
    step (suc k) s less =
        let at : (v + k * m) + m ≡ w = omega arith in
        f.least (v + k * m) at (member-add G v (k * m) e.member (member-times G k m modulus))

pub entry-unique : (G : List ℕ) (m i v w : ℕ) → 0 < m → IsMember G m → IsAperyEntry G m i v → IsAperyEntry G m i w → v ≡ w
entry-unique G m i v w positive modulus e f =
    let a = entry-below G m i v w positive modulus e f in
    let b = entry-below G m i w v positive modulus f e in
    omega arith
