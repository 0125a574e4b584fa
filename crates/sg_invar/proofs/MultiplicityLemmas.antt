-- The first generator is a member.
use Rattle.std.proofs.Common.{◌≡◌, ℕ, ◌<◌, List, length, get_or, sym, subst, inl, inr, arith}
use Rattle.std.proofs.lemmas.Bool.{cases_lt}
use Rattle.std.proofs.lemmas.List.{get_or_past}
use Rattle.sg_defs.specs.Membership.{IsMember}
use Rattle.sg_defs.proofs.MembershipLemmas.{member-entry}

-- where it is above 0 there is one
long : (G : List ℕ) (m : ℕ) → 0 < m → m ≡ get_or G 0 0 → 0 < length G
long G m positive first = elim (cases_lt 0 (length G)) [
  | inl less ↦ less
  | inr none ↦ absurd (omega (arith, positive, first, get_or_past G 0 0 none))
]

pub multiplicity-member : (G : List ℕ) (m : ℕ) → 0 < m → m ≡ get_or G 0 0 → IsMember G m
multiplicity-member G m positive first = subst (IsMember G) (sym first) (member-entry G 0 (long G m positive first))
