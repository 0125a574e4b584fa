-- The greatest entry of the Apery list and the modulus give the Frobenius number.
use Rattle.std.proofs.Common.{◌≡◌, ℕ, zero, suc, ◌+◌, ◌-◌, ◌*◌, ◌%◌, ◌<◌, ◌≤◌, List, get_or, sym, subst, inl, inr, arith}
use Rattle.std.proofs.Math.Nat.{mod-le}
use Rattle.std.specs.Prelude.{max, ℤ, pos, negsuc, ◌-ℤ◌, ◌<ℤ◌, ◌≤ℤ◌}
use Rattle.std.proofs.lemmas.Bool.{cases_lt}
use Rattle.std.proofs.lemmas.Int.{ints}
use Rattle.std.proofs.lemmas.Nat.{mod_below}
use Rattle.sg_defs.specs.Membership.{IsMember, IsIntegerMember}
use Rattle.sg_defs.specs.Apery.{IsAperyEntry}
use Rattle.sg_defs.specs.Invariants.{IsFrobenius}
use Rattle.sg_apery.proofs.AperyLemmas.{member-above, congruent-split}
use Rattle.sg_invar.proofs.EntryLemmas.{entry-outside}
use Rattle.sg_invar.proofs.MultiplicityLemmas.{multiplicity-member}

-- the first entries so far, and the greatest of them
pub record IsGreatest (G : List ℕ) (m n greatest : ℕ) : Type 0 where
  pub place : ℕ
  pub is_entry : IsAperyEntry G m place greatest
  pub each : (k : ℕ) → k < n → (w : ℕ) × IsAperyEntry G m k w × (w ≤ greatest)

pub greatest-none : (G : List ℕ) (m w : ℕ) → IsAperyEntry G m 0 w → IsGreatest G m 0 w
greatest-none G m w e = record { place = 0; is_entry = e; each = λ k l. absurd (omega arith) }

pub greatest-more : (G : List ℕ) (m n greatest w : ℕ) → IsGreatest G m n greatest → IsAperyEntry G m n w → IsGreatest G m (n + 1) (max greatest w)
greatest-more G m n greatest w h e = elim (cases_lt greatest w) [
  | inl less ↦
      let same : w ≡ max greatest w = omega arith in
      record { place = n; is_entry = subst (IsAperyEntry G m n) same e; each = each }
  | inr more ↦
      let same : greatest ≡ max greatest w = omega arith in
      record { place = h.place; is_entry = subst (IsAperyEntry G m h.place) same h.is_entry; each = each }
]
  where
    each : (k : ℕ) → k < n + 1 → (v : ℕ) × IsAperyEntry G m k v × (v ≤ max greatest w)
    each k l = elim (cases_lt k n) [
      | inl less ↦ let r = h.each k less in (r.0, r.1, omega (arith, r.2))
      | inr more ↦ let same : n ≡ k = omega arith in (w, subst (λ j. IsAperyEntry G m j w) same e, omega arith)
    ]

-- once all entries were looked at
pub greatest-all : (G : List ℕ) (m n greatest : ℕ) → m ≡ get_or G 0 0 → n ≡ m → IsGreatest G (get_or G 0 0) n greatest → IsGreatest G m m greatest
greatest-all G m n greatest first all h = subst (λ k. IsGreatest G k m greatest) (sym first) (subst (λ n. IsGreatest G (get_or G 0 0) n greatest) all h)

module _ (G : List ℕ) (m greatest : ℕ) (positive : 0 < m) (first : m ≡ get_or G 0 0) (h : IsGreatest G m m greatest) where
  modulus : IsMember G m
  modulus = multiplicity-member G m positive first

  too_far : (n w k : ℕ) → w ≡ n + k * m → n < w → w ≤ greatest → greatest < n + m → ⊥
  too_far n w zero e less low high = omega arith
  too_far n w (suc k) e less low high = omega arith

  -- a natural that is greater than the greatest entry less the modulus is a member
  above : (n : ℕ) → greatest < n + m → IsMember G n
  above n l =
      let e = h.each (n % m) (mod_below n m positive) in
      elim (cases_lt n e.0) [
        | inl less ↦
            let s = congruent-split m n e.0 positive (sym e.1.residue) (omega arith) in
            absurd (too_far n e.0 s.0 s.1 less e.2 l)
        | inr more ↦ member-above G m e.0 n positive modulus e.1.member e.1.residue more
      ]

  -- the entry of the last class is at least the modulus less 1
  high : m ≤ greatest + 1
  high = let e = h.each (m - 1) (omega arith) in omega (arith, mod-le e.0 m, e.1.residue, e.2)

  outside : IsIntegerMember G (pos greatest -ℤ pos m) → ⊥
  outside = entry-outside G m h.place greatest h.is_entry

  over : (x : ℤ) → (pos greatest -ℤ pos m) <ℤ x → IsIntegerMember G x
  over (pos n) l = above n (omega (arith, ints, l))
  over (negsuc n) l = absurd (omega (arith, ints, l, high))

  pub frobenius-from_greatest : IsFrobenius G (pos greatest -ℤ pos m)
  frobenius-from_greatest = record { outside = outside; above = over }

  -- it is not below -1
  pub frobenius-low : negsuc 0 ≤ℤ (pos greatest -ℤ pos m)
  frobenius-low = omega (arith, ints, high)
