-- A numerical semigroup that is neither symmetric nor pseudo-symmetric is the meet of two that add one gap each: its
-- Frobenius number F, and the greatest gap x below F for which F - x is a gap too.
use Rattle.std.proofs.Common.{◌≡◌, ℕ, suc, ◌+◌, ◌-◌, ◌<◌, ◌≤◌, true, false, List, subst, inl, inr, arith}
use Rattle.std.specs.Prelude.{◌⊎◌, pos}
use Rattle.std.proofs.lemmas.Bool.{cases_lt}
use Rattle.sg_defs.specs.Membership.{IsMember}
use Rattle.sg_defs.specs.Invariants.{IsFrobenius, IsGap}
use Rattle.sg_defs.specs.Symmetry.{IsIrreducible, IsReducible}
use Rattle.sg_defs.proofs.MembershipLemmas.{member-zero, member-add}
use Rattle.sg_irred.proofs.CountLemmas.{never, count-none, count-single, greatest-with}
use Rattle.sg_irred.proofs.MirrorLemmas.{pair_test, pairs, beyond, gap-within, paired-gaps, gaps-paired, paired-mirror}
use Rattle.sg_irred.proofs.AddedLemmas.{IsAddable, with_gap, added-member, added-holds, added-above}

module _ (G : List ℕ) (F : ℕ) (h : IsFrobenius G (pos F)) (split : (n : ℕ) → IsMember G n ⊎ IsGap G n) where
  addable-frobenius : 0 < F → IsAddable G F
  addable-frobenius l = record {
    positive = l;
    gap = h.outside;
    absorbed = λ s some q. beyond G F h split (F + s) (omega arith);
    double = beyond G F h split (F + F) (omega arith);
  }

  -- the greatest such gap can be added, where its double is past F
  addable-greatest : (x : ℕ) → pair_test G split F x ≡ true → ((y : ℕ) → x < y → y < suc F → pair_test G split F y ≡ false) → F < x + x → IsAddable G x
  addable-greatest x b last past = record {
    positive = omega arith;
    gap = (paired-gaps G F h split x b).0;
    absorbed = λ s some q. elim (split (x + s)) [
      | inl member ↦ member
      | inr gap ↦ elim (split (F - (x + s))) [
        | inl other ↦ absurd (moved s q gap other)
        | inr gap_too ↦ never (pair_test G split F (x + s)) (gaps-paired G F h split (x + s) gap gap_too) (last (x + s) (omega arith) (gap-within G F h split (x + s) gap))
      ]
    ];
    double = beyond G F h split (x + x) past;
  }
    where
      -- else F - x were a sum of members
      moved : (s : ℕ) → IsMember G s → IsGap G (x + s) → IsMember G (F - (x + s)) → ⊥
      moved s q gap other =
          let within : x + s < suc F = gap-within G F h split (x + s) gap in
          let e : (F - (x + s)) + s ≡ F - x = omega arith in
          (paired-gaps G F h split x b).1 (subst (IsMember G) e (member-add G (F - (x + s)) s other q))

  -- where there are two or more, the greatest is past half of F
  past-half : (x : ℕ) → x < suc F → pair_test G split F x ≡ true → ((y : ℕ) → x < y → y < suc F → pair_test G split F y ≡ false) → 2 ≤ pairs G split F → F < x + x
  past-half x l b last two = elim (cases_lt F (x + x)) [
    | inl past ↦ past
    | inr within ↦ absurd (omega (arith, two, count-single (pair_test G split F) (suc F) x (alone within)))
  ]
    where
      up_to : (y : ℕ) → y < suc F → pair_test G split F y ≡ true → y ≤ x
      up_to y m c = elim (cases_lt x y) [
        | inl above ↦ never (pair_test G split F y) c (last y above m)
        | inr below ↦ below
      ]

      alone : x + x ≤ F → (y : ℕ) → y < suc F → pair_test G split F y ≡ true → y ≡ x
      alone within y m c =
          let a = up_to y m c in
          let d = up_to (F - y) (omega arith) (paired-mirror G F h split y m c) in
          omega (arith, a, d)

  -- F itself is none, as 0 is a member
  below-frobenius : (x : ℕ) → x < suc F → pair_test G split F x ≡ true → x < F
  below-frobenius x l b = elim (cases_lt x F) [
    | inl less ↦ less
    | inr more ↦ absurd ((paired-gaps G F h split x b).1 (subst (IsMember G) (let e : 0 ≡ F - x = omega arith in e) (member-zero G)))
  ]

  -- two or more such gaps tell two semigroups above, of one gap more each, that meet in it
  pub parts : 2 ≤ pairs G split F → IsReducible G
  parts two = elim (greatest-with (pair_test G split F) (suc F)) [
    | inl found ↦ parted found.0 found.1 found.2 found.3
    | inr none ↦ absurd (omega (arith, two, count-none (pair_test G split F) (suc F) none))
  ]
    where
      parted : (x : ℕ) → x < suc F → pair_test G split F x ≡ true → ((y : ℕ) → x < y → y < suc F → pair_test G split F y ≡ false) → IsReducible G
      parted x l b last =
          let below = below-frobenius x l b in
          let some : 0 < F = omega arith in
          let first = addable-greatest x b last (past-half x l b last two) in
          let second = addable-frobenius some in
          let here = beyond G F h split (F + 1) (omega arith) in
          let next = beyond G F h split (F + 1 + 1) (omega arith) in
          record {
            first = with_gap G x;
            second = with_gap G F;
            first_above = added-above G x (F + 1) here next first;
            second_above = added-above G F (F + 1) here next second;
            meet = λ n. (
              (λ m. (added-holds G x n m, added-holds G F n m)),
              (λ m. elim (added-member G x n first m.0) [
                | inl member ↦ member
                | inr e ↦ elim (added-member G F n second m.1) [ inl member ↦ member | inr f ↦ absurd (omega (arith, below, e, f)) ]
              ]),
            );
          }

  -- so it is not irreducible
  pub reducible : 2 ≤ pairs G split F → IsIrreducible G → ⊥
  reducible two irreducible = let r = parts two in irreducible r.first r.second r.first_above r.second_above r.meet
