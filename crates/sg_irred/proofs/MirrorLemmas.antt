-- The gaps x for which F - x is a gap too, where F is the Frobenius number: twice the genus exceeds F by 1 and by their
-- number, since of each x and F - x at least one is a gap.
use Rattle.std.proofs.Common.{◌≡◌, ◌≢◌, ℕ, suc, ◌+◌, ◌-◌, ◌*◌, ◌<◌, ◌≤◌, Bool, true, false, List, refl, sym, ap, subst, ◌∙◌, inl, inr, arith}
use Rattle.std.specs.Prelude.{◌⊎◌, ℤ, pos, negsuc, ◌+ℤ◌, ◌-ℤ◌}
use Rattle.std.proofs.lemmas.Bool.{cases_lt, cases_eq}
use Rattle.std.proofs.lemmas.Int.{ints}
use Rattle.sg_defs.specs.Membership.{IsMember, IsIntegerMember}
use Rattle.sg_defs.specs.Invariants.{IsFrobenius, IsGap, IsGenus}
use Rattle.sg_defs.specs.Symmetry.{ExactlyOne, IsSymmetric, IsPseudoSymmetric}
use Rattle.sg_defs.proofs.OneLemmas.{one-frobenius}
use Rattle.sg_defs.proofs.MembershipLemmas.{member-add, integer-add}
use Rattle.sg_irred.proofs.CountLemmas.{count_below, both, told, both-true, true-both, count-reversed, count-pair, count-none, count-some, count-two, count-single, greatest-with, count-listed}

-- whether the second of two facts holds
abbrev pub is_second : {P Q : Type 0} → P ⊎ Q → Bool
is_second (inl p) = false
is_second (inr q) = true

second-true : (P : Type 0) (s : P ⊎ (P → ⊥)) → is_second s ≡ true → P → ⊥
second-true P (inl a) e b = absurd cc
second-true P (inr n) e b = n b

second-false : (P : Type 0) (s : P ⊎ (P → ⊥)) → is_second s ≡ false → P
second-false P (inl a) e = a
second-false P (inr n) e = absurd cc

second-told : (P : Type 0) (s : P ⊎ (P → ⊥)) → (P → ⊥) → is_second s ≡ true
second-told P (inl a) n = absurd (n a)
second-told P (inr m) n = refl

-- whether n is a gap, by a test that tells members from gaps
abbrev pub gap_test : (G : List ℕ) → ((n : ℕ) → IsMember G n ⊎ IsGap G n) → ℕ → Bool
gap_test G split n = is_second (split n)

-- whether F - n is one
abbrev pub mirror_test : (G : List ℕ) → ((n : ℕ) → IsMember G n ⊎ IsGap G n) → ℕ → ℕ → Bool
mirror_test G split F n = is_second (split (F - n))

-- whether both are
abbrev pub pair_test : (G : List ℕ) → ((n : ℕ) → IsMember G n ⊎ IsGap G n) → ℕ → ℕ → Bool
pair_test G split F = both (gap_test G split) (mirror_test G split F)

-- how many gaps up to F are such
abbrev pub pairs : (G : List ℕ) → ((n : ℕ) → IsMember G n ⊎ IsGap G n) → ℕ → ℕ
pairs G split F = count_below (pair_test G split F) (suc F)

module _ (G : List ℕ) (F : ℕ) (h : IsFrobenius G (pos F)) (split : (n : ℕ) → IsMember G n ⊎ IsGap G n) where
  -- past F are members alone
  pub beyond : (n : ℕ) → F < n → IsMember G n
  beyond n l = h.above (pos n) (omega (arith, ints))

  -- the two of a pair are not both members
  apart : (n : ℕ) → n ≤ F → IsMember G n → IsMember G (F - n) → ⊥
  apart n l a b = h.outside (subst (IsMember G) (let e : n + (F - n) ≡ F = omega arith in e) (member-add G n (F - n) a b))

  -- a gap is at most F
  pub gap-within : (n : ℕ) → IsGap G n → n < suc F
  gap-within n gap = elim (cases_lt n (suc F)) [
    | inl less ↦ less
    | inr more ↦ absurd (gap (beyond n (omega arith)))
  ]

  genus-count : (g : ℕ) → IsGenus G g → g ≡ count_below (gap_test G split) (suc F)
  genus-count g genus = sym genus.2 ∙ count-listed (IsGap G) (gap_test G split) (suc F) genus.0
      (λ x gap. second-told (IsMember G x) (split x) gap) (λ x e. second-true (IsMember G x) (split x) e) gap-within genus.1

  -- twice the genus is F + 1 and the number of gaps n for which F - n is a gap too
  pub twice-genus : (g : ℕ) → IsGenus G g → 2 * g ≡ suc F + pairs G split F
  twice-genus g genus =
      let r = count-reversed (gap_test G split) (mirror_test G split F) (suc F)
      (λ x y e. ap (gap_test G split) (let d : F - x ≡ y = omega arith in d)) in
      let c = count-pair (gap_test G split) (mirror_test G split F) (suc F)
      (λ x l e. second-told (IsMember G (F - x)) (split (F - x)) (apart x (omega arith) (second-false (IsMember G x) (split x) e))) in
      omega (arith, genus-count g genus, r, c)

  -- the test tells two gaps
  pub paired-gaps : (n : ℕ) → pair_test G split F n ≡ true → IsGap G n × IsGap G (F - n)
  paired-gaps n e =
      let b = both-true (gap_test G split n) (mirror_test G split F n) e in
      (second-true (IsMember G n) (split n) b.0, second-true (IsMember G (F - n)) (split (F - n)) b.1)

  -- of two gaps the test tells
  pub gaps-paired : (n : ℕ) → IsGap G n → IsGap G (F - n) → pair_test G split F n ≡ true
  gaps-paired n a b = true-both (gap_test G split n) (mirror_test G split F n) (second-told (IsMember G n) (split n) a) (second-told (IsMember G (F - n)) (split (F - n)) b)

  -- the test tells the same of F - n
  pub paired-mirror : (n : ℕ) → n < suc F → pair_test G split F n ≡ true → pair_test G split F (F - n) ≡ true
  paired-mirror n l e =
      let g = paired-gaps n e in
      gaps-paired (F - n) g.1 (subst (IsGap G) (let d : n ≡ F - (F - n) = omega arith in d) g.0)

  -- two different ones are at least two
  same-pair : (n k : ℕ) → n < suc F → k < suc F → pair_test G split F n ≡ true → pair_test G split F k ≡ true → pairs G split F ≤ 1 → n ≡ k
  same-pair n k l m a b few = elim (cases_lt n k) [
    | inl less ↦ absurd (omega (arith, few, count-two (pair_test G split F) (suc F) n k less m a b))
    | inr more ↦ elim (cases_lt k n) [
      | inl less ↦ absurd (omega (arith, few, count-two (pair_test G split F) (suc F) k n less l b a))
      | inr back ↦ omega arith
    ]
  ]

  -- of x and F - x exactly one is a member, unless both are gaps
  pub mirrored-unless : (x : ℤ) → ((n : ℕ) → x ≡ pos n → n < suc F → pair_test G split F n ≡ true → ⊥) → ExactlyOne (IsIntegerMember G x) (IsIntegerMember G (pos F -ℤ x))
  mirrored-unless x not = record {
    one = one x not;
    apart = λ a b. h.outside (subst (IsIntegerMember G) (let e : x +ℤ (pos F -ℤ x) ≡ pos F = omega (arith, ints) in e) (integer-add G x (pos F -ℤ x) a b));
  }
    where
      one : (x : ℤ) → ((n : ℕ) → x ≡ pos n → n < suc F → pair_test G split F n ≡ true → ⊥) → IsIntegerMember G x ⊎ IsIntegerMember G (pos F -ℤ x)
      one (negsuc a) not = inr (h.above (pos F -ℤ negsuc a) (omega (arith, ints)))
      one (pos n) not = elim (cases_lt F n) [
        | inl past ↦ inl (beyond n past)
        | inr within ↦ elim (split n) [
          | inl member ↦ inl member
          | inr gap ↦ elim (split (F - n)) [
            | inl other ↦ inr (subst (IsIntegerMember G) (let e : pos (F - n) ≡ pos F -ℤ pos n = omega (arith, ints) in e) other)
            | inr gap_too ↦ absurd (not n refl (omega arith) (gaps-paired n gap gap_too))
          ]
        ]
      ]

  -- where one of the two is a member they are no such pair
  one-not_paired : (n : ℕ) → n < suc F → IsIntegerMember G (pos n) ⊎ IsIntegerMember G (pos F -ℤ pos n) → pair_test G split F n ≡ true → ⊥
  one-not_paired n l (inl member) e = (paired-gaps n e).0 member
  one-not_paired n l (inr other) e =
      (paired-gaps n e).1 (subst (IsIntegerMember G) (let d : pos F -ℤ pos n ≡ pos (F - n) = omega (arith, ints) in d) other)

  -- without such gaps the semigroup is symmetric
  pub symmetric-from_none : pairs G split F ≡ 0 → IsSymmetric G
  symmetric-from_none none = record {
    frobenius = pos F;
    is_frobenius = h;
    mirrored = λ x. mirrored-unless x (λ n e l b. omega (arith, none, count-some (pair_test G split F) (suc F) n l b));
  }

  -- and a symmetric one has none
  pub none-from_symmetric : IsSymmetric G → pairs G split F ≡ 0
  none-from_symmetric s =
      let same = one-frobenius G s.frobenius (pos F) s.is_frobenius h in
      count-none (pair_test G split F) (suc F) (λ n l. elim (told (pair_test G split F n)) [
        | inl b ↦ absurd (one-not_paired n l (subst (λ f. IsIntegerMember G (pos n) ⊎ IsIntegerMember G (f -ℤ pos n)) same (s.mirrored (pos n)).one) b)
        | inr fails ↦ fails
      ])

  -- with one such gap it is pseudo-symmetric
  pub pseudo_symmetric-from_one : pairs G split F ≡ 1 → IsPseudoSymmetric G
  pseudo_symmetric-from_one one = elim (greatest-with (pair_test G split F) (suc F)) [
    | inl found ↦ from_pair found.0 found.1 found.2
    | inr none ↦ absurd (omega (arith, one, count-none (pair_test G split F) (suc F) none))
  ]
    where
      from_pair : (n : ℕ) → n < suc F → pair_test G split F n ≡ true → IsPseudoSymmetric G
      from_pair n l b =
          let alone : n ≡ F - n = same-pair n (F - n) l (omega arith) b (paired-mirror n l b) (omega (arith, one)) in
          let middle : F ≡ n + n = omega arith in
          record {
            half = pos n;
            is_frobenius = subst (λ f. IsFrobenius G (pos f)) middle h;
            mirrored = λ x differs. subst (λ f. ExactlyOne (IsIntegerMember G x) (IsIntegerMember G (pos f -ℤ x))) middle
                (mirrored-unless x (λ k e m c. differs (e ∙ ap pos (same-pair k n m l c b (omega (arith, one))))));
          }

  -- and a pseudo-symmetric one has one
  pub one-from_pseudo_symmetric : IsPseudoSymmetric G → pairs G split F ≡ 1
  one-from_pseudo_symmetric s =
      let same = one-frobenius G (s.half +ℤ s.half) (pos F) s.is_frobenius h in
      from_half s.half same (λ y differs. subst (λ f. IsIntegerMember G y ⊎ IsIntegerMember G (f -ℤ y)) same (s.mirrored y differs).one)
    where
      from_half : (x : ℤ) → x +ℤ x ≡ pos F → ((y : ℤ) → y ≢ x → IsIntegerMember G y ⊎ IsIntegerMember G (pos F -ℤ y)) → pairs G split F ≡ 1
      from_half (negsuc a) e m = absurd (omega (arith, ints, e))
      from_half (pos a) e m =
          let double : a + a ≡ F = omega (arith, ints, e) in
          let gap : IsGap G a = λ q. h.outside (subst (IsMember G) double (member-add G a a q q)) in
          let b = gaps-paired a gap (subst (IsGap G) (let d : a ≡ F - a = omega arith in d) gap) in
          let least = count-some (pair_test G split F) (suc F) a (omega arith) b in
          let most = count-single (pair_test G split F) (suc F) a (λ n l c. elim (cases_eq n a) [
            | inl same ↦ same
            | inr other ↦ absurd (one-not_paired n l (m (pos n) (λ d. other (omega (arith, ints, d)))) c)
          ]) in
          omega (arith, least, most)
