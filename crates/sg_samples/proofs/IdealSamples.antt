-- The ideal that 0 and 1 generate over <3, 5>, and the canonical ideal of <3, 7, 8>.
use Rattle.std.proofs.Common.{◌≡◌, ◌≢◌, ℕ, zero, suc, ◌+◌, List, [], ◌∷◌, refl, sym, subst, ◌∙◌, inl, inr, arith}
use Rattle.std.specs.Prelude.{ℤ, pos, negsuc, ◌+ℤ◌, ◌-ℤ◌, ◌<ℤ◌, ◌⊎◌, ◌↔◌, AllPairs, Contains}
use Rattle.std.proofs.lemmas.Int.{ints}
use Rattle.std.proofs.lemmas.List.Elements.{All-nil, All-cons}
use Rattle.sg_defs.specs.Ideals.{IsIdealMember, IsInSum, IsInDifference, IsInMultiple, IsInCanonical, IsInMaximal, IsMinimalIdeal}
use Rattle.sg_defs.specs.Invariants.{IsFrobenius}
use Rattle.sg_defs.specs.Membership.{IsMember, IsIntegerMember}
use Rattle.sg_defs.proofs.MembershipLemmas.{member-entry, member-zero, integer-add}
use Rattle.sg_samples.proofs.SmallLemmas.{contains-nil, here, later, pairs-cons, pairs-nil}
use Rattle.sg_defs.proofs.ListLemmas.{contains-cases}
use Rattle.sg_samples.proofs.KnownSemigroups.{three_five-in, three_five-out, three_seven_eight-above, three_seven_eight-out}
use Rattle.sg_defs.proofs.OneLemmas.{one-frobenius}

-- ---- the ideal of 0 and 1

zero_there : Contains (pos 0 ∷ pos 1 ∷ []) (pos 0)
zero_there = here (pos 0) (pos 1 ∷ [])

one_there : Contains (pos 0 ∷ pos 1 ∷ []) (pos 1)
one_there = later (pos 0) (pos 1 ∷ []) (pos 1) (here (pos 1) [])

-- a member of the ideal of 0 and 1 is a member of the semigroup, or one more than one
pub by_generator : (G : List ℕ) (x : ℤ) → IsIdealMember G (pos 0 ∷ pos 1 ∷ []) x → IsIntegerMember G (x -ℤ pos 0) ⊎ IsIntegerMember G (x -ℤ pos 1)
by_generator G x h = elim (contains-cases (pos 0) (pos 1 ∷ []) h.0 h.1) [
  | inl e ↦ inl (subst (λ g. IsIntegerMember G (x -ℤ g)) (sym e) h.2)
  | inr c ↦ elim (contains-cases (pos 1) [] h.0 c) [
    | inl e ↦ inr (subst (λ g. IsIntegerMember G (x -ℤ g)) (sym e) h.2)
    | inr d ↦ absurd (contains-nil h.0 d)
  ]
]

-- 4 = 1 + 3
pub four_in : IsIdealMember (3 ∷ 5 ∷ []) (pos 0 ∷ pos 1 ∷ []) (pos 4)
four_in = (pos 1, one_there, member-entry (3 ∷ 5 ∷ []) 0 (omega arith))

-- 1 is a generator
pub one_in : IsIdealMember (3 ∷ 5 ∷ []) (pos 0 ∷ pos 1 ∷ []) (pos 1)
one_in = (pos 1, one_there, member-zero (3 ∷ 5 ∷ []))

-- 2 is neither 0 nor 1 and a member
pub two_out : IsIdealMember (3 ∷ 5 ∷ []) (pos 0 ∷ pos 1 ∷ []) (pos 2) → ⊥
two_out h = elim (by_generator (3 ∷ 5 ∷ []) (pos 2) h) [ inl m ↦ (three_five-out 2 m).1 refl | inr m ↦ (three_five-out 1 m).0 refl ]

-- ---- operations

-- 2 = 1 + 1
pub two_in_sum : IsInSum (IsIdealMember (3 ∷ 5 ∷ []) (pos 0 ∷ pos 1 ∷ [])) (IsIdealMember (3 ∷ 5 ∷ []) (pos 0 ∷ pos 1 ∷ [])) (pos 2)
two_in_sum = (pos 1, pos 1, one_in, one_in, refl)

not_negative : (k : ℕ) → IsIdealMember (3 ∷ 5 ∷ []) (pos 0 ∷ pos 1 ∷ []) (negsuc k) → ⊥
not_negative k h =
    let e : negsuc k -ℤ pos 0 ≡ negsuc k = omega (arith, ints) in
    elim (by_generator (3 ∷ 5 ∷ []) (negsuc k) h) [ inl m ↦ subst (IsIntegerMember (3 ∷ 5 ∷ [])) e m | inr m ↦ m ]

-- no negative integer is a sum
pub negative_out_of_sum : IsInSum (IsIdealMember (3 ∷ 5 ∷ []) (pos 0 ∷ pos 1 ∷ [])) (IsIdealMember (3 ∷ 5 ∷ []) (pos 0 ∷ pos 1 ∷ [])) (negsuc 0) → ⊥
negative_out_of_sum h = at h.0 h.1 h.2 h.3 h.4
  where
    at : (y z : ℤ) → IsIdealMember (3 ∷ 5 ∷ []) (pos 0 ∷ pos 1 ∷ []) y → IsIdealMember (3 ∷ 5 ∷ []) (pos 0 ∷ pos 1 ∷ []) z → negsuc 0 ≡ y +ℤ z → ⊥
    at (pos a) (pos b) p q e = omega (arith, ints, e)
    at (negsuc a) z p q e = not_negative a p
    at (pos a) (negsuc b) p q e = not_negative b q

-- the pseudo-Frobenius number moves the maximal ideal into the semigroup, and 4 moves 3 to the gap 7
pub seven_in_difference : IsInDifference (IsIntegerMember (3 ∷ 5 ∷ [])) (IsInMaximal (3 ∷ 5 ∷ [])) (pos 7)
seven_in_difference (pos zero) h = absurd (h.0 refl)
seven_in_difference (pos (suc n)) h = three_five-in (7 + suc n) (λ e. omega arith) (λ e. omega arith) (λ e. omega arith) (λ e. omega arith)
seven_in_difference (negsuc k) h = absurd h.1

-- 3 is a member but 0
pub three_in_maximal : IsInMaximal (3 ∷ 5 ∷ []) (pos 3)
three_in_maximal = ((λ e. omega (arith, ints, e)), member-entry (3 ∷ 5 ∷ []) 0 (omega arith))

-- 0 is left out
pub zero_out_of_maximal : IsInMaximal (3 ∷ 5 ∷ []) (pos 0) → ⊥
zero_out_of_maximal h = h.0 refl

-- 4 + 3 is a gap
pub four_out_of_difference : IsInDifference (IsIntegerMember (3 ∷ 5 ∷ [])) (IsInMaximal (3 ∷ 5 ∷ [])) (pos 4) → ⊥
four_out_of_difference h = (three_five-out 7 (h (pos 3) three_in_maximal)).3 refl

-- 2 is a sum of two members
pub two_in_double : IsInMultiple 2 (IsIdealMember (3 ∷ 5 ∷ []) (pos 0 ∷ pos 1 ∷ [])) (pos 2)
two_in_double = (pos 1, pos 1, one_in, (pos 1, pos 0, one_in, refl, refl), refl)

-- and not of one
pub two_out_of_single : IsInMultiple 1 (IsIdealMember (3 ∷ 5 ∷ []) (pos 0 ∷ pos 1 ∷ [])) (pos 2) → ⊥
two_out_of_single h =
    let e : h.0 ≡ pos 2 = omega (arith, ints, h.3, h.4) in
    two_out (subst (IsIdealMember (3 ∷ 5 ∷ []) (pos 0 ∷ pos 1 ∷ [])) e h.2)

-- ---- the canonical ideal

frobenius : IsFrobenius (3 ∷ 7 ∷ 8 ∷ []) (pos 5)
frobenius = record { outside = λ h. (three_seven_eight-out 5 h).3 refl; above = above }
  where
    above : (x : ℤ) → pos 5 <ℤ x → IsIntegerMember (3 ∷ 7 ∷ 8 ∷ []) x
    above (pos n) l = three_seven_eight-above n (omega (arith, ints, l))
    above (negsuc n) l = absurd (omega (arith, ints, l))

three : IsMember (3 ∷ 7 ∷ 8 ∷ []) 3
three = member-entry (3 ∷ 7 ∷ 8 ∷ []) 0 (omega arith)

none : IsMember (3 ∷ 7 ∷ 8 ∷ []) 0
none = member-zero (3 ∷ 7 ∷ 8 ∷ [])

-- the canonical ideal of <3, 7, 8>
pub canonical : (x : ℤ) → IsInCanonical (3 ∷ 7 ∷ 8 ∷ []) x ↔ IsIdealMember (3 ∷ 7 ∷ 8 ∷ []) (pos 0 ∷ pos 1 ∷ []) x
canonical x = (there, back x)
  where
    at : (x : ℤ) → (IsIntegerMember (3 ∷ 7 ∷ 8 ∷ []) (pos 5 -ℤ x) → ⊥) → IsIdealMember (3 ∷ 7 ∷ 8 ∷ []) (pos 0 ∷ pos 1 ∷ []) x
    at (pos zero) h = (pos 0, zero_there, none)
    at (pos (suc zero)) h = (pos 1, one_there, none)
    at (pos (suc (suc zero))) h = absurd (h three)
    at (pos (suc (suc (suc zero)))) h = (pos 0, zero_there, three)
    at (pos (suc (suc (suc (suc zero))))) h = (pos 1, one_there, three)
    at (pos (suc (suc (suc (suc (suc zero)))))) h = absurd (h none)
    at (pos (suc (suc (suc (suc (suc (suc n))))))) h =
        let same : pos (suc (suc (suc (suc (suc (suc n)))))) ≡ pos (suc (suc (suc (suc (suc (suc n)))))) -ℤ pos 0 = omega (arith, ints) in
        (pos 0, zero_there, subst (IsIntegerMember (3 ∷ 7 ∷ 8 ∷ [])) same (three_seven_eight-above (suc (suc (suc (suc (suc (suc n)))))) (omega arith)))
    at (negsuc k) h = absurd (h (three_seven_eight-above (5 + suc k) (omega arith)))

    there : IsInCanonical (3 ∷ 7 ∷ 8 ∷ []) x → IsIdealMember (3 ∷ 7 ∷ 8 ∷ []) (pos 0 ∷ pos 1 ∷ []) x
    there h = at x (subst (λ f. IsIntegerMember (3 ∷ 7 ∷ 8 ∷ []) (f -ℤ x) → ⊥) (one-frobenius (3 ∷ 7 ∷ 8 ∷ []) h.0 (pos 5) h.1 frobenius) h.2)

    -- with x - g and 5 - x the number 5 - g would be a member, which is 5 or 4
    back : (x : ℤ) → IsIdealMember (3 ∷ 7 ∷ 8 ∷ []) (pos 0 ∷ pos 1 ∷ []) x → IsInCanonical (3 ∷ 7 ∷ 8 ∷ []) x
    back x h = (pos 5, frobenius, λ m. apart x (by_generator (3 ∷ 7 ∷ 8 ∷ []) x h) m)
      where
        apart : (x : ℤ) → IsIntegerMember (3 ∷ 7 ∷ 8 ∷ []) (x -ℤ pos 0) ⊎ IsIntegerMember (3 ∷ 7 ∷ 8 ∷ []) (x -ℤ pos 1) → IsIntegerMember (3 ∷ 7 ∷ 8 ∷ []) (pos 5 -ℤ x) → ⊥
        apart x (inl p) m = let e : (x -ℤ pos 0) +ℤ (pos 5 -ℤ x) ≡ pos 5 = omega (arith, ints) in (three_seven_eight-out 5 (subst (IsIntegerMember (3 ∷ 7 ∷ 8 ∷ [])) e (integer-add (3 ∷ 7 ∷ 8 ∷ []) (x -ℤ pos 0) (pos 5 -ℤ x) p m))).3 refl
        apart x (inr p) m = let e : (x -ℤ pos 1) +ℤ (pos 5 -ℤ x) ≡ pos 4 = omega (arith, ints) in (three_seven_eight-out 4 (subst (IsIntegerMember (3 ∷ 7 ∷ 8 ∷ [])) e (integer-add (3 ∷ 7 ∷ 8 ∷ []) (x -ℤ pos 1) (pos 5 -ℤ x) p m))).2 refl

-- ---- minimal lists

-- neither 0 nor 1 is to spare
pub minimal : IsMinimalIdeal (3 ∷ 5 ∷ []) (pos 0 ∷ pos 1 ∷ [])
minimal = record { ascending = ascending; needed = λ x y p q. needed x y (contains-cases (pos 0) (pos 1 ∷ []) x p) (contains-cases (pos 0) (pos 1 ∷ []) y q) }
  where
    ascending : AllPairs (λ x y. x <ℤ y) (pos 0 ∷ pos 1 ∷ [])
    ascending = pairs-cons (λ x y. x <ℤ y) (pos 0) (pos 1 ∷ []) (All-cons (λ y. pos 0 <ℤ y) (pos 1) [] (omega (arith, ints)) (All-nil (λ y. pos 0 <ℤ y)))
        (pairs-cons (λ x y. x <ℤ y) (pos 1) [] (All-nil (λ y. pos 1 <ℤ y)) (pairs-nil (λ x y. x <ℤ y)))

    last : (x : ℤ) → Contains (pos 1 ∷ []) x → pos 1 ≡ x
    last x h = elim (contains-cases (pos 1) [] x h) [ inl e ↦ e | inr d ↦ absurd (contains-nil x d) ]

    needed : (x y : ℤ) → (pos 0 ≡ x) ⊎ Contains (pos 1 ∷ []) x → (pos 0 ≡ y) ⊎ Contains (pos 1 ∷ []) y → x ≢ y → IsIntegerMember (3 ∷ 5 ∷ []) (x -ℤ y) → ⊥
    needed x y (inl a) (inl b) d m = d (sym a ∙ b)
    needed x y (inl a) (inr b) d m = let e : x -ℤ y ≡ negsuc 0 = omega (arith, ints, a, last y b) in subst (IsIntegerMember (3 ∷ 5 ∷ [])) e m
    needed x y (inr a) (inl b) d m = let e : x -ℤ y ≡ pos 1 = omega (arith, ints, last x a, b) in (three_five-out 1 (subst (IsIntegerMember (3 ∷ 5 ∷ [])) e m)).0 refl
    needed x y (inr a) (inr b) d m = d (sym (last x a) ∙ last y b)

-- 3 - 0 is a member
pub not_minimal : IsMinimalIdeal (3 ∷ 5 ∷ []) (pos 0 ∷ pos 3 ∷ []) → ⊥
not_minimal h = h.needed (pos 3) (pos 0) (later (pos 0) (pos 3 ∷ []) (pos 3) (here (pos 3) [])) (here (pos 0) (pos 3 ∷ [])) (λ e. omega (arith, ints, e)) (member-entry (3 ∷ 5 ∷ []) 0 (omega arith))
