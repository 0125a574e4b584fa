-- Symmetric, pseudo-symmetric and irreducible semigroups among N, <3, 4>, <3, 5>, <3, 5, 7> and <3, 7, 8>.
use Rattle.std.proofs.Common.{◌≡◌, ◌≢◌, ℕ, zero, suc, ◌+◌, [], ◌∷◌, refl, subst, inl, inr, arith}
use Rattle.std.specs.Prelude.{ℤ, pos, negsuc, ◌+ℤ◌, ◌-ℤ◌, ◌<ℤ◌, ◌⊎◌, ◌↔◌}
use Rattle.std.proofs.lemmas.Int.{ints}
use Rattle.sg_defs.specs.Membership.{IsMember, IsIntegerMember}
use Rattle.sg_defs.specs.Invariants.{IsFrobenius}
use Rattle.sg_defs.specs.Symmetry.{ExactlyOne, IsSymmetric, IsPseudoSymmetric, IsIrreducible}
use Rattle.sg_defs.proofs.MembershipLemmas.{member-entry, member-zero}
use Rattle.sg_defs.proofs.SymmetryLemmas.{symmetric-irreducible, pseudo_symmetric-irreducible}
use Rattle.sg_samples.proofs.InvariantSamples.{natural-frobenius, three_five-frobenius, three_five_seven-frobenius}
use Rattle.sg_samples.proofs.KnownSemigroups.{natural, three_four, three_four-in, three_four-out, three_five-in, three_five-out, three_five_seven, three_five_seven-above, three_five_seven-in, three_five_seven-out, three_seven_eight-in, three_seven_eight-out}

-- the first is a fact and the second is not, or the other way round
first_only : {P Q : Type 0} → P → (Q → ⊥) → ExactlyOne P Q
first_only p other = record { one = inl p; apart = λ x y. other y }

second_only : {P Q : Type 0} → Q → (P → ⊥) → ExactlyOne P Q
second_only q other = record { one = inr q; apart = λ x y. other x }

-- ---- symmetric

three_five-mirror : (x : ℤ) → ExactlyOne (IsIntegerMember (3 ∷ 5 ∷ []) x) (IsIntegerMember (3 ∷ 5 ∷ []) (pos 7 -ℤ x))
three_five-mirror (pos zero) = first_only (member-zero (3 ∷ 5 ∷ [])) (λ h. (three_five-out 7 h).3 refl)
three_five-mirror (pos (suc zero)) = second_only (three_five-in 6 (λ e. omega arith) (λ e. omega arith) (λ e. omega arith) (λ e. omega arith)) (λ h. (three_five-out 1 h).0 refl)
three_five-mirror (pos (suc (suc zero))) = second_only (member-entry (3 ∷ 5 ∷ []) 1 (omega arith)) (λ h. (three_five-out 2 h).1 refl)
three_five-mirror (pos (suc (suc (suc zero)))) = first_only (member-entry (3 ∷ 5 ∷ []) 0 (omega arith)) (λ h. (three_five-out 4 h).2 refl)
three_five-mirror (pos (suc (suc (suc (suc zero))))) = second_only (member-entry (3 ∷ 5 ∷ []) 0 (omega arith)) (λ h. (three_five-out 4 h).2 refl)
three_five-mirror (pos (suc (suc (suc (suc (suc zero)))))) = first_only (member-entry (3 ∷ 5 ∷ []) 1 (omega arith)) (λ h. (three_five-out 2 h).1 refl)
three_five-mirror (pos (suc (suc (suc (suc (suc (suc zero))))))) = first_only (three_five-in 6 (λ e. omega arith) (λ e. omega arith) (λ e. omega arith) (λ e. omega arith)) (λ h. (three_five-out 1 h).0 refl)
three_five-mirror (pos (suc (suc (suc (suc (suc (suc (suc zero)))))))) = second_only (member-zero (3 ∷ 5 ∷ [])) (λ h. (three_five-out 7 h).3 refl)
three_five-mirror (pos (suc (suc (suc (suc (suc (suc (suc (suc n))))))))) =
    let below : pos 7 -ℤ pos (suc (suc (suc (suc (suc (suc (suc (suc n)))))))) ≡ negsuc n = omega (arith, ints) in
    first_only (three_five-in (suc (suc (suc (suc (suc (suc (suc (suc n)))))))) (λ e. omega arith) (λ e. omega arith) (λ e. omega arith) (λ e. omega arith)) (λ h. subst (IsIntegerMember (3 ∷ 5 ∷ [])) below h)
three_five-mirror (negsuc k) = second_only (three_five-in (7 + suc k) (λ e. omega arith) (λ e. omega arith) (λ e. omega arith) (λ e. omega arith)) (λ h. h)

-- <3, 5> is symmetric
pub three_five-symmetric : IsSymmetric (3 ∷ 5 ∷ [])
three_five-symmetric = record { frobenius = pos 7; is_frobenius = three_five-frobenius; mirrored = three_five-mirror }

three_four-frobenius : IsFrobenius (3 ∷ 4 ∷ []) (pos 5)
three_four-frobenius = record { outside = λ h. (three_four-out 5 h).2 refl; above = above }
  where
    above : (x : ℤ) → pos 5 <ℤ x → IsIntegerMember (3 ∷ 4 ∷ []) x
    above (pos n) l = three_four-in n (λ e. omega (arith, ints, l)) (λ e. omega (arith, ints, l)) (λ e. omega (arith, ints, l))
    above (negsuc n) l = absurd (omega (arith, ints, l))

three_four-mirror : (x : ℤ) → ExactlyOne (IsIntegerMember (3 ∷ 4 ∷ []) x) (IsIntegerMember (3 ∷ 4 ∷ []) (pos 5 -ℤ x))
three_four-mirror (pos zero) = first_only (member-zero (3 ∷ 4 ∷ [])) (λ h. (three_four-out 5 h).2 refl)
three_four-mirror (pos (suc zero)) = second_only (member-entry (3 ∷ 4 ∷ []) 1 (omega arith)) (λ h. (three_four-out 1 h).0 refl)
three_four-mirror (pos (suc (suc zero))) = second_only (member-entry (3 ∷ 4 ∷ []) 0 (omega arith)) (λ h. (three_four-out 2 h).1 refl)
three_four-mirror (pos (suc (suc (suc zero)))) = first_only (member-entry (3 ∷ 4 ∷ []) 0 (omega arith)) (λ h. (three_four-out 2 h).1 refl)
three_four-mirror (pos (suc (suc (suc (suc zero))))) = first_only (member-entry (3 ∷ 4 ∷ []) 1 (omega arith)) (λ h. (three_four-out 1 h).0 refl)
three_four-mirror (pos (suc (suc (suc (suc (suc zero)))))) = second_only (member-zero (3 ∷ 4 ∷ [])) (λ h. (three_four-out 5 h).2 refl)
three_four-mirror (pos (suc (suc (suc (suc (suc (suc n))))))) =
    let below : pos 5 -ℤ pos (suc (suc (suc (suc (suc (suc n)))))) ≡ negsuc n = omega (arith, ints) in
    first_only (three_four-in (suc (suc (suc (suc (suc (suc n)))))) (λ e. omega arith) (λ e. omega arith) (λ e. omega arith)) (λ h. subst (IsIntegerMember (3 ∷ 4 ∷ [])) below h)
three_four-mirror (negsuc k) = second_only (three_four-in (5 + suc k) (λ e. omega arith) (λ e. omega arith) (λ e. omega arith)) (λ h. h)

pub three_four-symmetric : IsSymmetric (3 ∷ 4 ∷ [])
three_four-symmetric = record { frobenius = pos 5; is_frobenius = three_four-frobenius; mirrored = three_four-mirror }

-- x and -1 - x
natural-mirror : (x : ℤ) → ExactlyOne (IsIntegerMember (1 ∷ []) x) (IsIntegerMember (1 ∷ []) (negsuc 0 -ℤ x))
natural-mirror (pos zero) = first_only (natural 0) (λ h. h)
natural-mirror (pos (suc n)) = first_only (natural (suc n)) (λ h. h)
natural-mirror (negsuc k) = let e : pos k ≡ negsuc 0 -ℤ negsuc k = omega (arith, ints) in second_only (subst (IsIntegerMember (1 ∷ [])) e (natural k)) (λ h. h)

-- so is N
pub natural-symmetric : IsSymmetric (1 ∷ [])
natural-symmetric = record { frobenius = negsuc 0; is_frobenius = natural-frobenius; mirrored = natural-mirror }

-- neither 2 nor 4 - 2 is a member
pub not_symmetric : IsSymmetric (3 ∷ 5 ∷ 7 ∷ []) → ⊥
not_symmetric s = at s.frobenius s.is_frobenius ((s.mirrored (pos 2)).one)
  where
    gap : IsMember (3 ∷ 5 ∷ 7 ∷ []) 4 → ⊥
    gap h = (three_five_seven-out 4 h).2 refl

    two : IsMember (3 ∷ 5 ∷ 7 ∷ []) 2 → ⊥
    two h = (three_five_seven-out 2 h).1 refl

    at : (f : ℤ) → IsFrobenius (3 ∷ 5 ∷ 7 ∷ []) f → IsIntegerMember (3 ∷ 5 ∷ 7 ∷ []) (pos 2) ⊎ IsIntegerMember (3 ∷ 5 ∷ 7 ∷ []) (f -ℤ pos 2) → ⊥
    at f p (inl h) = two h
    at (pos zero) p (inr h) = gap (p.above (pos 4) (omega (arith, ints)))
    at (pos (suc zero)) p (inr h) = gap (p.above (pos 4) (omega (arith, ints)))
    at (pos (suc (suc zero))) p (inr h) = gap (p.above (pos 4) (omega (arith, ints)))
    at (pos (suc (suc (suc zero)))) p (inr h) = gap (p.above (pos 4) (omega (arith, ints)))
    at (pos (suc (suc (suc (suc zero))))) p (inr h) = two h
    at (pos (suc (suc (suc (suc (suc n)))))) p (inr h) = p.outside (three_five_seven-above (suc (suc (suc (suc (suc n))))) (omega arith))
    at (negsuc k) p (inr h) = gap (p.above (pos 4) (omega (arith, ints)))

-- ---- pseudo-symmetric

three_five_seven-mirror : (x : ℤ) → x ≢ pos 2 → ExactlyOne (IsIntegerMember (3 ∷ 5 ∷ 7 ∷ []) x) (IsIntegerMember (3 ∷ 5 ∷ 7 ∷ []) (pos 4 -ℤ x))
three_five_seven-mirror (pos zero) d = first_only (member-zero (3 ∷ 5 ∷ 7 ∷ [])) (λ h. (three_five_seven-out 4 h).2 refl)
three_five_seven-mirror (pos (suc zero)) d = second_only (member-entry (3 ∷ 5 ∷ 7 ∷ []) 0 (omega arith)) (λ h. (three_five_seven-out 1 h).0 refl)
three_five_seven-mirror (pos (suc (suc zero))) d = absurd (d refl)
three_five_seven-mirror (pos (suc (suc (suc zero)))) d = first_only (member-entry (3 ∷ 5 ∷ 7 ∷ []) 0 (omega arith)) (λ h. (three_five_seven-out 1 h).0 refl)
three_five_seven-mirror (pos (suc (suc (suc (suc zero))))) d = second_only (member-zero (3 ∷ 5 ∷ 7 ∷ [])) (λ h. (three_five_seven-out 4 h).2 refl)
three_five_seven-mirror (pos (suc (suc (suc (suc (suc n)))))) d =
    let below : pos 4 -ℤ pos (suc (suc (suc (suc (suc n))))) ≡ negsuc n = omega (arith, ints) in
    first_only (three_five_seven-above (suc (suc (suc (suc (suc n))))) (omega arith)) (λ h. subst (IsIntegerMember (3 ∷ 5 ∷ 7 ∷ [])) below h)
three_five_seven-mirror (negsuc k) d = second_only (three_five_seven-above (4 + suc k) (omega arith)) (λ h. h)

-- <3, 5, 7> is pseudo-symmetric
pub three_five_seven-pseudo_symmetric : IsPseudoSymmetric (3 ∷ 5 ∷ 7 ∷ [])
three_five_seven-pseudo_symmetric = record { half = pos 2; is_frobenius = three_five_seven-frobenius; mirrored = three_five_seven-mirror }

-- the Frobenius number 7 is odd
pub not_pseudo_symmetric : IsPseudoSymmetric (3 ∷ 5 ∷ []) → ⊥
not_pseudo_symmetric s = at s.half s.is_frobenius
  where
    seven : IsMember (3 ∷ 5 ∷ []) 7 → ⊥
    seven h = (three_five-out 7 h).3 refl

    at : (h : ℤ) → IsFrobenius (3 ∷ 5 ∷ []) (h +ℤ h) → ⊥
    at (pos zero) p = seven (p.above (pos 7) (omega (arith, ints)))
    at (pos (suc zero)) p = seven (p.above (pos 7) (omega (arith, ints)))
    at (pos (suc (suc zero))) p = seven (p.above (pos 7) (omega (arith, ints)))
    at (pos (suc (suc (suc zero)))) p = seven (p.above (pos 7) (omega (arith, ints)))
    at (pos (suc (suc (suc (suc n))))) p =
        p.outside (three_five-in (suc (suc (suc (suc n))) + suc (suc (suc (suc n)))) (λ e. omega arith) (λ e. omega arith) (λ e. omega arith) (λ e. omega arith))
    at (negsuc k) p = seven (p.above (pos 7) (omega (arith, ints)))

-- ---- irreducible

-- <3, 5> is irreducible
pub three_five-irreducible : IsIrreducible (3 ∷ 5 ∷ [])
three_five-irreducible = symmetric-irreducible (3 ∷ 5 ∷ []) three_five-symmetric

-- so is <3, 4>
pub three_four-irreducible : IsIrreducible (3 ∷ 4 ∷ [])
three_four-irreducible = symmetric-irreducible (3 ∷ 4 ∷ []) three_four-symmetric

-- so is N
pub natural-irreducible : IsIrreducible (1 ∷ [])
natural-irreducible = symmetric-irreducible (1 ∷ []) natural-symmetric

-- so is <3, 5, 7>
pub three_five_seven-irreducible : IsIrreducible (3 ∷ 5 ∷ 7 ∷ [])
three_five_seven-irreducible = pseudo_symmetric-irreducible (3 ∷ 5 ∷ 7 ∷ []) three_five_seven-pseudo_symmetric

-- <3, 7, 8> is the intersection of <3, 4> and <3, 5, 7>
pub in_both : (n : ℕ) → IsMember (3 ∷ 7 ∷ 8 ∷ []) n ↔ (IsMember (3 ∷ 4 ∷ []) n × IsMember (3 ∷ 5 ∷ 7 ∷ []) n)
in_both n = (down, up)
  where
    down : IsMember (3 ∷ 7 ∷ 8 ∷ []) n → IsMember (3 ∷ 4 ∷ []) n × IsMember (3 ∷ 5 ∷ 7 ∷ []) n
    down h = let o = three_seven_eight-out n h in (three_four-in n o.0 o.1 o.3, three_five_seven-in n o.0 o.1 o.2)

    up : IsMember (3 ∷ 4 ∷ []) n × IsMember (3 ∷ 5 ∷ 7 ∷ []) n → IsMember (3 ∷ 7 ∷ 8 ∷ []) n
    up h = let o = three_four-out n h.0 in let p = three_five_seven-out n h.1 in three_seven_eight-in n o.0 o.1 p.2 o.2

-- <3, 7, 8> is the meet of two
pub reducible : IsIrreducible (3 ∷ 7 ∷ 8 ∷ []) → ⊥
reducible h = h (3 ∷ 4 ∷ []) (3 ∷ 5 ∷ 7 ∷ [])
    (record { semigroup = three_four; holds = λ n m. ((in_both n).0 m).0; more = (4, member-entry (3 ∷ 4 ∷ []) 1 (omega arith), λ m. (three_seven_eight-out 4 m).2 refl) })
    (record { semigroup = three_five_seven; holds = λ n m. ((in_both n).0 m).1; more = (5, member-entry (3 ∷ 5 ∷ 7 ∷ []) 1 (omega arith), λ m. (three_seven_eight-out 5 m).3 refl) })
    in_both
