-- The invariants of N, <3, 5> and <3, 5, 7>.
use Rattle.std.proofs.Common.{◌≡◌, ℕ, zero, suc, ◌+◌, ◌*◌, ◌<◌, ◌≤◌, [], ◌∷◌, refl, sym, subst, inl, inr, arith}
use Rattle.std.specs.Prelude.{ℤ, pos, negsuc, ◌+ℤ◌, ◌<ℤ◌, ◌⊎◌, All, AllPairs, Contains}
use Rattle.std.specs.List.Sorted.{IsStrictlyIncreasing}
use Rattle.std.proofs.lemmas.Int.{ints}
use Rattle.std.proofs.lemmas.List.Elements.{All-nil, All-cons}
use Rattle.sg_defs.specs.Listings.{Lists, ListsIntegers}
use Rattle.sg_defs.specs.Membership.{IsMember, IsIntegerMember}
use Rattle.sg_defs.specs.Invariants.{IsFrobenius, IsGap, IsGenus, AreSmallElements, IsPseudoFrobenius, IsSpecialGap, IsFundamentalGap, IsType}
use Rattle.sg_defs.proofs.MembershipLemmas.{member-entry, member-zero}
use Rattle.sg_samples.proofs.SmallLemmas.{ascending-cons, ascending-nil, ascending-one, contained, contains-nil, here, later, listed, pairs-cons, pairs-nil}
use Rattle.sg_defs.proofs.ListLemmas.{contains-cases}
use Rattle.sg_samples.proofs.KnownSemigroups.{natural, three_five-in, three_five-out, three_five_seven-above, three_five_seven-out}

-- ---- Frobenius numbers and conductors

-- that of <3, 5>
pub three_five-frobenius : IsFrobenius (3 ∷ 5 ∷ []) (pos 7)
three_five-frobenius = record { outside = λ h. (three_five-out 7 h).3 refl; above = above }
  where
    above : (x : ℤ) → pos 7 <ℤ x → IsIntegerMember (3 ∷ 5 ∷ []) x
    above (pos n) l = three_five-in n (λ e. omega (arith, ints, l)) (λ e. omega (arith, ints, l)) (λ e. omega (arith, ints, l)) (λ e. omega (arith, ints, l))
    above (negsuc n) l = absurd (omega (arith, ints, l))

-- 4 is not, as 7 is above it
pub not_four : IsFrobenius (3 ∷ 5 ∷ []) (pos 4) → ⊥
not_four f = (three_five-out 7 (f.above (pos 7) (omega (arith, ints)))).3 refl

-- that of N
pub natural-frobenius : IsFrobenius (1 ∷ []) (negsuc 0)
natural-frobenius = record { outside = λ h. h; above = above }
  where
    above : (x : ℤ) → negsuc 0 <ℤ x → IsIntegerMember (1 ∷ []) x
    above (pos n) l = natural n
    above (negsuc n) l = absurd (omega (arith, ints, l))

-- that of <3, 5, 7>
pub three_five_seven-frobenius : IsFrobenius (3 ∷ 5 ∷ 7 ∷ []) (pos 4)
three_five_seven-frobenius = record { outside = λ h. (three_five_seven-out 4 h).2 refl; above = above }
  where
    above : (x : ℤ) → pos 4 <ℤ x → IsIntegerMember (3 ∷ 5 ∷ 7 ∷ []) x
    above (pos n) l = three_five_seven-above n (omega (arith, ints, l))
    above (negsuc n) l = absurd (omega (arith, ints, l))

-- ---- gaps

-- the gaps of <3, 5>
pub three_five-gaps : Lists (IsGap (3 ∷ 5 ∷ [])) (1 ∷ 2 ∷ 4 ∷ 7 ∷ [])
three_five-gaps = listed (IsGap (3 ∷ 5 ∷ [])) (1 ∷ 2 ∷ 4 ∷ 7 ∷ []) ascending all there
  where
    ascending : IsStrictlyIncreasing (1 ∷ 2 ∷ 4 ∷ 7 ∷ [])
    ascending = ascending-cons 1 2 (4 ∷ 7 ∷ []) (omega arith) (ascending-cons 2 4 (7 ∷ []) (omega arith) (ascending-cons 4 7 [] (omega arith) (ascending-one 7)))

    all : All (IsGap (3 ∷ 5 ∷ [])) (1 ∷ 2 ∷ 4 ∷ 7 ∷ [])
    all = All-cons (IsGap (3 ∷ 5 ∷ [])) 1 (2 ∷ 4 ∷ 7 ∷ []) (λ h. (three_five-out 1 h).0 refl)
        (All-cons (IsGap (3 ∷ 5 ∷ [])) 2 (4 ∷ 7 ∷ []) (λ h. (three_five-out 2 h).1 refl)
        (All-cons (IsGap (3 ∷ 5 ∷ [])) 4 (7 ∷ []) (λ h. (three_five-out 4 h).2 refl)
        (All-cons (IsGap (3 ∷ 5 ∷ [])) 7 [] (λ h. (three_five-out 7 h).3 refl) (All-nil (IsGap (3 ∷ 5 ∷ []))))))

    there : (n : ℕ) → IsGap (3 ∷ 5 ∷ []) n → Contains (1 ∷ 2 ∷ 4 ∷ 7 ∷ []) n
    there zero g = absurd (g (member-zero (3 ∷ 5 ∷ [])))
    there (suc zero) g = here 1 (2 ∷ 4 ∷ 7 ∷ [])
    there (suc (suc zero)) g = later 1 (2 ∷ 4 ∷ 7 ∷ []) 2 (here 2 (4 ∷ 7 ∷ []))
    there (suc (suc (suc zero))) g = absurd (g (member-entry (3 ∷ 5 ∷ []) 0 (omega arith)))
    there (suc (suc (suc (suc zero)))) g = later 1 (2 ∷ 4 ∷ 7 ∷ []) 4 (later 2 (4 ∷ 7 ∷ []) 4 (here 4 (7 ∷ [])))
    there (suc (suc (suc (suc (suc zero))))) g = absurd (g (member-entry (3 ∷ 5 ∷ []) 1 (omega arith)))
    there (suc (suc (suc (suc (suc (suc zero)))))) g = absurd (g (three_five-in 6 (λ e. omega arith) (λ e. omega arith) (λ e. omega arith) (λ e. omega arith)))
    there (suc (suc (suc (suc (suc (suc (suc zero))))))) g = later 1 (2 ∷ 4 ∷ 7 ∷ []) 7 (later 2 (4 ∷ 7 ∷ []) 7 (later 4 (7 ∷ []) 7 (here 7 [])))
    there (suc (suc (suc (suc (suc (suc (suc (suc n)))))))) g =
        absurd (g (three_five-in (suc (suc (suc (suc (suc (suc (suc (suc n)))))))) (λ e. omega arith) (λ e. omega arith) (λ e. omega arith) (λ e. omega arith)))

-- they are four
pub three_five-genus : IsGenus (3 ∷ 5 ∷ []) 4
three_five-genus = (1 ∷ 2 ∷ 4 ∷ 7 ∷ [], three_five-gaps, refl)

-- N has none
pub natural-genus : IsGenus (1 ∷ []) 0
natural-genus = ([], listed (IsGap (1 ∷ [])) [] ascending-nil (All-nil (IsGap (1 ∷ []))) (λ n g. absurd (g (natural n))), refl)

-- ---- small elements

-- the members of <3, 5, 7> up to the conductor
pub three_five_seven-small : AreSmallElements (3 ∷ 5 ∷ 7 ∷ []) (0 ∷ 3 ∷ 5 ∷ [])
three_five_seven-small = (5, three_five_seven-frobenius, listed (λ n. IsMember (3 ∷ 5 ∷ 7 ∷ []) n × (n ≤ 5)) (0 ∷ 3 ∷ 5 ∷ []) ascending all there)
  where
    ascending : IsStrictlyIncreasing (0 ∷ 3 ∷ 5 ∷ [])
    ascending = ascending-cons 0 3 (5 ∷ []) (omega arith) (ascending-cons 3 5 [] (omega arith) (ascending-one 5))

    all : All (λ n. IsMember (3 ∷ 5 ∷ 7 ∷ []) n × (n ≤ 5)) (0 ∷ 3 ∷ 5 ∷ [])
    all = All-cons (λ n. IsMember (3 ∷ 5 ∷ 7 ∷ []) n × (n ≤ 5)) 0 (3 ∷ 5 ∷ []) (member-zero (3 ∷ 5 ∷ 7 ∷ []), omega arith)
        (All-cons (λ n. IsMember (3 ∷ 5 ∷ 7 ∷ []) n × (n ≤ 5)) 3 (5 ∷ []) (member-entry (3 ∷ 5 ∷ 7 ∷ []) 0 (omega arith), omega arith)
        (All-cons (λ n. IsMember (3 ∷ 5 ∷ 7 ∷ []) n × (n ≤ 5)) 5 [] (member-entry (3 ∷ 5 ∷ 7 ∷ []) 1 (omega arith), omega arith)
        (All-nil (λ n. IsMember (3 ∷ 5 ∷ 7 ∷ []) n × (n ≤ 5)))))

    there : (n : ℕ) → IsMember (3 ∷ 5 ∷ 7 ∷ []) n × (n ≤ 5) → Contains (0 ∷ 3 ∷ 5 ∷ []) n
    there zero h = here 0 (3 ∷ 5 ∷ [])
    there (suc zero) h = absurd ((three_five_seven-out 1 h.0).0 refl)
    there (suc (suc zero)) h = absurd ((three_five_seven-out 2 h.0).1 refl)
    there (suc (suc (suc zero))) h = later 0 (3 ∷ 5 ∷ []) 3 (here 3 (5 ∷ []))
    there (suc (suc (suc (suc zero)))) h = absurd ((three_five_seven-out 4 h.0).2 refl)
    there (suc (suc (suc (suc (suc zero))))) h = later 0 (3 ∷ 5 ∷ []) 5 (later 3 (5 ∷ []) 5 (here 5 []))
    there (suc (suc (suc (suc (suc (suc n)))))) h = absurd (omega arith)

-- those of N
pub natural-small : AreSmallElements (1 ∷ []) (0 ∷ [])
natural-small = (0, natural-frobenius, listed (λ n. IsMember (1 ∷ []) n × (n ≤ 0)) (0 ∷ []) (ascending-one 0) all there)
  where
    all : All (λ n. IsMember (1 ∷ []) n × (n ≤ 0)) (0 ∷ [])
    all = All-cons (λ n. IsMember (1 ∷ []) n × (n ≤ 0)) 0 [] (natural 0, omega arith) (All-nil (λ n. IsMember (1 ∷ []) n × (n ≤ 0)))

    there : (n : ℕ) → IsMember (1 ∷ []) n × (n ≤ 0) → Contains (0 ∷ []) n
    there zero h = here 0 []
    there (suc n) h = absurd (omega arith)

-- ---- pseudo-Frobenius numbers

two_pseudo : IsPseudoFrobenius (3 ∷ 5 ∷ 7 ∷ []) (pos 2)
two_pseudo = record { outside = λ h. (three_five_seven-out 2 h).1 refl; absorbed = absorbed }
  where
    absorbed : (s : ℕ) → 0 < s → IsMember (3 ∷ 5 ∷ 7 ∷ []) s → IsMember (3 ∷ 5 ∷ 7 ∷ []) (2 + s)
    absorbed s l h = let o = three_five_seven-out s h in three_five_seven-above (2 + s) (omega arith)

four_pseudo : IsPseudoFrobenius (3 ∷ 5 ∷ 7 ∷ []) (pos 4)
four_pseudo = record { outside = λ h. (three_five_seven-out 4 h).2 refl; absorbed = λ s l h. three_five_seven-above (4 + s) (omega arith) }

-- the pseudo-Frobenius numbers of <3, 5, 7>
pub three_five_seven-pseudo : ListsIntegers (IsPseudoFrobenius (3 ∷ 5 ∷ 7 ∷ [])) (pos 2 ∷ pos 4 ∷ [])
three_five_seven-pseudo = record { ascending = ascending; exactly = λ x. (contained (IsPseudoFrobenius (3 ∷ 5 ∷ 7 ∷ [])) (pos 2 ∷ pos 4 ∷ []) x all, there x) }
  where
    ascending : AllPairs (λ x y. x <ℤ y) (pos 2 ∷ pos 4 ∷ [])
    ascending = pairs-cons (λ x y. x <ℤ y) (pos 2) (pos 4 ∷ []) (All-cons (λ y. pos 2 <ℤ y) (pos 4) [] (omega (arith, ints)) (All-nil (λ y. pos 2 <ℤ y)))
        (pairs-cons (λ x y. x <ℤ y) (pos 4) [] (All-nil (λ y. pos 4 <ℤ y)) (pairs-nil (λ x y. x <ℤ y)))

    all : All (IsPseudoFrobenius (3 ∷ 5 ∷ 7 ∷ [])) (pos 2 ∷ pos 4 ∷ [])
    all = All-cons (IsPseudoFrobenius (3 ∷ 5 ∷ 7 ∷ [])) (pos 2) (pos 4 ∷ []) two_pseudo
        (All-cons (IsPseudoFrobenius (3 ∷ 5 ∷ 7 ∷ [])) (pos 4) [] four_pseudo (All-nil (IsPseudoFrobenius (3 ∷ 5 ∷ 7 ∷ []))))

    there : (x : ℤ) → IsPseudoFrobenius (3 ∷ 5 ∷ 7 ∷ []) x → Contains (pos 2 ∷ pos 4 ∷ []) x
    there (pos zero) p = absurd (p.outside (member-zero (3 ∷ 5 ∷ 7 ∷ [])))
    there (pos (suc zero)) p = absurd ((three_five_seven-out 4 (p.absorbed 3 (omega arith) (member-entry (3 ∷ 5 ∷ 7 ∷ []) 0 (omega arith)))).2 refl)
    there (pos (suc (suc zero))) p = here (pos 2) (pos 4 ∷ [])
    there (pos (suc (suc (suc zero)))) p = absurd (p.outside (member-entry (3 ∷ 5 ∷ 7 ∷ []) 0 (omega arith)))
    there (pos (suc (suc (suc (suc zero))))) p = later (pos 2) (pos 4 ∷ []) (pos 4) (here (pos 4) [])
    there (pos (suc (suc (suc (suc (suc n)))))) p = absurd (p.outside (three_five_seven-above (suc (suc (suc (suc (suc n))))) (omega arith)))
    there (negsuc k) p =
        let four : negsuc k +ℤ pos (5 + k) ≡ pos 4 = omega (arith, ints) in
        absurd ((three_five_seven-out 4 (subst (IsIntegerMember (3 ∷ 5 ∷ 7 ∷ [])) four (p.absorbed (5 + k) (omega arith) (three_five_seven-above (5 + k) (omega arith))))).2 refl)

-- they are two
pub three_five_seven-type : IsType (3 ∷ 5 ∷ 7 ∷ []) 2
three_five_seven-type = (pos 2 ∷ pos 4 ∷ [], three_five_seven-pseudo, refl)

-- N has the one pseudo-Frobenius number -1
pub natural-pseudo : ListsIntegers (IsPseudoFrobenius (1 ∷ [])) (negsuc 0 ∷ [])
natural-pseudo = record {
  ascending = pairs-cons (λ x y. x <ℤ y) (negsuc 0) [] (All-nil (λ y. negsuc 0 <ℤ y)) (pairs-nil (λ x y. x <ℤ y));
  exactly = λ x. (contained (IsPseudoFrobenius (1 ∷ [])) (negsuc 0 ∷ []) x (All-cons (IsPseudoFrobenius (1 ∷ [])) (negsuc 0) [] first (All-nil (IsPseudoFrobenius (1 ∷ [])))), there x);
}
  where
    first : IsPseudoFrobenius (1 ∷ []) (negsuc 0)
    first = record { outside = λ h. h; absorbed = absorbed }
      where
        absorbed : (s : ℕ) → 0 < s → IsMember (1 ∷ []) s → IsIntegerMember (1 ∷ []) (negsuc 0 +ℤ pos s)
        absorbed zero l h = absurd (omega arith)
        absorbed (suc s) l h = let e : pos s ≡ negsuc 0 +ℤ pos (suc s) = omega (arith, ints) in subst (IsIntegerMember (1 ∷ [])) e (natural s)

    there : (x : ℤ) → IsPseudoFrobenius (1 ∷ []) x → Contains (negsuc 0 ∷ []) x
    there (pos n) p = absurd (p.outside (natural n))
    there (negsuc zero) p = here (negsuc 0) []
    there (negsuc (suc k)) p =
        let e : negsuc (suc k) +ℤ pos 1 ≡ negsuc k = omega (arith, ints) in
        absurd (subst (IsIntegerMember (1 ∷ [])) e (p.absorbed 1 (omega arith) (natural 1)))

-- ---- special and fundamental gaps

-- the double of 2 is 4, which is a gap
pub three_five_seven-special : ListsIntegers (IsSpecialGap (3 ∷ 5 ∷ 7 ∷ [])) (pos 4 ∷ [])
three_five_seven-special = record {
  ascending = pairs-cons (λ x y. x <ℤ y) (pos 4) [] (All-nil (λ y. pos 4 <ℤ y)) (pairs-nil (λ x y. x <ℤ y));
  exactly = λ x. (contained (IsSpecialGap (3 ∷ 5 ∷ 7 ∷ [])) (pos 4 ∷ []) x (All-cons (IsSpecialGap (3 ∷ 5 ∷ 7 ∷ [])) (pos 4) [] four (All-nil (IsSpecialGap (3 ∷ 5 ∷ 7 ∷ [])))), λ s. there x s (contains-cases (pos 2) (pos 4 ∷ []) x ((three_five_seven-pseudo.exactly x).1 s.pseudo_frobenius)));
}
  where
    four : IsSpecialGap (3 ∷ 5 ∷ 7 ∷ []) (pos 4)
    four = record { pseudo_frobenius = four_pseudo; double = three_five_seven-above 8 (omega arith) }

    there : (x : ℤ) → IsSpecialGap (3 ∷ 5 ∷ 7 ∷ []) x → (pos 2 ≡ x) ⊎ Contains (pos 4 ∷ []) x → Contains (pos 4 ∷ []) x
    there x s (inl e) = absurd ((three_five_seven-out 4 (subst (λ y. IsIntegerMember (3 ∷ 5 ∷ 7 ∷ []) (y +ℤ y)) (sym e) s.double)).2 refl)
    there x s (inr h) = h

-- N has no special gap
pub natural-special : ListsIntegers (IsSpecialGap (1 ∷ [])) []
natural-special = record { ascending = pairs-nil (λ x y. x <ℤ y); exactly = λ x. ((λ h. absurd (contains-nil x h)), λ s. absurd (none x s)) }
  where
    none : (x : ℤ) → IsSpecialGap (1 ∷ []) x → ⊥
    none (pos n) s = s.pseudo_frobenius.outside (natural n)
    none (negsuc n) s = s.double

-- the fundamental gap of <3, 5, 7>
pub three_five_seven-fundamental : Lists (IsFundamentalGap (3 ∷ 5 ∷ 7 ∷ [])) (4 ∷ [])
three_five_seven-fundamental = listed (IsFundamentalGap (3 ∷ 5 ∷ 7 ∷ [])) (4 ∷ []) (ascending-one 4) (All-cons (IsFundamentalGap (3 ∷ 5 ∷ 7 ∷ [])) 4 [] four (All-nil (IsFundamentalGap (3 ∷ 5 ∷ 7 ∷ [])))) there
  where
    four : IsFundamentalGap (3 ∷ 5 ∷ 7 ∷ []) 4
    four = record { gap = λ h. (three_five_seven-out 4 h).2 refl; multiples = λ k l. three_five_seven-above (k * 4) (omega arith) }

    there : (n : ℕ) → IsFundamentalGap (3 ∷ 5 ∷ 7 ∷ []) n → Contains (4 ∷ []) n
    there zero f = absurd (f.gap (member-zero (3 ∷ 5 ∷ 7 ∷ [])))
    there (suc zero) f = absurd ((three_five_seven-out 2 (f.multiples 2 (omega arith))).1 refl)
    there (suc (suc zero)) f = absurd ((three_five_seven-out 4 (f.multiples 2 (omega arith))).2 refl)
    there (suc (suc (suc zero))) f = absurd (f.gap (member-entry (3 ∷ 5 ∷ 7 ∷ []) 0 (omega arith)))
    there (suc (suc (suc (suc zero)))) f = here 4 []
    there (suc (suc (suc (suc (suc n))))) f = absurd (f.gap (three_five_seven-above (suc (suc (suc (suc (suc n))))) (omega arith)))
