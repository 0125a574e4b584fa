-- The decomposition of <4, 6, 7, 9>, whose special gap 2 lies in no cover of a greater one.
use Rattle.std.proofs.Common.{◌≡◌, ◌≢◌, ℕ, zero, suc, ◌+◌, ◌<◌, ◌≤◌, [], ◌∷◌, get_or, refl, sym, subst, inl, inr, arith}
use Rattle.std.specs.Prelude.{ℤ, pos, negsuc, ◌+ℤ◌, ◌<ℤ◌, All, AllPairs, Contains, remove}
use Rattle.std.specs.Int.{◌∣◌}
use Rattle.std.proofs.lemmas.Bool.{cases_eq}
use Rattle.std.proofs.lemmas.Int.{ints}
use Rattle.std.proofs.lemmas.List.Elements.{All-nil, All-cons}
use Rattle.std.proofs.lemmas.Nat.Gcd.{le_of_dvd, mod-eq-zero_of_dvd}
use Rattle.sg_defs.specs.Decomposition.{IsInCover, IsInEachCover, IsDecomposition}
use Rattle.sg_defs.specs.Invariants.{IsPseudoFrobenius, IsSpecialGap}
use Rattle.sg_defs.specs.Listings.{ListsIntegers}
use Rattle.sg_defs.specs.Membership.{Generates, IsIntegerMember, IsMember, IsMinimal, IsNumericalSemigroup}
use Rattle.sg_defs.proofs.MembershipLemmas.{member-entry, member-zero}
use Rattle.sg_samples.proofs.SmallLemmas.{ascending-cons, ascending-one, by_four, by_one, by_two, contained, here, later, members-above, pairs-cons, pairs-nil}
use Rattle.sg_samples.proofs.KnownSemigroups.{three_four, three_four-in, three_four-out}
use Rattle.sg_samples.proofs.MemberSamples.{three_four-minimal}

-- ---- <4, 6, 7, 9> = {0, 4, 6, 7, ..}

six_on : (i : ℕ) → i < 4 → IsMember (4 ∷ 6 ∷ 7 ∷ 9 ∷ []) (6 + i)
six_on zero l = (0 ∷ 1 ∷ 0 ∷ 0 ∷ [], record { places = refl; value = refl })
six_on (suc zero) l = (0 ∷ 0 ∷ 1 ∷ 0 ∷ [], record { places = refl; value = refl })
six_on (suc (suc zero)) l = (2 ∷ 0 ∷ 0 ∷ 0 ∷ [], record { places = refl; value = refl })
six_on (suc (suc (suc zero))) l = (0 ∷ 0 ∷ 0 ∷ 1 ∷ [], record { places = refl; value = refl })
six_on (suc (suc (suc (suc i)))) l = absurd (omega arith)

four_member : IsMember (4 ∷ 6 ∷ 7 ∷ 9 ∷ []) 4
four_member = member-entry (4 ∷ 6 ∷ 7 ∷ 9 ∷ []) 0 (omega arith)

above : (n : ℕ) → 6 ≤ n → IsMember (4 ∷ 6 ∷ 7 ∷ 9 ∷ []) n
above n l = members-above (4 ∷ 6 ∷ 7 ∷ 9 ∷ []) 4 6 (omega arith) four_member six_on n l

out : (n : ℕ) → IsMember (4 ∷ 6 ∷ 7 ∷ 9 ∷ []) n → (n ≢ 1) × (n ≢ 2) × (n ≢ 3) × (n ≢ 5)
out n h =
    let p = by_four 4 6 7 9 n h.0 h.1 in
    ((λ e. omega (arith, p.5)), (λ e. omega (arith, p.5)), (λ e. omega (arith, p.5)), (λ e. omega (arith, p.5)))

into : (n : ℕ) → n ≢ 1 → n ≢ 2 → n ≢ 3 → n ≢ 5 → IsMember (4 ∷ 6 ∷ 7 ∷ 9 ∷ []) n
into zero a b c d = member-zero (4 ∷ 6 ∷ 7 ∷ 9 ∷ [])
into (suc zero) a b c d = absurd (a refl)
into (suc (suc zero)) a b c d = absurd (b refl)
into (suc (suc (suc zero))) a b c d = absurd (c refl)
into (suc (suc (suc (suc zero)))) a b c d = four_member
into (suc (suc (suc (suc (suc zero))))) a b c d = absurd (d refl)
into (suc (suc (suc (suc (suc (suc n)))))) a b c d = above (suc (suc (suc (suc (suc (suc n)))))) (omega arith)

-- ---- <2, 5> = {0, 2, 4, ..}

two_five : IsNumericalSemigroup (2 ∷ 5 ∷ [])
two_five = record {
  not_empty = omega arith;
  positive = All-cons (λ g. 1 ≤ g) 2 (5 ∷ []) (omega arith) (All-cons (λ g. 1 ≤ g) 5 [] (omega arith) (All-nil (λ g. 1 ≤ g)));
  coprime = λ d h. coprime d (h 0 0 (omega arith)) (h 1 0 (omega arith));
}
  where
    coprime : (d : ℕ) → d ∣ 2 → d ∣ 5 → d ≤ 1
    coprime zero h k = let e : ◌≡◌ {A = ℕ} 2 0 = mod-eq-zero_of_dvd 0 h in absurd (omega arith)
    coprime (suc zero) h k = omega arith
    coprime (suc (suc zero)) h k = let e : ◌≡◌ {A = ℕ} 1 0 = mod-eq-zero_of_dvd 2 k in absurd (omega arith)
    coprime (suc (suc (suc d))) h k = let l : suc (suc (suc d)) ≤ 2 = le_of_dvd (omega arith) h in absurd (omega arith)

two_five-minimal : IsMinimal (2 ∷ 5 ∷ [])
two_five-minimal = record { ascending = ascending-cons 2 5 [] (omega arith) (ascending-one 5); needed = needed }
  where
    needed : (k : ℕ) → k < 2 → IsMember (remove (2 ∷ 5 ∷ []) k) (get_or (2 ∷ 5 ∷ []) k 0) → ⊥
    needed zero l h = let p = by_one 5 2 h.0 h.1 in omega (arith, p.2)
    needed (suc zero) l h = let p = by_one 2 5 h.0 h.1 in omega (arith, p.2)
    needed (suc (suc k)) l h = absurd (omega arith)

two_five-out : (n : ℕ) → IsMember (2 ∷ 5 ∷ []) n → (n ≢ 1) × (n ≢ 3)
two_five-out n h =
    let p = by_two 2 5 n h.0 h.1 in
    ((λ e. omega (arith, p.3)), (λ e. omega (arith, p.3)))

four_on : (i : ℕ) → i < 2 → IsMember (2 ∷ 5 ∷ []) (4 + i)
four_on zero l = (2 ∷ 0 ∷ [], record { places = refl; value = refl })
four_on (suc zero) l = (0 ∷ 1 ∷ [], record { places = refl; value = refl })
four_on (suc (suc i)) l = absurd (omega arith)

two_five-in : (n : ℕ) → n ≢ 1 → n ≢ 3 → IsMember (2 ∷ 5 ∷ []) n
two_five-in zero a b = member-zero (2 ∷ 5 ∷ [])
two_five-in (suc zero) a b = absurd (a refl)
two_five-in (suc (suc zero)) a b = member-entry (2 ∷ 5 ∷ []) 0 (omega arith)
two_five-in (suc (suc (suc zero))) a b = absurd (b refl)
two_five-in (suc (suc (suc (suc n)))) a b = members-above (2 ∷ 5 ∷ []) 2 4 (omega arith) (member-entry (2 ∷ 5 ∷ []) 0 (omega arith)) four_on (suc (suc (suc (suc n)))) (omega arith)

-- ---- covers

cover_of_five : Generates (IsInCover (4 ∷ 6 ∷ 7 ∷ 9 ∷ []) (pos 5)) (3 ∷ 4 ∷ [])
cover_of_five = record { semigroup = three_four; minimal = three_four-minimal; same = λ n. (inside n, outside n) }
  where
    inside : (n : ℕ) → IsInCover (4 ∷ 6 ∷ 7 ∷ 9 ∷ []) (pos 5) n → IsMember (3 ∷ 4 ∷ []) n
    inside n (inl h) = let o = out n h in three_four-in n o.0 o.1 o.3
    inside n (inr (inl l)) = three_four-in n (λ e. omega (arith, ints, l)) (λ e. omega (arith, ints, l)) (λ e. omega (arith, ints, l))
    inside n (inr (inr h)) = three_four-in n (λ e. omega (arith, ints, h.0)) (λ e. omega (arith, ints, h.0)) (λ e. omega (arith, ints, h.1))

    outside : (n : ℕ) → IsMember (3 ∷ 4 ∷ []) n → IsInCover (4 ∷ 6 ∷ 7 ∷ 9 ∷ []) (pos 5) n
    outside n h =
        let o = three_four-out n h in
        elim (cases_eq n 3) [
          | inl e ↦ subst (IsInCover (4 ∷ 6 ∷ 7 ∷ 9 ∷ []) (pos 5)) (sym e) (inr (inr (omega (arith, ints), omega (arith, ints), λ m. (out 2 m).1 refl)))
          | inr other ↦ inl (into n o.0 o.1 other o.2)
        ]

cover_of_three : Generates (IsInCover (4 ∷ 6 ∷ 7 ∷ 9 ∷ []) (pos 3)) (2 ∷ 5 ∷ [])
cover_of_three = record { semigroup = two_five; minimal = two_five-minimal; same = λ n. (inside n, outside n) }
  where
    inside : (n : ℕ) → IsInCover (4 ∷ 6 ∷ 7 ∷ 9 ∷ []) (pos 3) n → IsMember (2 ∷ 5 ∷ []) n
    inside n (inl h) = let o = out n h in two_five-in n o.0 o.2
    inside n (inr (inl l)) = two_five-in n (λ e. omega (arith, ints, l)) (λ e. omega (arith, ints, l))
    inside n (inr (inr h)) = two_five-in n (λ e. omega (arith, ints, h.0)) (λ e. omega (arith, ints, h.1))

    outside : (n : ℕ) → IsMember (2 ∷ 5 ∷ []) n → IsInCover (4 ∷ 6 ∷ 7 ∷ 9 ∷ []) (pos 3) n
    outside n h =
        let o = two_five-out n h in
        elim (cases_eq n 2) [
          | inl e ↦ subst (IsInCover (4 ∷ 6 ∷ 7 ∷ 9 ∷ []) (pos 3)) (sym e) (inr (inr (omega (arith, ints), omega (arith, ints), λ m. (out 1 m).0 refl)))
          | inr other ↦ elim (cases_eq n 5) [
            | inl e ↦ inr (inl (omega (arith, ints, e)))
            | inr another ↦ inl (into n o.0 other o.1 another)
          ]
        ]

-- ---- special gaps

two : IsSpecialGap (4 ∷ 6 ∷ 7 ∷ 9 ∷ []) (pos 2)
two = record { pseudo_frobenius = record { outside = λ h. (out 2 h).1 refl; absorbed = absorbed }; double = four_member }
  where
    absorbed : (s : ℕ) → 0 < s → IsMember (4 ∷ 6 ∷ 7 ∷ 9 ∷ []) s → IsMember (4 ∷ 6 ∷ 7 ∷ 9 ∷ []) (2 + s)
    absorbed s l h = let o = out s h in above (2 + s) (omega arith)

three : IsSpecialGap (4 ∷ 6 ∷ 7 ∷ 9 ∷ []) (pos 3)
three = record { pseudo_frobenius = record { outside = λ h. (out 3 h).2 refl; absorbed = absorbed }; double = above 6 (omega arith) }
  where
    absorbed : (s : ℕ) → 0 < s → IsMember (4 ∷ 6 ∷ 7 ∷ 9 ∷ []) s → IsMember (4 ∷ 6 ∷ 7 ∷ 9 ∷ []) (3 + s)
    absorbed s l h = let o = out s h in above (3 + s) (omega arith)

five : IsSpecialGap (4 ∷ 6 ∷ 7 ∷ 9 ∷ []) (pos 5)
five = record { pseudo_frobenius = record { outside = λ h. (out 5 h).3 refl; absorbed = λ s l h. above (5 + s) (omega arith) }; double = above 10 (omega arith) }

special_gaps : ListsIntegers (IsSpecialGap (4 ∷ 6 ∷ 7 ∷ 9 ∷ [])) (pos 2 ∷ pos 3 ∷ pos 5 ∷ [])
special_gaps = record { ascending = ascending; exactly = λ x. (contained (IsSpecialGap (4 ∷ 6 ∷ 7 ∷ 9 ∷ [])) (pos 2 ∷ pos 3 ∷ pos 5 ∷ []) x all, λ s. there x s.pseudo_frobenius) }
  where
    ascending : AllPairs (λ x y. x <ℤ y) (pos 2 ∷ pos 3 ∷ pos 5 ∷ [])
    ascending = pairs-cons (λ x y. x <ℤ y) (pos 2) (pos 3 ∷ pos 5 ∷ []) (All-cons (λ y. pos 2 <ℤ y) (pos 3) (pos 5 ∷ []) (omega (arith, ints)) (All-cons (λ y. pos 2 <ℤ y) (pos 5) [] (omega (arith, ints)) (All-nil (λ y. pos 2 <ℤ y))))
        (pairs-cons (λ x y. x <ℤ y) (pos 3) (pos 5 ∷ []) (All-cons (λ y. pos 3 <ℤ y) (pos 5) [] (omega (arith, ints)) (All-nil (λ y. pos 3 <ℤ y)))
        (pairs-cons (λ x y. x <ℤ y) (pos 5) [] (All-nil (λ y. pos 5 <ℤ y)) (pairs-nil (λ x y. x <ℤ y))))

    all : All (IsSpecialGap (4 ∷ 6 ∷ 7 ∷ 9 ∷ [])) (pos 2 ∷ pos 3 ∷ pos 5 ∷ [])
    all = All-cons (IsSpecialGap (4 ∷ 6 ∷ 7 ∷ 9 ∷ [])) (pos 2) (pos 3 ∷ pos 5 ∷ []) two
        (All-cons (IsSpecialGap (4 ∷ 6 ∷ 7 ∷ 9 ∷ [])) (pos 3) (pos 5 ∷ []) three
        (All-cons (IsSpecialGap (4 ∷ 6 ∷ 7 ∷ 9 ∷ [])) (pos 5) [] five (All-nil (IsSpecialGap (4 ∷ 6 ∷ 7 ∷ 9 ∷ [])))))

    there : (x : ℤ) → IsPseudoFrobenius (4 ∷ 6 ∷ 7 ∷ 9 ∷ []) x → Contains (pos 2 ∷ pos 3 ∷ pos 5 ∷ []) x
    there (pos zero) p = absurd (p.outside (member-zero (4 ∷ 6 ∷ 7 ∷ 9 ∷ [])))
    there (pos (suc zero)) p = absurd ((out 5 (p.absorbed 4 (omega arith) four_member)).3 refl)
    there (pos (suc (suc zero))) p = here (pos 2) (pos 3 ∷ pos 5 ∷ [])
    there (pos (suc (suc (suc zero)))) p = later (pos 2) (pos 3 ∷ pos 5 ∷ []) (pos 3) (here (pos 3) (pos 5 ∷ []))
    there (pos (suc (suc (suc (suc zero))))) p = absurd (p.outside four_member)
    there (pos (suc (suc (suc (suc (suc zero)))))) p = later (pos 2) (pos 3 ∷ pos 5 ∷ []) (pos 5) (later (pos 3) (pos 5 ∷ []) (pos 5) (here (pos 5) []))
    there (pos (suc (suc (suc (suc (suc (suc n))))))) p = absurd (p.outside (above (suc (suc (suc (suc (suc (suc n)))))) (omega arith)))
    there (negsuc k) p =
        let e : negsuc k +ℤ pos (6 + k) ≡ pos 5 = omega (arith, ints) in
        absurd ((out 5 (subst (IsIntegerMember (4 ∷ 6 ∷ 7 ∷ 9 ∷ [])) e (p.absorbed (6 + k) (omega arith) (above (6 + k) (omega arith))))).3 refl)

-- ---- the choice

three_after_five : IsInEachCover (4 ∷ 6 ∷ 7 ∷ 9 ∷ []) (pos 5 ∷ []) (pos 3)
three_after_five = All-cons (λ k. (x : ℕ) × (pos 3 ≡ pos x) × IsInCover (4 ∷ 6 ∷ 7 ∷ 9 ∷ []) k x) (pos 5) []
    (3, refl, (cover_of_five.same 3).1 (member-entry (3 ∷ 4 ∷ []) 0 (omega arith)))
    (All-nil (λ k. (x : ℕ) × (pos 3 ≡ pos x) × IsInCover (4 ∷ 6 ∷ 7 ∷ 9 ∷ []) k x))

-- 2 is below half of 5
two_is_left : IsInEachCover (4 ∷ 6 ∷ 7 ∷ 9 ∷ []) (pos 3 ∷ pos 5 ∷ []) (pos 2) → ⊥
two_is_left h =
    let c = h 1 (pos 5) (omega arith) in
    let e : c.0 ≡ 2 = omega (arith, ints, c.1) in
    (three_four-out 2 (subst (IsMember (3 ∷ 4 ∷ [])) e ((cover_of_five.same c.0).0 c.2))).1 refl

-- of three special gaps two are chosen
pub one_is_left : IsDecomposition (4 ∷ 6 ∷ 7 ∷ 9 ∷ []) ((3 ∷ 4 ∷ []) ∷ (2 ∷ 5 ∷ []) ∷ [])
one_is_left = record {
  special = pos 2 ∷ pos 3 ∷ pos 5 ∷ [];
  is_special = special_gaps;
  chosen = pos 5 ∷ pos 3 ∷ [];
  is_chosen = inl (All-nil (λ k. (x : ℕ) × (pos 5 ≡ pos x) × IsInCover (4 ∷ 6 ∷ 7 ∷ 9 ∷ []) k x), (pos 3 ∷ [], refl, inl (three_after_five, ([], refl, inr (two_is_left, refl)))));
  covers = λ l. (cover_of_five, (cover_of_three, tt));
  whole = λ e. absurd (cc);
}
