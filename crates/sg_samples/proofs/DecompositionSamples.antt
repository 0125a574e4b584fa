-- The decomposition of <3, 7, 8> into <3, 4> and <3, 5, 7>, and that of N.
use Rattle.std.proofs.Common.{◌≡◌, ℕ, zero, suc, ◌+◌, ◌<◌, [], ◌∷◌, get_or, refl, sym, subst, inl, inr, arith}
use Rattle.std.specs.Prelude.{ℤ, pos, negsuc, ◌+ℤ◌, ◌<ℤ◌, All, Contains}
use Rattle.std.proofs.lemmas.Bool.{cases_eq}
use Rattle.std.proofs.lemmas.Int.{ints}
use Rattle.std.proofs.lemmas.List.Elements.{All-nil, All-cons}
use Rattle.sg_defs.specs.Decomposition.{IsInCover, IsInEachCover, IsDecomposition, IsInAll, IsIrredundant}
use Rattle.sg_defs.specs.Invariants.{IsPseudoFrobenius, IsSpecialGap}
use Rattle.sg_defs.specs.Listings.{ListsIntegers}
use Rattle.sg_defs.specs.Membership.{Generates, IsIntegerMember, IsMember}
use Rattle.sg_defs.specs.Symmetry.{IsIrreducible}
use Rattle.sg_defs.proofs.MembershipLemmas.{member-entry, member-zero}
use Rattle.sg_samples.proofs.SmallLemmas.{contained, here, later, pairs-cons, pairs-nil}
use Rattle.sg_samples.proofs.KnownSemigroups.{naturals, three_four, three_four-in, three_four-out, three_five_seven, three_five_seven-in, three_five_seven-out, three_seven_eight-above, three_seven_eight-in, three_seven_eight-out}
use Rattle.sg_samples.proofs.MemberSamples.{one-minimal, three_four-minimal, three_five_seven-minimal}
use Rattle.sg_samples.proofs.InvariantSamples.{natural-special}
use Rattle.sg_samples.proofs.SymmetrySamples.{in_both, natural-irreducible, three_four-irreducible, three_five_seven-irreducible}

-- ---- covers

-- of 4 and 1, which add up to 5, neither is a member, so the cover of 5 has 4
pub cover_of_five : Generates (IsInCover (3 ∷ 7 ∷ 8 ∷ []) (pos 5)) (3 ∷ 4 ∷ [])
cover_of_five = record { semigroup = three_four; minimal = three_four-minimal; same = λ n. (inside n, outside n) }
  where
    inside : (n : ℕ) → IsInCover (3 ∷ 7 ∷ 8 ∷ []) (pos 5) n → IsMember (3 ∷ 4 ∷ []) n
    inside n (inl h) = ((in_both n).0 h).0
    inside n (inr (inl l)) = three_four-in n (λ e. omega (arith, ints, l)) (λ e. omega (arith, ints, l)) (λ e. omega (arith, ints, l))
    inside n (inr (inr h)) = three_four-in n (λ e. omega (arith, ints, h.0)) (λ e. omega (arith, ints, h.0)) (λ e. omega (arith, ints, h.1))

    outside : (n : ℕ) → IsMember (3 ∷ 4 ∷ []) n → IsInCover (3 ∷ 7 ∷ 8 ∷ []) (pos 5) n
    outside n h =
        let o = three_four-out n h in
        elim (cases_eq n 4) [
          | inl e ↦ subst (IsInCover (3 ∷ 7 ∷ 8 ∷ []) (pos 5)) (sym e) (inr (inr (omega (arith, ints), omega (arith, ints), λ m. (three_seven_eight-out 1 m).0 refl)))
          | inr other ↦ inl (three_seven_eight-in n o.0 o.1 other o.2)
        ]

-- the cover of the gap 4
pub cover_of_four : Generates (IsInCover (3 ∷ 7 ∷ 8 ∷ []) (pos 4)) (3 ∷ 5 ∷ 7 ∷ [])
cover_of_four = record { semigroup = three_five_seven; minimal = three_five_seven-minimal; same = λ n. (inside n, outside n) }
  where
    inside : (n : ℕ) → IsInCover (3 ∷ 7 ∷ 8 ∷ []) (pos 4) n → IsMember (3 ∷ 5 ∷ 7 ∷ []) n
    inside n (inl h) = ((in_both n).0 h).1
    inside n (inr (inl l)) = three_five_seven-in n (λ e. omega (arith, ints, l)) (λ e. omega (arith, ints, l)) (λ e. omega (arith, ints, l))
    inside n (inr (inr h)) = three_five_seven-in n (λ e. omega (arith, ints, h.0)) (λ e. omega (arith, ints, h.0)) (λ e. omega (arith, ints, h.1))

    outside : (n : ℕ) → IsMember (3 ∷ 5 ∷ 7 ∷ []) n → IsInCover (3 ∷ 7 ∷ 8 ∷ []) (pos 4) n
    outside n h =
        let o = three_five_seven-out n h in
        elim (cases_eq n 5) [
          | inl e ↦ subst (IsInCover (3 ∷ 7 ∷ 8 ∷ []) (pos 4)) (sym e) (inr (inl (omega (arith, ints))))
          | inr other ↦ inl (three_seven_eight-in n o.0 o.1 o.2 other)
        ]

-- ---- special gaps

four : IsSpecialGap (3 ∷ 7 ∷ 8 ∷ []) (pos 4)
four = record { pseudo_frobenius = record { outside = λ h. (three_seven_eight-out 4 h).2 refl; absorbed = absorbed }; double = three_seven_eight-above 8 (omega arith) }
  where
    absorbed : (s : ℕ) → 0 < s → IsMember (3 ∷ 7 ∷ 8 ∷ []) s → IsMember (3 ∷ 7 ∷ 8 ∷ []) (4 + s)
    absorbed s l h = let o = three_seven_eight-out s h in three_seven_eight-above (4 + s) (omega arith)

five : IsSpecialGap (3 ∷ 7 ∷ 8 ∷ []) (pos 5)
five = record { pseudo_frobenius = record { outside = λ h. (three_seven_eight-out 5 h).3 refl; absorbed = λ s l h. three_seven_eight-above (5 + s) (omega arith) }; double = three_seven_eight-above 10 (omega arith) }

special_gaps : ListsIntegers (IsSpecialGap (3 ∷ 7 ∷ 8 ∷ [])) (pos 4 ∷ pos 5 ∷ [])
special_gaps = record {
  ascending = pairs-cons (λ x y. x <ℤ y) (pos 4) (pos 5 ∷ []) (All-cons (λ y. pos 4 <ℤ y) (pos 5) [] (omega (arith, ints)) (All-nil (λ y. pos 4 <ℤ y)))
      (pairs-cons (λ x y. x <ℤ y) (pos 5) [] (All-nil (λ y. pos 5 <ℤ y)) (pairs-nil (λ x y. x <ℤ y)));
  exactly = λ x. (contained (IsSpecialGap (3 ∷ 7 ∷ 8 ∷ [])) (pos 4 ∷ pos 5 ∷ []) x all, λ s. there x s.pseudo_frobenius);
}
  where
    all : All (IsSpecialGap (3 ∷ 7 ∷ 8 ∷ [])) (pos 4 ∷ pos 5 ∷ [])
    all = All-cons (IsSpecialGap (3 ∷ 7 ∷ 8 ∷ [])) (pos 4) (pos 5 ∷ []) four (All-cons (IsSpecialGap (3 ∷ 7 ∷ 8 ∷ [])) (pos 5) [] five (All-nil (IsSpecialGap (3 ∷ 7 ∷ 8 ∷ []))))

    there : (x : ℤ) → IsPseudoFrobenius (3 ∷ 7 ∷ 8 ∷ []) x → Contains (pos 4 ∷ pos 5 ∷ []) x
    there (pos zero) p = absurd (p.outside (member-zero (3 ∷ 7 ∷ 8 ∷ [])))
    there (pos (suc zero)) p = absurd ((three_seven_eight-out 4 (p.absorbed 3 (omega arith) (member-entry (3 ∷ 7 ∷ 8 ∷ []) 0 (omega arith)))).2 refl)
    there (pos (suc (suc zero))) p = absurd ((three_seven_eight-out 5 (p.absorbed 3 (omega arith) (member-entry (3 ∷ 7 ∷ 8 ∷ []) 0 (omega arith)))).3 refl)
    there (pos (suc (suc (suc zero)))) p = absurd (p.outside (member-entry (3 ∷ 7 ∷ 8 ∷ []) 0 (omega arith)))
    there (pos (suc (suc (suc (suc zero))))) p = here (pos 4) (pos 5 ∷ [])
    there (pos (suc (suc (suc (suc (suc zero)))))) p = later (pos 4) (pos 5 ∷ []) (pos 5) (here (pos 5) [])
    there (pos (suc (suc (suc (suc (suc (suc n))))))) p = absurd (p.outside (three_seven_eight-above (suc (suc (suc (suc (suc (suc n)))))) (omega arith)))
    there (negsuc k) p =
        let e : negsuc k +ℤ pos (6 + k) ≡ pos 5 = omega (arith, ints) in
        absurd ((three_seven_eight-out 5 (subst (IsIntegerMember (3 ∷ 7 ∷ 8 ∷ [])) e (p.absorbed (6 + k) (omega arith) (three_seven_eight-above (6 + k) (omega arith))))).3 refl)

-- ---- decompositions

-- 5 comes first, and 4 lies in its cover
four_after_five : IsInEachCover (3 ∷ 7 ∷ 8 ∷ []) (pos 5 ∷ []) (pos 4)
four_after_five = All-cons (λ k. (x : ℕ) × (pos 4 ≡ pos x) × IsInCover (3 ∷ 7 ∷ 8 ∷ []) k x) (pos 5) []
    (4, refl, (cover_of_five.same 4).1 (member-entry (3 ∷ 4 ∷ []) 1 (omega arith)))
    (All-nil (λ k. (x : ℕ) × (pos 4 ≡ pos x) × IsInCover (3 ∷ 7 ∷ 8 ∷ []) k x))

-- the decomposition of <3, 7, 8>
pub decomposition : IsDecomposition (3 ∷ 7 ∷ 8 ∷ []) ((3 ∷ 4 ∷ []) ∷ (3 ∷ 5 ∷ 7 ∷ []) ∷ [])
decomposition = record {
  special = pos 4 ∷ pos 5 ∷ [];
  is_special = special_gaps;
  chosen = pos 5 ∷ pos 4 ∷ [];
  is_chosen = inl (All-nil (λ k. (x : ℕ) × (pos 5 ≡ pos x) × IsInCover (3 ∷ 7 ∷ 8 ∷ []) k x), (pos 4 ∷ [], refl, inl (four_after_five, ([], refl, refl))));
  covers = λ l. (cover_of_five, (cover_of_four, tt));
  whole = λ e. absurd (cc);
}

-- that of N
pub natural-decomposition : IsDecomposition (1 ∷ []) ((1 ∷ []) ∷ [])
natural-decomposition = record {
  special = [];
  is_special = natural-special;
  chosen = [];
  is_chosen = refl;
  covers = λ l. absurd (omega arith);
  whole = λ e. (1 ∷ [], refl, record { semigroup = naturals; minimal = one-minimal; same = λ n. ((λ h. h), λ h. h) });
}

-- ---- none can be left out

-- no member of it can be left out
pub irredundant : IsIrredundant (3 ∷ 7 ∷ 8 ∷ []) ((3 ∷ 4 ∷ []) ∷ (3 ∷ 5 ∷ 7 ∷ []) ∷ [])
irredundant = record { irreducible = irreducible; meets = λ x. (down x, up x); needed = needed }
  where
    irreducible : All IsIrreducible ((3 ∷ 4 ∷ []) ∷ (3 ∷ 5 ∷ 7 ∷ []) ∷ [])
    irreducible = All-cons IsIrreducible (3 ∷ 4 ∷ []) ((3 ∷ 5 ∷ 7 ∷ []) ∷ []) three_four-irreducible (All-cons IsIrreducible (3 ∷ 5 ∷ 7 ∷ []) [] three_five_seven-irreducible (All-nil IsIrreducible))

    down : (x : ℤ) → IsIntegerMember (3 ∷ 7 ∷ 8 ∷ []) x → IsInAll ((3 ∷ 4 ∷ []) ∷ (3 ∷ 5 ∷ 7 ∷ []) ∷ []) x
    down (pos n) h = All-cons (λ M. IsMember M n) (3 ∷ 4 ∷ []) ((3 ∷ 5 ∷ 7 ∷ []) ∷ []) ((in_both n).0 h).0 (All-cons (λ M. IsMember M n) (3 ∷ 5 ∷ 7 ∷ []) [] ((in_both n).0 h).1 (All-nil (λ M. IsMember M n)))
    down (negsuc k) h = absurd h

    up : (x : ℤ) → IsInAll ((3 ∷ 4 ∷ []) ∷ (3 ∷ 5 ∷ 7 ∷ []) ∷ []) x → IsIntegerMember (3 ∷ 7 ∷ 8 ∷ []) x
    up (pos n) h = (in_both n).1 (h 0 [] (omega arith), h 1 [] (omega arith))
    up (negsuc k) h = h 0 [] (omega arith)

    -- without <3, 4> there is 5, and without <3, 5, 7> there is 4
    needed : (k : ℕ) → k < 2 → (x : ℤ) × (IsIntegerMember (3 ∷ 7 ∷ 8 ∷ []) x → ⊥) × ((j : ℕ) → j < 2 → (j ≡ k → ⊥) → IsIntegerMember (get_or ((3 ∷ 4 ∷ []) ∷ (3 ∷ 5 ∷ 7 ∷ []) ∷ []) j []) x)
    needed zero l = (pos 5, (λ h. (three_seven_eight-out 5 h).3 refl), first)
      where
        first : (j : ℕ) → j < 2 → (j ≡ 0 → ⊥) → IsIntegerMember (get_or ((3 ∷ 4 ∷ []) ∷ (3 ∷ 5 ∷ 7 ∷ []) ∷ []) j []) (pos 5)
        first zero m d = absurd (d refl)
        first (suc zero) m d = member-entry (3 ∷ 5 ∷ 7 ∷ []) 1 (omega arith)
        first (suc (suc j)) m d = absurd (omega arith)
    needed (suc zero) l = (pos 4, (λ h. (three_seven_eight-out 4 h).2 refl), second)
      where
        second : (j : ℕ) → j < 2 → (j ≡ 1 → ⊥) → IsIntegerMember (get_or ((3 ∷ 4 ∷ []) ∷ (3 ∷ 5 ∷ 7 ∷ []) ∷ []) j []) (pos 4)
        second zero m d = member-entry (3 ∷ 4 ∷ []) 1 (omega arith)
        second (suc zero) m d = absurd (d refl)
        second (suc (suc j)) m d = absurd (omega arith)
    needed (suc (suc k)) l = absurd (omega arith)

-- the rest is empty, and -1 is in each of no semigroups
pub natural-irredundant : IsIrredundant (1 ∷ []) ((1 ∷ []) ∷ [])
natural-irredundant = record {
  irreducible = All-cons IsIrreducible (1 ∷ []) [] natural-irreducible (All-nil IsIrreducible);
  meets = λ x. (down x, λ h. h 0 [] (omega arith));
  needed = λ k l. (negsuc 0, (λ h. h), λ j m d. absurd (d (omega arith)));
}
  where
    down : (x : ℤ) → IsIntegerMember (1 ∷ []) x → IsInAll ((1 ∷ []) ∷ []) x
    down x h = All-cons (λ M. IsIntegerMember M x) (1 ∷ []) [] h (All-nil (λ M. IsIntegerMember M x))

-- 4 is a member of <3, 4> alone
pub one_is_too_few : IsIrredundant (3 ∷ 7 ∷ 8 ∷ []) ((3 ∷ 4 ∷ []) ∷ []) → ⊥
one_is_too_few i = (three_seven_eight-out 4 ((i.meets (pos 4)).1 all)).2 refl
  where
    all : IsInAll ((3 ∷ 4 ∷ []) ∷ []) (pos 4)
    all = All-cons (λ M. IsMember M 4) (3 ∷ 4 ∷ []) [] (member-entry (3 ∷ 4 ∷ []) 1 (omega arith)) (All-nil (λ M. IsMember M 4))
