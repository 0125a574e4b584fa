-- Which numbers the small lists of the instances generate.
use Rattle.std.proofs.Common.{◌≡◌, ◌≢◌, ℕ, zero, suc, ◌+◌, ◌%◌, ◌<◌, ◌≤◌, [], ◌∷◌, refl, arith}
use Rattle.std.specs.Int.{◌∣◌}
use Rattle.std.proofs.lemmas.List.Elements.{All-nil, All-cons}
use Rattle.std.proofs.lemmas.Nat.Gcd.{le_of_dvd, mod-eq-zero_of_dvd}
use Rattle.sg_defs.specs.Membership.{IsMember, IsNumericalSemigroup}
use Rattle.sg_defs.proofs.MembershipLemmas.{member-entry, member-zero}
use Rattle.sg_samples.proofs.SmallLemmas.{members-above, by_two, by_three}

-- ---- the naturals

-- N has each natural
pub natural : (n : ℕ) → IsMember (1 ∷ []) n
natural n = (n ∷ [], record { places = refl; value = omega arith })

-- ---- <3, 5>

eight_on : (i : ℕ) → i < 3 → IsMember (3 ∷ 5 ∷ []) (8 + i)
eight_on zero l = (1 ∷ 1 ∷ [], record { places = refl; value = refl })
eight_on (suc zero) l = (3 ∷ 0 ∷ [], record { places = refl; value = refl })
eight_on (suc (suc zero)) l = (0 ∷ 2 ∷ [], record { places = refl; value = refl })
eight_on (suc (suc (suc i))) l = absurd (omega arith)

-- the gaps are no members
pub three_five-out : (n : ℕ) → IsMember (3 ∷ 5 ∷ []) n → (n ≢ 1) × (n ≢ 2) × (n ≢ 4) × (n ≢ 7)
three_five-out n h =
    let p = by_two 3 5 n h.0 h.1 in
    ((λ e. omega (arith, p.3)), (λ e. omega (arith, p.3)), (λ e. omega (arith, p.3)), (λ e. omega (arith, p.3)))

-- and every other number is one
pub three_five-in : (n : ℕ) → n ≢ 1 → n ≢ 2 → n ≢ 4 → n ≢ 7 → IsMember (3 ∷ 5 ∷ []) n
three_five-in zero a b c d = member-zero (3 ∷ 5 ∷ [])
three_five-in (suc zero) a b c d = absurd (a refl)
three_five-in (suc (suc zero)) a b c d = absurd (b refl)
three_five-in (suc (suc (suc zero))) a b c d = member-entry (3 ∷ 5 ∷ []) 0 (omega arith)
three_five-in (suc (suc (suc (suc zero)))) a b c d = absurd (c refl)
three_five-in (suc (suc (suc (suc (suc zero))))) a b c d = member-entry (3 ∷ 5 ∷ []) 1 (omega arith)
three_five-in (suc (suc (suc (suc (suc (suc zero)))))) a b c d = (2 ∷ 0 ∷ [], record { places = refl; value = refl })
three_five-in (suc (suc (suc (suc (suc (suc (suc zero))))))) a b c d = absurd (d refl)
three_five-in (suc (suc (suc (suc (suc (suc (suc (suc n)))))))) a b c d =
    members-above (3 ∷ 5 ∷ []) 3 8 (omega arith) (member-entry (3 ∷ 5 ∷ []) 0 (omega arith)) eight_on (suc (suc (suc (suc (suc (suc (suc (suc n)))))))) (omega arith)

-- ---- <3, 5, 7>

five_on : (i : ℕ) → i < 3 → IsMember (3 ∷ 5 ∷ 7 ∷ []) (5 + i)
five_on zero l = (0 ∷ 1 ∷ 0 ∷ [], record { places = refl; value = refl })
five_on (suc zero) l = (2 ∷ 0 ∷ 0 ∷ [], record { places = refl; value = refl })
five_on (suc (suc zero)) l = (0 ∷ 0 ∷ 1 ∷ [], record { places = refl; value = refl })
five_on (suc (suc (suc i))) l = absurd (omega arith)

-- what <3, 5, 7> lacks
pub three_five_seven-out : (n : ℕ) → IsMember (3 ∷ 5 ∷ 7 ∷ []) n → (n ≢ 1) × (n ≢ 2) × (n ≢ 4)
three_five_seven-out n h =
    let p = by_three 3 5 7 n h.0 h.1 in
    ((λ e. omega (arith, p.4)), (λ e. omega (arith, p.4)), (λ e. omega (arith, p.4)))

-- it has all from 5 on
pub three_five_seven-above : (n : ℕ) → 5 ≤ n → IsMember (3 ∷ 5 ∷ 7 ∷ []) n
three_five_seven-above n l = members-above (3 ∷ 5 ∷ 7 ∷ []) 3 5 (omega arith) (member-entry (3 ∷ 5 ∷ 7 ∷ []) 0 (omega arith)) five_on n l

-- it lacks nothing else
pub three_five_seven-in : (n : ℕ) → n ≢ 1 → n ≢ 2 → n ≢ 4 → IsMember (3 ∷ 5 ∷ 7 ∷ []) n
three_five_seven-in zero a b c = member-zero (3 ∷ 5 ∷ 7 ∷ [])
three_five_seven-in (suc zero) a b c = absurd (a refl)
three_five_seven-in (suc (suc zero)) a b c = absurd (b refl)
three_five_seven-in (suc (suc (suc zero))) a b c = member-entry (3 ∷ 5 ∷ 7 ∷ []) 0 (omega arith)
three_five_seven-in (suc (suc (suc (suc zero)))) a b c = absurd (c refl)
three_five_seven-in (suc (suc (suc (suc (suc n))))) a b c = three_five_seven-above (suc (suc (suc (suc (suc n))))) (omega arith)

-- ---- <3, 4>

six_on : (i : ℕ) → i < 3 → IsMember (3 ∷ 4 ∷ []) (6 + i)
six_on zero l = (2 ∷ 0 ∷ [], record { places = refl; value = refl })
six_on (suc zero) l = (1 ∷ 1 ∷ [], record { places = refl; value = refl })
six_on (suc (suc zero)) l = (0 ∷ 2 ∷ [], record { places = refl; value = refl })
six_on (suc (suc (suc i))) l = absurd (omega arith)

-- what <3, 4> lacks
pub three_four-out : (n : ℕ) → IsMember (3 ∷ 4 ∷ []) n → (n ≢ 1) × (n ≢ 2) × (n ≢ 5)
three_four-out n h =
    let p = by_two 3 4 n h.0 h.1 in
    ((λ e. omega (arith, p.3)), (λ e. omega (arith, p.3)), (λ e. omega (arith, p.3)))

-- it lacks nothing else
pub three_four-in : (n : ℕ) → n ≢ 1 → n ≢ 2 → n ≢ 5 → IsMember (3 ∷ 4 ∷ []) n
three_four-in zero a b c = member-zero (3 ∷ 4 ∷ [])
three_four-in (suc zero) a b c = absurd (a refl)
three_four-in (suc (suc zero)) a b c = absurd (b refl)
three_four-in (suc (suc (suc zero))) a b c = member-entry (3 ∷ 4 ∷ []) 0 (omega arith)
three_four-in (suc (suc (suc (suc zero)))) a b c = member-entry (3 ∷ 4 ∷ []) 1 (omega arith)
three_four-in (suc (suc (suc (suc (suc zero))))) a b c = absurd (c refl)
three_four-in (suc (suc (suc (suc (suc (suc n)))))) a b c =
    members-above (3 ∷ 4 ∷ []) 3 6 (omega arith) (member-entry (3 ∷ 4 ∷ []) 0 (omega arith)) six_on (suc (suc (suc (suc (suc (suc n)))))) (omega arith)

-- ---- <3, 7, 8>

more_from_six : (i : ℕ) → i < 3 → IsMember (3 ∷ 7 ∷ 8 ∷ []) (6 + i)
more_from_six zero l = (2 ∷ 0 ∷ 0 ∷ [], record { places = refl; value = refl })
more_from_six (suc zero) l = (0 ∷ 1 ∷ 0 ∷ [], record { places = refl; value = refl })
more_from_six (suc (suc zero)) l = (0 ∷ 0 ∷ 1 ∷ [], record { places = refl; value = refl })
more_from_six (suc (suc (suc i))) l = absurd (omega arith)

-- what <3, 7, 8> lacks
pub three_seven_eight-out : (n : ℕ) → IsMember (3 ∷ 7 ∷ 8 ∷ []) n → (n ≢ 1) × (n ≢ 2) × (n ≢ 4) × (n ≢ 5)
three_seven_eight-out n h =
    let p = by_three 3 7 8 n h.0 h.1 in
    ((λ e. omega (arith, p.4)), (λ e. omega (arith, p.4)), (λ e. omega (arith, p.4)), (λ e. omega (arith, p.4)))

-- it has all from 6 on
pub three_seven_eight-above : (n : ℕ) → 6 ≤ n → IsMember (3 ∷ 7 ∷ 8 ∷ []) n
three_seven_eight-above n l = members-above (3 ∷ 7 ∷ 8 ∷ []) 3 6 (omega arith) (member-entry (3 ∷ 7 ∷ 8 ∷ []) 0 (omega arith)) more_from_six n l

-- it lacks nothing else
pub three_seven_eight-in : (n : ℕ) → n ≢ 1 → n ≢ 2 → n ≢ 4 → n ≢ 5 → IsMember (3 ∷ 7 ∷ 8 ∷ []) n
three_seven_eight-in zero a b c d = member-zero (3 ∷ 7 ∷ 8 ∷ [])
three_seven_eight-in (suc zero) a b c d = absurd (a refl)
three_seven_eight-in (suc (suc zero)) a b c d = absurd (b refl)
three_seven_eight-in (suc (suc (suc zero))) a b c d = member-entry (3 ∷ 7 ∷ 8 ∷ []) 0 (omega arith)
three_seven_eight-in (suc (suc (suc (suc zero)))) a b c d = absurd (c refl)
three_seven_eight-in (suc (suc (suc (suc (suc zero))))) a b c d = absurd (d refl)
three_seven_eight-in (suc (suc (suc (suc (suc (suc n)))))) a b c d = three_seven_eight-above (suc (suc (suc (suc (suc (suc n)))))) (omega arith)

-- ---- numerical semigroups

-- what divides 3 and a number that 3 does not divide is at most 1
pub coprime-to_three : (d g : ℕ) → d ∣ 3 → d ∣ g → g % 3 ≢ 0 → d ≤ 1
coprime-to_three zero g h k other = let e : ◌≡◌ {A = ℕ} 3 0 = mod-eq-zero_of_dvd 0 h in absurd (omega arith)
coprime-to_three (suc zero) g h k other = omega arith
coprime-to_three (suc (suc zero)) g h k other = let e : ◌≡◌ {A = ℕ} 1 0 = mod-eq-zero_of_dvd 2 h in absurd (omega arith)
coprime-to_three (suc (suc (suc zero))) g h k other = absurd (other (mod-eq-zero_of_dvd 3 k))
coprime-to_three (suc (suc (suc (suc d)))) g h k other = let l : suc (suc (suc (suc d))) ≤ 3 = le_of_dvd (omega arith) h in absurd (omega arith)

-- 1 generates N
pub naturals : IsNumericalSemigroup (1 ∷ [])
naturals = record {
  not_empty = omega arith;
  positive = All-cons (λ g. 1 ≤ g) 1 [] (omega arith) (All-nil (λ g. 1 ≤ g));
  coprime = λ d h. le_of_dvd (omega arith) (h 0 0 (omega arith));
}

-- 3 and 5 have no common divisor
pub three_five : IsNumericalSemigroup (3 ∷ 5 ∷ [])
three_five = record {
  not_empty = omega arith;
  positive = All-cons (λ g. 1 ≤ g) 3 (5 ∷ []) (omega arith) (All-cons (λ g. 1 ≤ g) 5 [] (omega arith) (All-nil (λ g. 1 ≤ g)));
  coprime = λ d h. coprime-to_three d 5 (h 0 0 (omega arith)) (h 1 0 (omega arith)) (λ e. omega arith);
}

-- nor have 3 and 4
pub three_four : IsNumericalSemigroup (3 ∷ 4 ∷ [])
three_four = record {
  not_empty = omega arith;
  positive = All-cons (λ g. 1 ≤ g) 3 (4 ∷ []) (omega arith) (All-cons (λ g. 1 ≤ g) 4 [] (omega arith) (All-nil (λ g. 1 ≤ g)));
  coprime = λ d h. coprime-to_three d 4 (h 0 0 (omega arith)) (h 1 0 (omega arith)) (λ e. omega arith);
}

-- nor 3, 5 and 7
pub three_five_seven : IsNumericalSemigroup (3 ∷ 5 ∷ 7 ∷ [])
three_five_seven = record {
  not_empty = omega arith;
  positive = All-cons (λ g. 1 ≤ g) 3 (5 ∷ 7 ∷ []) (omega arith) (All-cons (λ g. 1 ≤ g) 5 (7 ∷ []) (omega arith) (All-cons (λ g. 1 ≤ g) 7 [] (omega arith) (All-nil (λ g. 1 ≤ g))));
  coprime = λ d h. coprime-to_three d 5 (h 0 0 (omega arith)) (h 1 0 (omega arith)) (λ e. omega arith);
}

-- nor 3, 7 and 8
pub three_seven_eight : IsNumericalSemigroup (3 ∷ 7 ∷ 8 ∷ [])
three_seven_eight = record {
  not_empty = omega arith;
  positive = All-cons (λ g. 1 ≤ g) 3 (7 ∷ 8 ∷ []) (omega arith) (All-cons (λ g. 1 ≤ g) 7 (8 ∷ []) (omega arith) (All-cons (λ g. 1 ≤ g) 8 [] (omega arith) (All-nil (λ g. 1 ≤ g))));
  coprime = λ d h. coprime-to_three d 7 (h 0 0 (omega arith)) (h 1 0 (omega arith)) (λ e. omega arith);
}
