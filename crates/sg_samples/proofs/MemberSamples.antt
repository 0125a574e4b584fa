-- Minimal lists, generated lists, multiplicities and Apery lists of small semigroups.
use Rattle.std.proofs.Common.{◌≡◌, ◌≢◌, ℕ, zero, suc, ◌+◌, ◌%◌, ◌<◌, ◌≤◌, [], ◌∷◌, get_or, refl, arith}
use Rattle.std.specs.Prelude.{remove}
use Rattle.std.specs.Int.{◌∣◌}
use Rattle.std.proofs.lemmas.Nat.Gcd.{dvd_of_mod-eq-zero}
use Rattle.sg_defs.specs.Apery.{IsApery, IsAperyEntry}
use Rattle.sg_defs.specs.Membership.{IsMember, IsNumericalSemigroup, IsMinimal, Generates, Holds, IsMultiplicity}
use Rattle.sg_defs.proofs.MembershipLemmas.{member-entry, member-zero}
use Rattle.sg_samples.proofs.SmallLemmas.{ascending-cons, ascending-one, by_one, by_two, by_three}
use Rattle.sg_samples.proofs.KnownSemigroups.{three_five, three_five-out, three_five_seven, three_five_seven-in, three_five_seven-out}

-- 8 = 3 + 5
pub eight : IsMember (3 ∷ 5 ∷ []) 8
eight = (1 ∷ 1 ∷ [], record { places = refl; value = refl })

-- 7 is no such sum
pub not_seven : IsMember (3 ∷ 5 ∷ []) 7 → ⊥
not_seven h = (three_five-out 7 h).3 refl

-- 2 divides both
pub even : IsNumericalSemigroup (4 ∷ 6 ∷ []) → ⊥
even s = let h : 2 ≤ 1 = s.coprime 2 each in omega arith
  where
    each : (k d : ℕ) → k < 2 → 2 ∣ get_or (4 ∷ 6 ∷ []) k d
    each zero d l = dvd_of_mod-eq-zero 2 refl
    each (suc zero) d l = dvd_of_mod-eq-zero 2 refl
    each (suc (suc k)) d l = absurd (omega arith)

pub three_five-minimal : IsMinimal (3 ∷ 5 ∷ [])
three_five-minimal = record { ascending = ascending-cons 3 5 [] (omega arith) (ascending-one 5); needed = needed }
  where
    needed : (k : ℕ) → k < 2 → IsMember (remove (3 ∷ 5 ∷ []) k) (get_or (3 ∷ 5 ∷ []) k 0) → ⊥
    needed zero l h = let p = by_one 5 3 h.0 h.1 in omega (arith, p.2)
    needed (suc zero) l h = let p = by_one 3 5 h.0 h.1 in omega (arith, p.2)
    needed (suc (suc k)) l h = absurd (omega arith)

-- 8 = 3 + 5
pub eight_is_spare : IsMinimal (3 ∷ 5 ∷ 8 ∷ []) → ⊥
eight_is_spare m = m.needed 2 (omega arith) eight

-- <3, 5, 7> has no generator to spare
pub three_five_seven-minimal : IsMinimal (3 ∷ 5 ∷ 7 ∷ [])
three_five_seven-minimal = record { ascending = ascending-cons 3 5 (7 ∷ []) (omega arith) (ascending-cons 5 7 [] (omega arith) (ascending-one 7)); needed = needed }
  where
    needed : (k : ℕ) → k < 3 → IsMember (remove (3 ∷ 5 ∷ 7 ∷ []) k) (get_or (3 ∷ 5 ∷ 7 ∷ []) k 0) → ⊥
    needed zero l h = let p = by_two 5 7 3 h.0 h.1 in omega (arith, p.3)
    needed (suc zero) l h = let p = by_two 3 7 5 h.0 h.1 in omega (arith, p.3)
    needed (suc (suc zero)) l h = let p = by_two 3 5 7 h.0 h.1 in omega (arith, p.3)
    needed (suc (suc (suc k))) l h = absurd (omega arith)

-- nor has <3, 4>
pub three_four-minimal : IsMinimal (3 ∷ 4 ∷ [])
three_four-minimal = record { ascending = ascending-cons 3 4 [] (omega arith) (ascending-one 4); needed = needed }
  where
    needed : (k : ℕ) → k < 2 → IsMember (remove (3 ∷ 4 ∷ []) k) (get_or (3 ∷ 4 ∷ []) k 0) → ⊥
    needed zero l h = let p = by_one 4 3 h.0 h.1 in omega (arith, p.2)
    needed (suc zero) l h = let p = by_one 3 4 h.0 h.1 in omega (arith, p.2)
    needed (suc (suc k)) l h = absurd (omega arith)

-- nor has N
pub one-minimal : IsMinimal (1 ∷ [])
one-minimal = record { ascending = ascending-one 1; needed = needed }
  where
    needed : (k : ℕ) → k < 1 → IsMember (remove (1 ∷ []) k) (get_or (1 ∷ []) k 0) → ⊥
    needed zero l h = omega (arith, h.1.value)
    needed (suc k) l h = absurd (omega arith)

-- the naturals but 1, 2 and 4
pub all_but_three : Generates (λ n. (n ≢ 1) × (n ≢ 2) × (n ≢ 4)) (3 ∷ 5 ∷ 7 ∷ [])
all_but_three = record {
  semigroup = three_five_seven;
  minimal = three_five_seven-minimal;
  same = λ n. ((λ h. three_five_seven-in n h.0 h.1 h.2), three_five_seven-out n);
}

-- 8 = 3 + 5 is to spare
pub without_the_spare : Generates (IsMember (3 ∷ 5 ∷ 8 ∷ [])) (3 ∷ 5 ∷ [])
without_the_spare = record { semigroup = three_five; minimal = three_five-minimal; same = λ n. (less n, more n) }
  where
    less : (n : ℕ) → IsMember (3 ∷ 5 ∷ 8 ∷ []) n → IsMember (3 ∷ 5 ∷ []) n
    less n h =
        let p = by_three 3 5 8 n h.0 h.1 in
        ((p.0 + p.2) ∷ (p.1 + p.2) ∷ [], record { places = refl; value = omega (arith, p.4) })

    more : (n : ℕ) → IsMember (3 ∷ 5 ∷ []) n → IsMember (3 ∷ 5 ∷ 8 ∷ []) n
    more n h =
        let p = by_two 3 5 n h.0 h.1 in
        (p.0 ∷ p.1 ∷ 0 ∷ [], record { places = refl; value = omega (arith, p.3) })

-- more generators, more members
pub more_generators : Holds (3 ∷ 5 ∷ 7 ∷ []) (3 ∷ 5 ∷ [])
more_generators n h =
    let p = by_two 3 5 n h.0 h.1 in
    (p.0 ∷ p.1 ∷ 0 ∷ [], record { places = refl; value = omega (arith, p.3) })

-- 7 is the member that <3, 5> lacks
pub fewer_generators : Holds (3 ∷ 5 ∷ []) (3 ∷ 5 ∷ 7 ∷ []) → ⊥
fewer_generators h = not_seven (h 7 (member-entry (3 ∷ 5 ∷ 7 ∷ []) 2 (omega arith)))

-- the multiplicity of <3, 5>
pub three_five-multiplicity : IsMultiplicity (3 ∷ 5 ∷ []) 3
three_five-multiplicity = record { positive = omega arith; member = member-entry (3 ∷ 5 ∷ []) 0 (omega arith); least = least }
  where
    least : (n : ℕ) → 0 < n → IsMember (3 ∷ 5 ∷ []) n → 3 ≤ n
    least n l h = let o = three_five-out n h in omega arith

-- 5 is not, as 3 is below it
pub not_five : IsMultiplicity (3 ∷ 5 ∷ []) 5 → ⊥
not_five m = let l = m.least 3 (omega arith) (member-entry (3 ∷ 5 ∷ []) 0 (omega arith)) in omega arith

-- ---- Apery lists

ten : IsMember (3 ∷ 5 ∷ []) 10
ten = (0 ∷ 2 ∷ [], record { places = refl; value = refl })

-- the Apery list of <3, 5> modulo 3
pub apery : IsApery (3 ∷ 5 ∷ []) 3 (0 ∷ 10 ∷ 5 ∷ [])
apery = record { entries = refl; member = member; residue = residue; least = least }
  where
    member : (i : ℕ) → i < 3 → IsMember (3 ∷ 5 ∷ []) (get_or (0 ∷ 10 ∷ 5 ∷ []) i 0)
    member zero l = member-zero (3 ∷ 5 ∷ [])
    member (suc zero) l = ten
    member (suc (suc zero)) l = member-entry (3 ∷ 5 ∷ []) 1 (omega arith)
    member (suc (suc (suc i))) l = absurd (omega arith)

    residue : (i : ℕ) → i < 3 → get_or (0 ∷ 10 ∷ 5 ∷ []) i 0 % 3 ≡ i
    residue zero l = refl
    residue (suc zero) l = refl
    residue (suc (suc zero)) l = refl
    residue (suc (suc (suc i))) l = absurd (omega arith)

    least : (i y : ℕ) → i < 3 → y + 3 ≡ get_or (0 ∷ 10 ∷ 5 ∷ []) i 0 → IsMember (3 ∷ 5 ∷ []) y → ⊥
    least zero y l e h = omega arith
    least (suc zero) y l e h = (three_five-out y h).3 (omega arith)
    least (suc (suc zero)) y l e h = (three_five-out y h).1 (omega arith)
    least (suc (suc (suc i))) y l e h = absurd (omega arith)

-- its entry 1
pub apery_entry : IsAperyEntry (3 ∷ 5 ∷ []) 3 1 10
apery_entry = record { member = ten; residue = refl; least = λ y e h. (three_five-out y h).3 (omega arith) }

-- 13 is a member of that class, and not the least
pub not_entry : IsAperyEntry (3 ∷ 5 ∷ []) 3 1 13 → ⊥
not_entry a = a.least 10 refl ten
