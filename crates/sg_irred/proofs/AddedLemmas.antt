-- A gap that moves each member above 0 to a member, and whose double is one, gives a numerical semigroup where it is
-- added.
use Rattle.std.proofs.Common.{◌≡◌, ℕ, zero, suc, ◌+◌, ◌-◌, ◌*◌, ◌<◌, ◌≤◌, List, [], ◌∷◌, length, get_or, sym, ap, subst, inl, inr, arith}
use Rattle.std.specs.Prelude.{◌⊎◌, All}
use Rattle.std.specs.Int.{◌∣◌}
use Rattle.std.proofs.lemmas.Bool.{cases_lt}
use Rattle.std.proofs.lemmas.List.Elements.{All-cons}
use Rattle.std.proofs.lemmas.Nat.Gcd.{le_of_dvd}
use Rattle.std.proofs.Math.Nat.{dvd-sub}
use Rattle.sg_defs.specs.Vectors.{value_of}
use Rattle.sg_defs.specs.Membership.{IsMember, Holds}
use Rattle.sg_defs.specs.Symmetry.{IsProperlyAbove}
use Rattle.sg_defs.proofs.MembershipLemmas.{member-zero, member-add, member-entry, member-induction}
use Rattle.sg_classes.proofs.GeneratorLemmas.{holds-from_entries, member-divides}

-- the entries above 0
abbrev positives : List ℕ → List ℕ
positives [] = []
positives (zero ∷ G) = positives G
positives (suc n ∷ G) = suc n ∷ positives G

positives-positive : (G : List ℕ) → All (λ g. 1 ≤ g) (positives G)
positives-positive [] = λ k d l. absurd (omega arith)
positives-positive (zero ∷ G) = positives-positive G
positives-positive (suc n ∷ G) = All-cons (λ g. 1 ≤ g) (suc n) (positives G) (omega arith) (positives-positive G)

positive-value : (G z : List ℕ) → IsMember (positives G) (value_of G z)
positive-value [] z = member-zero []
positive-value (zero ∷ G) [] = member-zero (positives G)
positive-value (zero ∷ G) (c ∷ z) = subst (IsMember (positives G)) (let e : value_of G z ≡ c * 0 + value_of G z = omega arith in e) (positive-value G z)
positive-value (suc n ∷ G) [] = member-zero (suc n ∷ positives G)
positive-value (suc n ∷ G) (c ∷ z) =
    let r = positive-value G z in
    (c ∷ r.0, record { places = ap suc r.1.places; value = ap (λ v. c * suc n + v) r.1.value })

original-value : (G z : List ℕ) → IsMember G (value_of (positives G) z)
original-value [] z = member-zero []
original-value (zero ∷ G) z =
    let r = original-value G z in
    (0 ∷ r.0, record { places = ap suc r.1.places; value = let e : 0 * 0 + value_of G r.0 ≡ value_of (positives G) z = omega (arith, r.1.value) in e })
original-value (suc n ∷ G) [] = member-zero (suc n ∷ G)
original-value (suc n ∷ G) (c ∷ z) =
    let r = original-value G z in
    (c ∷ r.0, record { places = ap suc r.1.places; value = ap (λ v. c * suc n + v) r.1.value })

-- they have the same members
positives-hold : (G : List ℕ) → Holds (positives G) G
positives-hold G n h = subst (IsMember (positives G)) h.1.value (positive-value G h.0)

positives-held : (G : List ℕ) → Holds G (positives G)
positives-held G n h = subst (IsMember G) h.1.value (original-value G h.0)

-- a gap that can be added
pub record IsAddable (G : List ℕ) (x : ℕ) : Type 0 where
  pub positive : 0 < x
  pub gap : IsMember G x → ⊥
  pub absorbed : (s : ℕ) → 0 < s → IsMember G s → IsMember G (x + s)
  pub double : IsMember G (x + x)

-- generators of the members and the gap
abbrev pub with_gap : List ℕ → ℕ → List ℕ
with_gap G x = x ∷ positives G

-- the members are the old ones and the gap
pub added-member : (G : List ℕ) (x n : ℕ) → IsAddable G x → IsMember (with_gap G x) n → IsMember G n ⊎ (n ≡ x)
added-member G x n a h = member-induction (λ n. IsMember G n ⊎ (n ≡ x)) (x ∷ positives G) (inl (member-zero G)) step n h
  where
    first : (n : ℕ) → IsMember G n ⊎ (n ≡ x) → IsMember G (n + x) ⊎ (n + x ≡ x)
    first n (inl member) = elim (cases_lt 0 n) [
      | inl some ↦ inl (subst (IsMember G) (let e : x + n ≡ n + x = omega arith in e) (a.absorbed n some member))
      | inr none ↦ inr (omega arith)
    ]
    first n (inr same) = inl (subst (IsMember G) (let e : x + x ≡ n + x = omega arith in e) a.double)

    other : (g n : ℕ) → 0 < g → IsMember G g → IsMember G n ⊎ (n ≡ x) → IsMember G (n + g) ⊎ (n + g ≡ x)
    other g n l p (inl member) = inl (member-add G n g member p)
    other g n l p (inr same) = inl (subst (λ k. IsMember G (k + g)) (sym same) (a.absorbed g l p))

    step : (i n : ℕ) → i < length (x ∷ positives G) → IsMember G n ⊎ (n ≡ x) → IsMember G (n + get_or (x ∷ positives G) i 0) ⊎ (n + get_or (x ∷ positives G) i 0 ≡ x)
    step zero n l p = first n p
    step (suc i) n l p =
        let inside : i < length (positives G) = omega arith in
        let g : 0 < get_or (positives G) i 0 = omega (arith, positives-positive G i 0 inside) in
        other (get_or (positives G) i 0) n g (positives-held G (get_or (positives G) i 0) (member-entry (positives G) i inside)) p

-- the old members are members
pub added-holds : (G : List ℕ) (x : ℕ) → Holds (with_gap G x) G
added-holds G x n h =
    holds-from_entries (x ∷ positives G) (positives G) (λ k l. member-entry (x ∷ positives G) (suc k) (omega arith)) n (positives-hold G n h)

-- two members that follow each other leave no common divisor but 1
pub added-above : (G : List ℕ) (x c : ℕ) → IsMember G c → IsMember G (c + 1) → IsAddable G x → IsProperlyAbove G (with_gap G x)
added-above G x c here next a = record {
  semigroup = record {
    not_empty = omega arith;
    positive = All-cons (λ g. 1 ≤ g) x (positives G) (omega (arith, a.positive)) (positives-positive G);
    coprime = λ d h.
        let divides : (n : ℕ) → IsMember G n → d ∣ n = λ n m. member-divides (x ∷ positives G) d n (λ i l. h i 0 l) (added-holds G x n m) in
        let e : (c + 1) - c ≡ 1 = omega arith in
        le_of_dvd (omega arith) (subst (λ n. d ∣ n) e (dvd-sub d (divides (c + 1) next) (divides c here)));
  };
  holds = added-holds G x;
  more = (x, member-entry (x ∷ positives G) 0 (omega arith), a.gap);
}
