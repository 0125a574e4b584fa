-- What generators make, and where they stand in their list.
use Rattle.std.proofs.Common.{◌≡◌, ℕ, ◌+◌, ◌<◌, List, [], ◌∷◌, ◌++◌, length, get_or, refl, sym, subst, ◌∙◌, inl, inr, arith}
use Rattle.std.specs.Prelude.{Contains, ◌⊎◌}
use Rattle.std.specs.Int.{◌∣◌}
use Rattle.std.proofs.lemmas.Bool.{cases_lt}
use Rattle.std.proofs.lemmas.Nat.Gcd.{dvd-zero}
use Rattle.std.proofs.lemmas.List.{get_or_default, get_or_append_left, get_or_push, length_push}
use Rattle.std.proofs.lemmas.List.Elements.{Contains-get_or}
use Rattle.std.proofs.Math.Nat.{dvd-add}
use Rattle.sg_defs.specs.Membership.{IsMember, IsNumericalSemigroup, Holds}
use Rattle.sg_defs.proofs.MembershipLemmas.{member-zero, member-add, member-entry, member-induction}

-- the place of an element, read with 0
pub contains-place : (xs : List ℕ) (x : ℕ) → Contains xs x → (k : ℕ) × (k < length xs) × (get_or xs k 0 ≡ x)
contains-place xs x h = (h.0, h.1, get_or_default xs h.0 0 x h.1 ∙ h.2)

pub place-contains : (xs : List ℕ) (k : ℕ) → k < length xs → Contains xs (get_or xs k 0)
place-contains xs k l = Contains-get_or xs k 0 l

-- what is listed is a member
pub member-listed : (G : List ℕ) (g : ℕ) → Contains G g → IsMember G g
member-listed G g h = let p = contains-place G g h in subst (IsMember G) p.2 (member-entry G p.0 p.1)

-- where each entry of G is a member of H, so is each member of G
pub holds-from_entries : (H G : List ℕ) → ((k : ℕ) → k < length G → IsMember H (get_or G k 0)) → Holds H G
holds-from_entries H G h = member-induction (IsMember H) G (member-zero H) (λ i n l p. member-add H n (get_or G i 0) p (h i l))

-- a member is 0, or an entry and a member
pub member-split : (G : List ℕ) (n : ℕ) → IsMember G n → (n ≡ 0) ⊎ ((i r : ℕ) × (i < length G) × IsMember G r × (n ≡ r + get_or G i 0))
member-split G n h = (member-induction (λ n. IsMember G n × ((n ≡ 0) ⊎ ((i r : ℕ) × (i < length G) × IsMember G r × (n ≡ r + get_or G i 0)))) G
    (member-zero G, inl refl)
    (λ i n l p. (member-add G n (get_or G i 0) p.0 (member-entry G i l), inr (i, n, l, p.0, refl))) n h).1

-- what divides each entry divides each member
pub member-divides : (G : List ℕ) (d n : ℕ) → ((i : ℕ) → i < length G → d ∣ get_or G i 0) → IsMember G n → d ∣ n
member-divides G d n h = member-induction (λ n. d ∣ n) G (dvd-zero d) (λ i n l p. dvd-add d p (h i l)) n

-- an entry of a numerical semigroup's list is above 0
pub entry-positive : (D : List ℕ) → IsNumericalSemigroup D → (g : ℕ) → Contains D g → 0 < g
entry-positive D s g h = let p = contains-place D g h in omega (arith, s.positive p.0 0 p.1, p.2)

-- a place of a list with one more at its end
pub push_cases : (M : List ℕ) (g k : ℕ) → k < length (M ++ g ∷ []) → ((k < length M) × (get_or (M ++ g ∷ []) k 0 ≡ get_or M k 0)) ⊎ ((k ≡ length M) × (get_or (M ++ g ∷ []) k 0 ≡ g))
push_cases M g k l = elim (cases_lt k (length M)) [
  | inl less ↦ inl (less, get_or_append_left M (g ∷ []) 0 k less)
  | inr more ↦
      let e : length M ≡ k = omega (arith, length_push M g) in
      inr (sym e, get_or_push M g 0 k e)
]

-- what holds of each place and its number, after one number more
pub each-push : (P : ℕ → ℕ → Type 0) (M : List ℕ) (v n : ℕ) → length M ≡ n → ((i : ℕ) → i < n → P i (get_or M i 0)) → P n v → (i : ℕ) → i < n + 1 → P i (get_or (M ++ v ∷ []) i 0)
each-push P M v n long before here i l = elim (push_cases M v i (omega (arith, length_push M v))) [
  | inl a ↦ subst (P i) (sym a.1) (before i (omega arith))
  | inr a ↦ let e : n ≡ i = omega arith in subst (λ j. P j (get_or (M ++ v ∷ []) i 0)) e (subst (P n) (sym a.1) here)
]
