-- A set has one ascending list, and a numerical semigroup one minimal list.
use Rattle.std.proofs.Common.{◌≡◌, ℕ, ◌<◌, List, length, get_or, sym, subst, inl, inr, arith}
use Rattle.std.specs.Prelude.{Contains, ◌↔◌}
use Rattle.std.specs.List.Sorted.{IsStrictlyIncreasing}
use Rattle.std.proofs.lemmas.Bool.{cases_eq}
use Rattle.std.proofs.lemmas.List.Kept.{AllPairs-from_increasing}
use Rattle.sg_defs.specs.Membership.{IsMember, IsNumericalSemigroup, Generates}
use Rattle.sg_defs.specs.Listings.{Lists}
use Rattle.sg_defs.proofs.MembershipLemmas.{member-entry}
use Rattle.sg_defs.proofs.MinimalLemmas.{no_sum}
use Rattle.sg_defs.proofs.OneLemmas.{same-ordered}
use Rattle.sg_classes.proofs.GeneratorLemmas.{contains-place, place-contains, member-split}

-- ascending lists with the same entries are the same
pub same-increasing : (xs ys : List ℕ) → IsStrictlyIncreasing xs → IsStrictlyIncreasing ys → ((x : ℕ) → Contains xs x → Contains ys x) → ((x : ℕ) → Contains ys x → Contains xs x) → xs ≡ ys
same-increasing xs ys p q f g = same-ordered (λ x y. x < y) (λ x y l m. omega arith) xs ys (AllPairs-from_increasing xs p) (AllPairs-from_increasing ys q) f g

-- a set has one ascending list
pub one-list : (P : ℕ → Type 0) (xs ys : List ℕ) → Lists P xs → Lists P ys → xs ≡ ys
one-list P xs ys a b = same-increasing xs ys a.ascending b.ascending
    (λ x h. (b.exactly x).1 ((a.exactly x).0 h)) (λ x h. (a.exactly x).1 ((b.exactly x).0 h))

-- each entry of a minimal list stands in every list that generates the same
pub entry-listed : (P : ℕ → Type 0) (M N : List ℕ) → Generates P M → IsNumericalSemigroup N → ((n : ℕ) → P n ↔ IsMember N n) → (k : ℕ) → k < length M → Contains N (get_or M k 0)
entry-listed P M N g s same k inside =
    let x = get_or M k 0 in
    let in_n : IsMember N x = (same x).0 ((g.same x).1 (member-entry M k inside)) in
    elim (member-split N x in_n) [
      | inl e ↦ absurd (omega (arith, g.semigroup.positive k 0 inside, e))
      | inr p ↦ elim (cases_eq p.1 0) [
        | inl none ↦ subst (Contains N) (let e : get_or N p.0 0 ≡ x = omega (arith, p.4, none) in e) (place-contains N p.0 p.2)
        | inr some ↦
            let first : IsMember M p.1 = (g.same p.1).0 ((same p.1).1 p.3) in
            let second : IsMember M (get_or N p.0 0) = (g.same (get_or N p.0 0)).0 ((same (get_or N p.0 0)).1 (member-entry N p.0 p.2)) in
            absurd (no_sum M g.minimal k inside p.1 (get_or N p.0 0) (omega (arith, some)) (omega (arith, s.positive p.0 0 p.2)) first second (sym p.4))
      ]
    ]

-- a numerical semigroup has one minimal list
pub one-minimal_list : (P : ℕ → Type 0) (M N : List ℕ) → Generates P M → Generates P N → M ≡ N
one-minimal_list P M N g h = same-increasing M N g.minimal.ascending h.minimal.ascending
    (λ x c. let p = contains-place M x c in subst (Contains N) p.2 (entry-listed P M N g h.semigroup h.same p.0 p.1))
    (λ x c. let p = contains-place N x c in subst (Contains M) p.2 (entry-listed P N M h g.semigroup g.same p.0 p.1))
