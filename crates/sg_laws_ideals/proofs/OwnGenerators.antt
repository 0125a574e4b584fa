-- The minimal generators of the canonical and the maximal ideal, and the semigroup itself as an ideal.
use Rattle.std.proofs.Common.{◌≡◌, ◌≢◌, ℕ, ◌+◌, ◌<◌, ◌↔◌, List, [], ◌∷◌, length, get_or, map, refl, sym, subst, ◌∙◌, inl, inr, arith}
use Rattle.std.specs.Prelude.{AllPairs, Contains, ℤ, pos, ◌+ℤ◌, ◌-ℤ◌, ◌<ℤ◌}
use Rattle.std.proofs.lemmas.Bool.{cases_lt}
use Rattle.std.proofs.lemmas.Int.{ints}
use Rattle.std.proofs.lemmas.List.{get_or-map, length-map}
use Rattle.std.proofs.lemmas.List.Kept.{AllPairs-from_increasing}
use Rattle.sg_defs.specs.Ideals.{IsIdealMember, IsInCanonical, IsInMaximal, IsMinimalIdeal}
use Rattle.sg_defs.specs.Invariants.{IsFrobenius, IsPseudoFrobenius}
use Rattle.sg_defs.specs.Membership.{IsMember, IsIntegerMember, IsMinimal, IsNumericalSemigroup}
use Rattle.sg_defs.specs.Symmetry.{IsSymmetric}
use Rattle.sg_defs.proofs.ListLemmas.{contains-cases}
use Rattle.sg_defs.proofs.MembershipLemmas.{member-zero, member-add, member-entry}
use Rattle.sg_defs.proofs.MinimalLemmas.{no_sum}
use Rattle.sg_defs.proofs.OneLemmas.{one-frobenius}
use Rattle.sg_ideal.specs.Value.{GeneratesIdeal}
use Rattle.sg_ideal.proofs.FromLemmas.{at-natural, natural-at}
use Rattle.sg_ideal.proofs.OwnLemmas.{maximal-same}
use Rattle.sg_laws_invariants.proofs.InvariantsExist.{integer_member-decided, frobenius-exists}

-- the difference of an integer from itself is a member
self-member : (G : List ℕ) (x : ℤ) → IsIntegerMember G (x -ℤ x)
self-member G x = natural-at (IsMember G) (x -ℤ x) 0 (omega (arith, ints)) (member-zero G)

module _ (G : List ℕ) (f : ℤ) (frobenius : IsFrobenius G f) where
  mirror-out : (x : ℤ) → IsInCanonical G x → IsIntegerMember G (f -ℤ x) → ⊥
  mirror-out x c = subst (λ e. IsIntegerMember G (e -ℤ x) → ⊥) (one-frobenius G c.0 f c.1 frobenius) c.2

  module _ (I : List ℤ) (g : GeneratesIdeal G (IsInCanonical G) I) where
    listed-in : (x : ℤ) → Contains I x → IsInCanonical G x
    listed-in x c = (g.same x).1 (x, c, self-member G x)

    -- F less a minimal generator is a pseudo-Frobenius number
    pseudo-from : (x : ℤ) → Contains I x → IsPseudoFrobenius G (f -ℤ x)
    pseudo-from x c = record {
      outside = mirror-out x (listed-in x c);
      absorbed = λ s some q. elim (integer_member-decided G ((f -ℤ x) +ℤ pos s)) [
        | inl member ↦ member
        | inr out ↦
            let e : f -ℤ (x -ℤ pos s) ≡ (f -ℤ x) +ℤ pos s = omega (arith, ints) in
            let m = (g.same (x -ℤ pos s)).0 (f, frobenius, λ p. out (subst (IsIntegerMember G) e p)) in
            let n = at-natural (IsMember G) ((x -ℤ pos s) -ℤ m.0) m.2 in
            let d = n.1 in
            let other : x ≢ m.0 = λ same. omega (arith, ints, d, same, some) in
            absurd (g.minimal.needed x m.0 c m.1 other (natural-at (IsMember G) (x -ℤ m.0) (n.0 + s) (omega (arith, ints, d)) (member-add G n.0 s n.2 q)))
      ];
    }

    -- and each of these gives a minimal generator
    pseudo-to : (x : ℤ) → IsPseudoFrobenius G (f -ℤ x) → Contains I x
    pseudo-to x p =
        let m = (g.same x).0 (f, frobenius, p.outside) in
        let n = at-natural (IsMember G) (x -ℤ m.0) m.2 in
        let d = n.1 in
        elim (cases_lt 0 n.0) [
          | inl more ↦
              let e : (f -ℤ x) +ℤ pos n.0 ≡ f -ℤ m.0 = omega (arith, ints, d) in
              absurd (mirror-out m.0 (listed-in m.0 m.1) (subst (IsIntegerMember G) e (p.absorbed n.0 more n.2)))
          | inr none ↦ let e : m.0 ≡ x = omega (arith, ints, d, none) in subst (Contains I) e m.1
        ]

    -- so these are the minimal generators
    pub canonical-generators : (x : ℤ) → Contains I x ↔ IsPseudoFrobenius G (f -ℤ x)
    canonical-generators x = (pseudo-from x, pseudo-to x)

-- an integer of the list of generators is one of them
module _ (G : List ℕ) (s : IsNumericalSemigroup G) (minimal : IsMinimal G) where
  entry-at : (k : ℕ) (d : ℤ) → k < length G → get_or (map (λ n. pos n) G) k d ≡ pos (get_or G k 0)
  entry-at k d inside = get_or-map (λ n. pos n) G k 0 d inside

  listed-from : (x : ℤ) → Contains (map (λ n. pos n) G) x → (k : ℕ) × (k < length G) × (x ≡ pos (get_or G k 0))
  listed-from x c =
      let inside : c.0 < length G = omega (arith, c.1, length-map G (λ n. pos n)) in
      (c.0, inside, sym c.2 ∙ entry-at c.0 x inside)

  ascending : AllPairs (λ x y. x <ℤ y) (map (λ n. pos n) G)
  ascending i j d less inside =
      let within : j < length G = omega (arith, inside, length-map G (λ n. pos n)) in
      let up = AllPairs-from_increasing G minimal.ascending i j 0 less within in
      let a = entry-at i d (omega arith) in
      let b = entry-at j d within in
      omega (arith, ints, up, a, b)

  needed : (x y : ℤ) → Contains (map (λ n. pos n) G) x → Contains (map (λ n. pos n) G) y → x ≢ y → IsIntegerMember G (x -ℤ y) → ⊥
  needed x y p q other m =
      let a = listed-from x p in
      let b = listed-from y q in
      let n = at-natural (IsMember G) (x -ℤ y) m in
      let d = n.1 in
      let e = a.2 in
      let h = b.2 in
      elim (cases_lt 0 n.0) [
        | inl more ↦ no_sum G minimal a.0 a.1 n.0 (get_or G b.0 0) more (omega (arith, s.positive b.0 0 b.1)) n.2 (member-entry G b.0 b.1) (omega (arith, ints, d, e, h))
        | inr none ↦ other (omega (arith, ints, d, none))
      ]

  -- the minimal generators of the semigroup are those of its maximal ideal
  pub maximal-generators : GeneratesIdeal G (IsInMaximal G) (map (λ n. pos n) G)
  maximal-generators = record {
    not_empty = omega (arith, s.not_empty, length-map G (λ n. pos n));
    minimal = record { ascending = ascending; needed = needed };
    same = maximal-same G s;
  }

-- the members of [0] + S are those of S
pub zero-ideal : (G : List ℕ) (x : ℤ) → IsIdealMember G (pos 0 ∷ []) x ↔ IsIntegerMember G x
zero-ideal G x = (
  (λ m. elim (contains-cases (pos 0) [] m.0 m.1) [
    | inl e ↦ let d : x -ℤ m.0 ≡ x = omega (arith, ints, e) in subst (IsIntegerMember G) d m.2
    | inr none ↦ absurd (omega (arith, none.1))
  ]),
  (λ m. (pos 0, (0, omega arith, refl), subst (IsIntegerMember G) (let e : x ≡ x -ℤ pos 0 = omega (arith, ints) in e) m)),
)

-- it is a minimal list
zero-minimal : (G : List ℕ) → IsMinimalIdeal G (pos 0 ∷ [])
zero-minimal G = record {
  ascending = λ i j d l k. absurd (omega arith);
  needed = λ x y p q other m. elim (contains-cases (pos 0) [] x p) [
    | inl a ↦ elim (contains-cases (pos 0) [] y q) [ inl b ↦ other (sym a ∙ b) | inr none ↦ omega (arith, none.1) ]
    | inr none ↦ omega (arith, none.1)
  ];
}

-- [0] + S is the canonical ideal exactly where S is symmetric
pub symmetric-canonical : (G : List ℕ) → IsNumericalSemigroup G → GeneratesIdeal G (IsInCanonical G) (pos 0 ∷ []) ↔ IsSymmetric G
symmetric-canonical G s = (to, from)
  where
    to : GeneratesIdeal G (IsInCanonical G) (pos 0 ∷ []) → IsSymmetric G
    to g =
        let f = frobenius-exists G s in
        let member : (x : ℤ) → IsInCanonical G x → IsIntegerMember G x = λ x c. (zero-ideal G x).0 ((g.same x).0 c) in
        record {
          frobenius = f.0;
          is_frobenius = f.1;
          mirrored = λ x. record {
            one = elim (integer_member-decided G (f.0 -ℤ x)) [ inl other ↦ inr other | inr out ↦ inl (member x (f.0, f.1, out)) ];
            apart = λ a b. mirror-out G f.0 f.1 x ((g.same x).1 ((zero-ideal G x).1 a)) b;
          };
        }

    from : IsSymmetric G → GeneratesIdeal G (IsInCanonical G) (pos 0 ∷ [])
    from symmetric = record {
      not_empty = omega arith;
      minimal = zero-minimal G;
      same = λ x. (
        (λ c. (zero-ideal G x).1 (elim ((symmetric.mirrored x).one) [
          | inl member ↦ member
          | inr other ↦ absurd (mirror-out G symmetric.frobenius symmetric.is_frobenius x c other)
        ])),
        (λ m. (symmetric.frobenius, symmetric.is_frobenius, (symmetric.mirrored x).apart ((zero-ideal G x).0 m))),
      );
    }
