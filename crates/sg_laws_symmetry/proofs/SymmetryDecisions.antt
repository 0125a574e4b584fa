-- Whether a numerical semigroup is symmetric, pseudo-symmetric or irreducible is decided, by its genus and its conductor.
use Rattle.std.proofs.Common.{◌≡◌, ℕ, ◌+◌, ◌*◌, ◌↔◌, List, inl, inr, arith}
use Rattle.std.specs.Prelude.{◌⊎◌, ℤ, pos, ◌-ℤ◌}
use Rattle.std.proofs.lemmas.Int.{ints}
use Rattle.sg_defs.specs.Invariants.{IsFrobenius}
use Rattle.sg_defs.specs.Membership.{IsIntegerMember, IsNumericalSemigroup}
use Rattle.sg_defs.specs.Symmetry.{IsSymmetric, IsPseudoSymmetric, IsIrreducible, IsReducible}
use Rattle.sg_defs.proofs.OneLemmas.{one-frobenius}
use Rattle.sg_irred.proofs.TestLemmas.{symmetric-by_conductor, pseudo_symmetric-by_conductor, irreducible-by_conductor, neither-reducible, unmirrored-exists}
use Rattle.sg_laws_invariants.specs.Decided.{Decided}
use Rattle.sg_laws_invariants.proofs.Decisions.{decided-or, decided-same, decided-eq}
use Rattle.sg_defs.proofs.DecidedLemmas.{member-decided}
use Rattle.sg_laws_invariants.proofs.InvariantsExist.{conductor-exists, genus-exists}

-- symmetric
pub symmetric-decided : (G : List ℕ) → IsNumericalSemigroup G → Decided (IsSymmetric G)
symmetric-decided G s =
    let c = conductor-exists G s in
    let g = genus-exists G s in
    let t = symmetric-by_conductor G c.0 g.0 c.1 (member-decided G) g.1 in
    decided-same (2 * g.0 ≡ c.0) (IsSymmetric G) t.0 t.1 (decided-eq (2 * g.0) c.0)

-- pseudo-symmetric
pub pseudo_symmetric-decided : (G : List ℕ) → IsNumericalSemigroup G → Decided (IsPseudoSymmetric G)
pseudo_symmetric-decided G s =
    let c = conductor-exists G s in
    let g = genus-exists G s in
    let t = pseudo_symmetric-by_conductor G c.0 g.0 c.1 (member-decided G) g.1 in
    decided-same (2 * g.0 ≡ c.0 + 1) (IsPseudoSymmetric G) t.0 t.1 (decided-eq (2 * g.0) (c.0 + 1))

-- irreducible
pub irreducible-decided : (G : List ℕ) → IsNumericalSemigroup G → Decided (IsIrreducible G)
irreducible-decided G s =
    let c = conductor-exists G s in
    let g = genus-exists G s in
    let t = irreducible-by_conductor G c.0 g.0 c.1 (member-decided G) g.1 in
    decided-same ((2 * g.0 ≡ c.0) ⊎ (2 * g.0 ≡ c.0 + 1)) (IsIrreducible G) t.0 t.1
    (decided-or (2 * g.0 ≡ c.0) (2 * g.0 ≡ c.0 + 1) (decided-eq (2 * g.0) c.0) (decided-eq (2 * g.0) (c.0 + 1)))

-- an irreducible one is symmetric or pseudo-symmetric, and no other is
pub irreducible-kinds : (G : List ℕ) → IsNumericalSemigroup G → IsIrreducible G ↔ (IsSymmetric G ⊎ IsPseudoSymmetric G)
irreducible-kinds G s =
    let c = conductor-exists G s in
    let g = genus-exists G s in
    let t = irreducible-by_conductor G c.0 g.0 c.1 (member-decided G) g.1 in
    let symmetric = symmetric-by_conductor G c.0 g.0 c.1 (member-decided G) g.1 in
    let pseudo_symmetric = pseudo_symmetric-by_conductor G c.0 g.0 c.1 (member-decided G) g.1 in (
      (λ i. elim (t.1 i) [ inl least ↦ inl (symmetric.0 least) | inr next ↦ inr (pseudo_symmetric.0 next) ]),
      (λ k. elim k [ inl least ↦ t.0 (inl (symmetric.1 least)) | inr next ↦ t.0 (inr (pseudo_symmetric.1 next)) ]),
    )

-- what is neither is reducible
pub reducible-shown : (G : List ℕ) → IsNumericalSemigroup G → (IsSymmetric G → ⊥) → (IsPseudoSymmetric G → ⊥) → IsReducible G
reducible-shown G s not nor =
    let c = conductor-exists G s in
    neither-reducible G (pos c.0 -ℤ pos 1) c.1 (omega (arith, ints)) (member-decided G) not nor

-- what is not symmetric has an integer that is not mirrored
pub unmirrored-shown : (G : List ℕ) (f : ℤ) → IsNumericalSemigroup G → IsFrobenius G f → (IsSymmetric G → ⊥) → (x : ℤ) × (IsIntegerMember G x → ⊥) × (IsIntegerMember G (f -ℤ x) → ⊥)
unmirrored-shown G f s h not =
    let c = conductor-exists G s in
    let e = one-frobenius G (pos c.0 -ℤ pos 1) f c.1 h in
    let u = unmirrored-exists G f h (omega (arith, ints, e)) (member-decided G) not in
    (u.0, u.1.0, u.1.1)
