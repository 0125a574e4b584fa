-- Whether a number is a sum of given generators is decided, by the first generator and then the others.
use Rattle.std.proofs.Common.{◌≡◌, ℕ, zero, suc, ◌+◌, ◌-◌, ◌*◌, ◌<◌, ◌≤◌, List, [], ◌∷◌, sym, ap, subst, inl, inr, arith}
use Rattle.std.specs.Prelude.{◌⊎◌}
use Rattle.std.proofs.lemmas.Bool.{cases_lt, cases_eq}
use Rattle.sg_defs.specs.Vectors.{value_of}
use Rattle.sg_defs.specs.Membership.{IsFactorization, IsMember}
use Rattle.sg_defs.proofs.MembershipLemmas.{member-zero, member-add, member-entry}

-- it is a sum of the others, or a member once the first is taken away
first-split : (g : ℕ) (G : List ℕ) (n : ℕ) → IsMember (g ∷ G) n → IsMember G n ⊎ ((g ≤ n) × IsMember (g ∷ G) (n - g))
first-split g G n h = at h.0 h.1
  where
    at : (z : List ℕ) → IsFactorization (g ∷ G) n z → IsMember G n ⊎ ((g ≤ n) × IsMember (g ∷ G) (n - g))
    at [] f = absurd (omega (arith, f.places))
    at (zero ∷ z) f = inl (z, record { places = omega (arith, f.places); value = let v = f.value in let e : value_of G z ≡ n = omega (arith, v) in e })
    at (suc c ∷ z) f =
        let v = f.value in
        let e : g + (c * g + value_of G z) ≡ n = omega (arith, v) in
        inr (omega (arith, e), (c ∷ z, record { places = omega (arith, f.places); value = omega (arith, e) }))

-- a sum of the others
first-none : (g : ℕ) (G : List ℕ) (n : ℕ) → IsMember G n → IsMember (g ∷ G) n
first-none g G n h = (0 ∷ h.0, record { places = ap suc h.1.places; value = let e : 0 * g + value_of G h.0 ≡ n = omega (arith, h.1.value) in e })

-- with a first generator above 0, by going down
positive-decided : (g : ℕ) (G : List ℕ) → 0 < g → ((n : ℕ) → IsMember G n ⊎ ¬ IsMember G n) → (k n : ℕ) → n < k → IsMember (g ∷ G) n ⊎ ¬ IsMember (g ∷ G) n
positive-decided g G some others zero n l = absurd (omega arith)
positive-decided g G some others (suc k) n l = elim (others n) [
  | inl member ↦ inl (first-none g G n member)
  | inr none ↦ elim (cases_lt n g) [
    | inl small ↦ inr (λ h. elim (first-split g G n h) [ inl member ↦ none member | inr q ↦ let m = q.0 in omega (arith, small, m) ])
    | inr large ↦ elim (positive-decided g G some others k (n - g) (omega arith)) [
      | inl member ↦ inl (subst (IsMember (g ∷ G)) (let e : (n - g) + g ≡ n = omega arith in e) (member-add (g ∷ G) (n - g) g member (member-entry (g ∷ G) 0 (omega arith))))
      | inr below ↦ inr (λ h. elim (first-split g G n h) [ inl member ↦ none member | inr q ↦ below q.1 ])
    ]
  ]
]

-- a first generator 0 adds nothing
zero-first : (G : List ℕ) (n : ℕ) → IsMember (0 ∷ G) n → IsMember G n
zero-first G n h = at h.0 h.1
  where
    at : (z : List ℕ) → IsFactorization (0 ∷ G) n z → IsMember G n
    at [] f = absurd (omega (arith, f.places))
    at (c ∷ z) f = (z, record { places = omega (arith, f.places); value = let v = f.value in let e : value_of G z ≡ n = omega (arith, v) in e })

-- of each number
pub member-decided : (G : List ℕ) (n : ℕ) → IsMember G n ⊎ ¬ IsMember G n
member-decided [] n = elim (cases_eq n 0) [
  | inl none ↦ inl (subst (IsMember []) (sym none) (member-zero []))
  | inr some ↦ inr (λ h. some (let v = h.1.value in let e : n ≡ 0 = omega (arith, v) in e))
]
member-decided (zero ∷ G) n = elim (member-decided G n) [ inl member ↦ inl (first-none 0 G n member) | inr none ↦ inr (λ h. none (zero-first G n h)) ]
member-decided (suc g ∷ G) n = positive-decided (suc g) G (omega arith) (member-decided G) (n + 1) n (omega arith)
