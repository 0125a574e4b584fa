-- The least number from another on that meets some conditions, which come one after the other.
use Rattle.std.proofs.Common.{◌≡◌, ℕ, ◌+◌, ◌<◌, subst, below_more, arith}
use Rattle.sg_tame.specs.Nearest.{IsLeastFrom}

-- no condition
pub least-none : (a : ℕ) (Q : ℕ → ℕ → Type 0) → IsLeastFrom a (λ N. (j : ℕ) → j < 0 → Q j N) a
least-none a Q N = ((λ h. (h, (λ j l. absurd (omega arith)))), (λ h. h.0))

-- one that each number meets
pub least-met : (a : ℕ) (P : ℕ → Type 0) → ((N : ℕ) → P N) → IsLeastFrom a P a
least-met a P all N = ((λ h. (h, all N)), (λ h. h.0))

-- one condition more
pub least-more : (a g r k : ℕ) (Q : ℕ → ℕ → Type 0) → IsLeastFrom a (λ N. (j : ℕ) → j < k → Q j N) g → IsLeastFrom g (Q k) r → IsLeastFrom a (λ N. (j : ℕ) → j < k + 1 → Q j N) r
least-more a g r k Q before here N = (
  (λ h.
      let now = (here N).0 h in
      let old = (before N).0 now.0 in
      (old.0, below_more (λ j. Q j N) k old.1 now.1)),
  (λ h. (here N).1 ((before N).1 (h.0, (λ j l. h.1 j (omega arith))), h.1 k (omega arith))),
)

-- the same conditions said otherwise
pub least-same : (a r : ℕ) (P Q : ℕ → Type 0) → ((N : ℕ) → P N → Q N) → ((N : ℕ) → Q N → P N) → IsLeastFrom a P r → IsLeastFrom a Q r
least-same a r P Q to from h N = (
  (λ l. let s = (h N).0 l in (s.0, to N s.1)),
  (λ s. (h N).1 (s.0, from N s.1)),
)

-- all conditions
pub least-all : (a r k n : ℕ) (Q : ℕ → ℕ → Type 0) → k ≡ n → IsLeastFrom a (λ N. (j : ℕ) → j < k → Q j N) r → IsLeastFrom a (λ N. (j : ℕ) → j < n → Q j N) r
least-all a r k n Q e h = subst (λ m. IsLeastFrom a (λ N. (j : ℕ) → j < m → Q j N) r) e h
