-- What a list contains, by its first entry and the others.
use Rattle.std.proofs.Common.{◌≡◌, ℕ, zero, suc, ◌<◌, List, ◌∷◌, length, get_or, inl, inr, arith}
use Rattle.std.specs.Prelude.{◌⊎◌, Contains}

-- a list contains its first entry, or what the rest contains
pub contains-cases : {A : Type 0} (y : A) (ys : List A) (x : A) → Contains (y ∷ ys) x → (y ≡ x) ⊎ Contains ys x
contains-cases y ys x h = at h.0 h.1 h.2
  where
    at : (k : ℕ) → k < length (y ∷ ys) → get_or (y ∷ ys) k x ≡ x → (y ≡ x) ⊎ Contains ys x
    at zero l e = inl e
    at (suc k) l e = inr (k, omega arith, e)
