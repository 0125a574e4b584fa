-- What holds while generators are taken one by one, in ascending order.
use Rattle.std.specs.Prelude.{◌≡◌, ℕ, ◌⊎◌, ◌++◌, ◌∷◌, [], List, length}
use Rattle.sg_defs.specs.Membership.{IsMember}
use Rattle.sg_tables.specs.Circles.{AreKnown, AreBelowMembers}

-- the entries are the least members of M, in each class that has one
pub record IsTableOf (M t : List ℕ) : Type 0 where
  pub known : AreKnown M t
  pub below : AreBelowMembers M t
  pub modulus : IsMember M (length t)

-- M goes on with g, which it does not make, or M makes g and stays
abbrev pub IsTaken : List ℕ → ℕ → List ℕ → Type 0
IsTaken M g N = ((N ≡ M ++ g ∷ []) × (IsMember M g → ⊥)) ⊎ ((N ≡ M) × IsMember M g)
