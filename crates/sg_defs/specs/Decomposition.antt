-- Decompositions into irreducible numerical semigroups.
use Rattle.std.specs.Prelude.{◌≡◌, ℕ, ℤ, pos, ◌-ℤ◌, ◌<ℤ◌, ◌*◌, ◌<◌, ◌⊎◌, ◌↔◌, List, [], ◌∷◌, length, reverse, slice_index_or, All}
use Rattle.std.specs.List.{AllZip}
use Rattle.sg_defs.specs.Membership.{IsMember, IsIntegerMember, Generates}
use Rattle.sg_defs.specs.Listings.{ListsIntegers}
use Rattle.sg_defs.specs.Invariants.{IsSpecialGap}
use Rattle.sg_defs.specs.Symmetry.{IsIrreducible}

-- the members, all above the gap h, and of two numbers with the sum h, of which neither is a member, the greater
abbrev pub IsInCover : List ℕ → ℤ → ℕ → Type 0
IsInCover G h x = IsMember G x ⊎ (h <ℤ pos x) ⊎
    ((h <ℤ pos (2 * x)) × (pos x <ℤ h) × (IsIntegerMember G (h -ℤ pos x) → ⊥))

-- the same, asked of an integer that may be negative: h lies in the cover of each of ks
abbrev pub IsInEachCover : List ℕ → List ℤ → ℤ → Type 0
IsInEachCover G ks h = All (λ k. (x : ℕ) × (h ≡ pos x) × IsInCover G k x) ks

-- of the gaps hs, in order, those are chosen that lie in the cover of each one chosen before
abbrev pub IsChosen : List ℕ → List ℤ → List ℤ → List ℤ → Type 0
IsChosen G before [] chosen = chosen ≡ []
IsChosen G before (h ∷ hs) chosen =
    (IsInEachCover G before h × ((rest : List ℤ) × (chosen ≡ h ∷ rest) × IsChosen G (h ∷ before) hs rest))
    ⊎ ((IsInEachCover G before h → ⊥) × IsChosen G before hs chosen)

-- the members' minimal lists, in order: one for each chosen special gap, or the semigroup's own where it has none
pub record IsDecomposition (G : List ℕ) (L : List (List ℕ)) : Type 0 where
  pub special : List ℤ
  pub is_special : ListsIntegers (IsSpecialGap G) special
  pub chosen : List ℤ
  pub is_chosen : IsChosen G [] (reverse special) chosen
  pub covers : 0 < length special → AllZip (λ h M. Generates (IsInCover G h) M) chosen L
  pub whole : special ≡ [] → (M : List ℕ) × (L ≡ M ∷ []) × Generates (IsMember G) M

-- x is a member of each
abbrev pub IsInAll : List (List ℕ) → ℤ → Type 0
IsInAll L x = All (λ M. IsIntegerMember M x) L

-- irreducible members that meet in G, none of which can be left out: without the k-th they share an integer outside G
pub record IsIrredundant (G : List ℕ) (L : List (List ℕ)) : Type 0 where
  pub irreducible : All IsIrreducible L
  pub meets : (x : ℤ) → IsIntegerMember G x ↔ IsInAll L x
  pub needed : (k : ℕ) → k < length L → (x : ℤ) × (IsIntegerMember G x → ⊥) ×
      ((j : ℕ) → j < length L → (j ≡ k → ⊥) → IsIntegerMember (slice_index_or L j []) x)
