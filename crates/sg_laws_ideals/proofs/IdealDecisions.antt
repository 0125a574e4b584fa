-- Whether an integer is a member of an ideal is decided, generator by generator.
use Rattle.std.proofs.Common.{◌≡◌, ℕ, ◌<◌, List, length, get_or, sym, subst, ◌∙◌}
use Rattle.std.specs.Prelude.{ℤ, pos, ◌-ℤ◌, Contains}
use Rattle.std.proofs.lemmas.List.{get_or_default}
use Rattle.std.proofs.lemmas.List.Elements.{Contains-get_or}
use Rattle.sg_defs.specs.Membership.{IsIntegerMember}
use Rattle.sg_defs.specs.Ideals.{IsIdealMember}
use Rattle.sg_laws_invariants.specs.Decided.{Decided}
use Rattle.sg_laws_invariants.proofs.Decisions.{decided-same, some-below}
use Rattle.sg_laws_invariants.proofs.InvariantsExist.{integer_member-decided}

-- the place of an entry, read with 0
pub integer-place : (xs : List ℤ) (x : ℤ) → Contains xs x → (k : ℕ) × (k < length xs) × (get_or xs k (pos 0) ≡ x)
integer-place xs x c = (c.0, c.1, get_or_default xs c.0 (pos 0) x c.1 ∙ c.2)

-- of some entry that has a property
pub some-entry : (P : ℤ → Type 0) → ((x : ℤ) → Decided (P x)) → (xs : List ℤ) → Decided ((g : ℤ) × Contains xs g × P g)
some-entry P decided xs = decided-same ((k : ℕ) × (k < length xs) × P (get_or xs k (pos 0))) ((g : ℤ) × Contains xs g × P g)
    (λ h. (get_or xs h.0 (pos 0), Contains-get_or xs h.0 (pos 0) h.1, h.2))
    (λ h. let k = integer-place xs h.0 h.1 in (k.0, k.1, subst P (sym k.2) h.2))
    (some-below (λ k. P (get_or xs k (pos 0))) (λ k. decided (get_or xs k (pos 0))) (length xs))

-- membership of an ideal is decided
pub ideal_member-decided : (G : List ℕ) (I : List ℤ) (x : ℤ) → Decided (IsIdealMember G I x)
ideal_member-decided G I x = some-entry (λ g. IsIntegerMember G (x -ℤ g)) (λ g. integer_member-decided G (x -ℤ g)) I
