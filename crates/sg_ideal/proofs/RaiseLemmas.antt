-- The base added to each number, number by number.
use Rattle.std.proofs.Common.{◌≡◌, ℕ, ◌+◌, ◌<◌, List, [], ◌∷◌, ◌++◌, length, get_or, take, ap, subst, inl, inr}
use Rattle.std.specs.Prelude.{ℤ, pos, neg_ℤ, ◌+ℤ◌}
use Rattle.std.proofs.lemmas.Int.{by_lt_z}
use Rattle.std.proofs.lemmas.List.{map-append, take_more}
use Rattle.std.proofs.lemmas.List.Elements.{Contains-get_or, Contains-push_cases}
use Rattle.sg_lawful.specs.declared.limits.TheConstants.{IDEAL_GENERATOR_LIMIT}
use Rattle.sg_lawful.specs.Generators.{AreSmall, HasLarge, IsLarge, IsSmall}
use Rattle.sg_ideal.specs.Heads.{raised_by}
use Rattle.sg_ideal.proofs.KeptLemmas.{raised-to}

-- one more number with the base
pub raised-push : (base : ℤ) (H : List ℕ) (k : ℕ) (l : List ℤ) → k < length H → l ≡ raised_by base (take k H) → l ++ (base +ℤ pos (get_or H k 0)) ∷ [] ≡ raised_by base (take (k + 1) H)
raised-push base H k l inside e = rw (take_more H k 0 inside, map-append) (ap (λ l. l ++ (base +ℤ pos (get_or H k 0)) ∷ []) e)

-- one more small integer
pub small-push : (l : List ℤ) (x : ℤ) → AreSmall l → IsSmall x → AreSmall (l ++ x ∷ [])
small-push l x h p y q = elim (Contains-push_cases l x y q) [ inl before ↦ h y before | inr same ↦ subst IsSmall same p ]

-- what is not small is large
pub large-from_not : (x : ℤ) → (IsSmall x → ⊥) → IsLarge x
large-from_not x not =
    by_lt_z (neg_ℤ IDEAL_GENERATOR_LIMIT) x (λ low. by_lt_z x IDEAL_GENERATOR_LIMIT (λ high. absurd (not (low, high))) (λ past. inr past)) (λ past. inl past)

-- a large one among the numbers with the base
pub raised-large : (base : ℤ) (H : List ℕ) (k : ℕ) → k < length H → (IsSmall (base +ℤ pos (get_or H k 0)) → ⊥) → HasLarge (raised_by base H)
raised-large base H k inside not = (base +ℤ pos (get_or H k 0), raised-to base H (get_or H k 0) (Contains-get_or H k 0 inside), large-from_not (base +ℤ pos (get_or H k 0)) not)
