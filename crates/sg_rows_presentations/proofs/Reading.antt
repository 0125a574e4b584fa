-- The values of relations.
use Rattle.std.proofs.Common.{◌≡◌, ℕ, List, [], ◌∷◌, map, inl, inr, sym, subst}
use Rattle.std.specs.Prelude.{◌↔◌, ◌⊎◌, Contains}
use Rattle.sg_defs.proofs.ListLemmas.{contains-cases}
use Rattle.sg_nonunique.specs.Presentations.{Relation}
use Rattle.sg_laws_finite.proofs.ElementLemmas.{contains-map, contains-nil, from-map}
use Rattle.sg_degrees.specs.Values.{IsValueOf}

abbrev pub value_of : Relation ℕ → ℕ
value_of r = r.value

-- they are what relations have as values
pub values-contained : (P : List (Relation ℕ)) (n : ℕ) → Contains (map value_of P) n ↔ IsValueOf P n
values-contained P n = (
  (λ h. let f = from-map value_of P n h in (f.0, f.2, sym f.1)),
  (λ v. subst (Contains (map value_of P)) v.2 (contains-map value_of P v.0 v.1)),
)

-- an entry of a list of two
pub two-cases : {A : Type 0} (a b x : A) → Contains (a ∷ b ∷ []) x → (x ≡ a) ⊎ (x ≡ b)
two-cases a b x h = elim (contains-cases a (b ∷ []) x h) [
  | inl e ↦ inl (sym e)
  | inr rest ↦ elim (contains-cases b [] x rest) [ inl e ↦ inr (sym e) | inr none ↦ absurd (contains-nil x none) ]
]
