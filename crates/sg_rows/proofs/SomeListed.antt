-- Rows with lists as values, and with a limit on the span, have a value.
use Rattle.std.proofs.Common.{◌≡◌, ℕ, ℤ, pos, List, [], ◌∷◌, map, Option, Some, None, inr, refl}
use Rattle.std.specs.Prelude.{All}
use Rattle.std.proofs.lemmas.List.Elements.{All-head, All-tail}
use Rattle.sg_defs.specs.Membership.{IsNumericalSemigroup}
use Rattle.sg_apery.specs.Limits.{SPAN_LIMIT}
use Rattle.sg_laws_invariants.proofs.SpansExist.{wide-decided}
use Rattle.sg_value.specs.Data.{int, semigroup, items_of}
use Rattle.sg_rows.specs.Order.{Plain}
use Rattle.sg_rows.specs.Values.{integer_list, natural_list, semigroup_list, vector_list, vector_lists, natural_or_fail, a_natural_or_fail, integers_with, naturals_with, semigroups_with, vectors_with, vector_lists_with}
use Rattle.sg_lawful.specs.Spans.{IsWide}
use Rattle.sg_rows.specs.Limits.{spanned}
use Rattle.sg_lawful.specs.Lawful.{IsLawfulList}
use Rattle.sg_rows.specs.Lawful.{AreLawful, IsLawful}
use Rattle.sg_rows.proofs.SomeValue.{HasValue, HasLawful}

integer_list_lawful : (zs : List ℤ) → AreLawful (items_of (map int zs))
integer_list_lawful [] = tt
integer_list_lawful (z ∷ zs) = (tt, integer_list_lawful zs)

natural_list_lawful : (ns : List ℕ) → AreLawful (items_of (map (λ n. int (pos n)) ns))
natural_list_lawful [] = tt
natural_list_lawful (n ∷ ns) = (tt, natural_list_lawful ns)

semigroup_list_lawful : (L : List (List ℕ)) → All IsLawfulList L → AreLawful (items_of (map semigroup L))
semigroup_list_lawful [] h = tt
semigroup_list_lawful (G ∷ L) h = (All-head IsLawfulList G L h, semigroup_list_lawful L (All-tail IsLawfulList G L h))

vector_list_lawful : (vs : List (List ℕ)) → AreLawful (items_of (map natural_list vs))
vector_list_lawful [] = tt
vector_list_lawful (ns ∷ vs) = (natural_list_lawful ns, vector_list_lawful vs)

vector_lists_lawful : (ls : List (List (List ℕ))) → AreLawful (items_of (map vector_list ls))
vector_lists_lawful [] = tt
vector_lists_lawful (vs ∷ ls) = (vector_list_lawful vs, vector_lists_lawful ls)

natural_or_fail_lawful : (r : Option ℕ) → IsLawful (natural_or_fail r)
natural_or_fail_lawful None = tt
natural_or_fail_lawful (Some n) = tt

pub natural_or_fail_some : (P : Option ℕ → Type 0) → (r : Option ℕ) × P r → HasLawful (a_natural_or_fail P)
natural_or_fail_some P h = (natural_or_fail h.0, (h.0, refl, h.1), natural_or_fail_lawful h.0)

pub integers_some : (P : List ℤ → Type 0) → (zs : List ℤ) × P zs → HasLawful (integers_with P)
integers_some P h = (integer_list h.0, (h.0, refl, h.1), integer_list_lawful h.0)

pub naturals_some : (P : List ℕ → Type 0) → (ns : List ℕ) × P ns → HasLawful (naturals_with P)
naturals_some P h = (natural_list h.0, (h.0, refl, h.1), natural_list_lawful h.0)

pub vectors_some : (P : List (List ℕ) → Type 0) → (vs : List (List ℕ)) × P vs → HasLawful (vectors_with P)
vectors_some P h = (vector_list h.0, (h.0, refl, h.1), vector_list_lawful h.0)

pub vector_lists_some : (P : List (List (List ℕ)) → Type 0) → (ls : List (List (List ℕ))) × P ls → HasLawful (vector_lists_with P)
vector_lists_some P h = (vector_lists h.0, (h.0, refl, h.1), vector_lists_lawful h.0)

pub natural_list_some : (ns : List ℕ) → HasLawful (λ d. d ≡ natural_list ns)
natural_list_some ns = (natural_list ns, refl, natural_list_lawful ns)

pub semigroups_some : (P : List (List ℕ) → Type 0) (L : List (List ℕ)) → P L → All IsLawfulList L → HasLawful (semigroups_with P)
semigroups_some P L h lawful = (semigroup_list L, (L, refl, h), semigroup_list_lawful L lawful)

-- ---- limits

no : ⊥ → ⊥
no h = h

-- a row that refuses nothing but a span past the limit
pub spanned_some : (G : List ℕ) (P : Plain → Type 0) → IsNumericalSemigroup G → (¬ IsWide G → HasLawful P) → HasValue (spanned G P)
spanned_some G P s h = (inr no, λ a. (inr no, λ b. (wide-decided G s SPAN_LIMIT, λ c. (inr no, λ d. (inr no, λ e. h c)))))
