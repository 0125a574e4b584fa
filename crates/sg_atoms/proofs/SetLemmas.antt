-- Sets of vectors as the program keeps them: keys that are equal place by place are the same vector.
use Rattle.std.proofs.Common.{◌≡◌, ◌≢◌, ℕ, Bool, true, false, nat_eq, ◌&&◌, ◌||◌, if◌then◌else◌, List, [], ◌∷◌, ◌++◌, refl, sym, ap, ap₂, subst, ◌∙◌, true≢false, inl, inr}
use Rattle.std.specs.Prelude.{Contains}
use Rattle.std.specs.List.{list_any, IsDistinct}
use Rattle.std.specs.Cmp.Lexicographic.{pointwise}
use Rattle.std.proofs.lemmas.List.Elements.{All-from_recursion, All-weaker}
use Rattle.std.proofs.lemmas.List.Kept.{AllPairs-cons}
use Rattle.std.proofs.lemmas.Bool.Decides.{Decides-eqb}
use Rattle.indexmap.specs.IndexSet.{insert_key}
use Rattle.indexmap.proofs.CallerLemmas.{Contains-list_any}
use Rattle.sg_defs.proofs.ListLemmas.{contains-cases}
use Rattle.sg_laws_finite.proofs.ElementLemmas.{contains-nil, pairs-nil}
use Rattle.sg_atoms.specs.Sets.{AreDifferent, IsAdded}

both : (a b : Bool) → (a && b) ≡ true → (a ≡ true) × (b ≡ true)
both true b e = (refl, e)
both false b e = absurd (true≢false (sym e))

-- equal place by place: the same
pub same-vector : (x y : List ℕ) → pointwise nat_eq x y ≡ true → x ≡ y
same-vector [] [] h = refl
same-vector [] (b ∷ y) h = absurd (true≢false (sym h))
same-vector (a ∷ x) [] h = absurd (true≢false (sym h))
same-vector (a ∷ x) (b ∷ y) h = let t = both (nat_eq a b) (pointwise nat_eq x y) h in ap₂ (λ n v. n ∷ v) ((Decides-eqb a b).0 t.0) (same-vector x y t.1)

pub vector-same : (x : List ℕ) → pointwise nat_eq x x ≡ true
vector-same [] = refl
vector-same (a ∷ x) = ap (λ b. b && pointwise nat_eq x x) ((Decides-eqb a a).1 refl) ∙ vector-same x

any-from_contains : (l : List (List ℕ)) (v : List ℕ) → Contains l v → list_any (pointwise nat_eq v) l ≡ true
any-from_contains [] v h = absurd (contains-nil v h)
any-from_contains (x ∷ l) v h = elim (contains-cases x l v h) [
  | inl e ↦ ap (λ b. b || list_any (pointwise nat_eq v) l) (subst (λ w. pointwise nat_eq v w ≡ true) (sym e) (vector-same v))
  | inr rest ↦ by (pointwise nat_eq v x) (any-from_contains l v rest)
]
  where
    by : (b : Bool) → list_any (pointwise nat_eq v) l ≡ true → (b || list_any (pointwise nat_eq v) l) ≡ true
    by true e = refl
    by false e = e

-- keys that are apart are different vectors
pub different-from_keys : (l : List (List ℕ)) → IsDistinct (pointwise nat_eq) l → AreDifferent l
unfolding IsDistinct
different-from_keys [] d = pairs-nil (λ x y. x ≢ y)
different-from_keys (x ∷ l) d =
    AllPairs-cons (λ x y. x ≢ y) x l
    (All-weaker (λ y. pointwise nat_eq x y ≡ false) (λ y. x ≢ y) (λ y f e. true≢false (sym (subst (λ w. pointwise nat_eq x w ≡ true) e (vector-same x)) ∙ f)) l (All-from_recursion (λ y. pointwise nat_eq x y ≡ false) l d.0))
    (different-from_keys l d.1)

-- a key that comes in is added
pub added-from_key : (l new : List (List ℕ)) (v : List ℕ) → new ≡ insert_key (pointwise nat_eq) l v → IsAdded l v new
added-from_key l new v e = by (list_any (pointwise nat_eq v) l) refl
  where
    by : (b : Bool) → list_any (pointwise nat_eq v) l ≡ b → IsAdded l v new
    by true f = inl (Contains-list_any (pointwise nat_eq) same-vector l v f, e ∙ ap (λ c. if c then l else l ++ v ∷ []) f)
    by false f = inr ((λ h. true≢false (sym (any-from_contains l v h) ∙ f)), e ∙ ap (λ c. if c then l else l ++ v ∷ []) f)
