-- Whether two plain values are the same is decided, and whether one is an entry of a list.
use Rattle.std.proofs.Common.{◌≡◌, ℕ, Bool, true, false, List, [], ◌∷◌, inl, inr, refl, ap, ap₂}
use Rattle.sg_value.specs.Plain.{Things, RelativeIdeal}
use Rattle.std.proofs.lemmas.Bool.{true≢false, false≢true}
use Rattle.sg_value.specs.Data.{int, truth, text, list, ratio, fail, semigroup, ideal, Items, none, item}
use Rattle.sg_laws_invariants.specs.Decided.{Decided}
use Rattle.sg_laws_invariants.proofs.Decisions.{decided-or, decided-same, decided-eq, decided-eq_z}
use Rattle.sg_rows.specs.Order.{Plain}
use Rattle.sg_rows.specs.Entries.{IsEntry}

same_list-decided : {A : Type 0} → ((x y : A) → Decided (x ≡ y)) → (xs ys : List A) → Decided (xs ≡ ys)
same_list-decided decide [] [] = inl refl
same_list-decided decide [] (y ∷ ys) = inr (λ e. cc)
same_list-decided decide (x ∷ xs) [] = inr (λ e. cc)
same_list-decided decide (x ∷ xs) (y ∷ ys) = elim (decide x y) [
  | inr other ↦ inr (λ e. other cc)
  | inl first ↦ elim (same_list-decided decide xs ys) [
    | inr other ↦ inr (λ e. other cc)
    | inl rest ↦ inl cc
  ]
]

pub list-decided : (xs ys : List ℕ) → Decided (xs ≡ ys)
list-decided xs ys = same_list-decided decided-eq xs ys

ideal-decided : (I J : RelativeIdeal) → Decided (I ≡ J)
ideal-decided I J = elim (list-decided I.ambient J.ambient) [
  | inr other ↦ inr (λ e. other (ap (λ i. i.ambient) e))
  | inl first ↦ elim (same_list-decided decided-eq_z I.generators J.generators) [
    | inr other ↦ inr (λ e. other (ap (λ i. i.generators) e))
    | inl rest ↦ inl (ap₂ (λ a g. record { ambient = a; generators = g }) first rest)
  ]
]

truth-decided : (a b : Bool) → Decided (a ≡ b)
truth-decided true true = inl refl
truth-decided true false = inr true≢false
truth-decided false true = inr false≢true
truth-decided false false = inl refl

mutual
  pub data-decided : (a b : Plain) → Decided (a ≡ b)
  data-decided (int x) (int y) = decided-same (x ≡ y) (int x ≡ int y) (λ e. ap int e) (λ e. cc) (decided-eq_z x y)
  data-decided (int x) _ = inr (λ e. cc)
  data-decided (truth x) (truth y) = decided-same (x ≡ y) (truth x ≡ truth y) (λ e. ap truth e) (λ e. cc) (truth-decided x y)
  data-decided (truth x) _ = inr (λ e. cc)
  data-decided (text x) (text y) = decided-same (x ≡ y) (text x ≡ text y) (λ e. ap text e) (λ e. cc) (list-decided x y)
  data-decided (text x) _ = inr (λ e. cc)
  data-decided (list x) (list y) = decided-same (x ≡ y) (list x ≡ list y) (λ e. ap list e) (λ e. cc) (items-decided x y)
  data-decided (list x) _ = inr (λ e. cc)
  data-decided (ratio p q) (ratio r s) = elim (decided-eq p r) [
    | inr other ↦ inr (λ e. other cc)
    | inl first ↦ elim (decided-eq q s) [
      | inr other ↦ inr (λ e. other cc)
      | inl rest ↦ inl cc
    ]
  ]
  data-decided (ratio p q) _ = inr (λ e. cc)
  data-decided fail fail = inl refl
  data-decided fail _ = inr (λ e. cc)
  data-decided (semigroup x) (semigroup y) = decided-same (x ≡ y) (semigroup x ≡ semigroup y) (λ e. ap semigroup e) (λ e. cc) (list-decided x y)
  data-decided (semigroup x) _ = inr (λ e. cc)
  data-decided (ideal x) (ideal y) = decided-same (x ≡ y) (ideal x ≡ ideal y) (λ e. ap ideal e) (λ e. cc) (ideal-decided x y)
  data-decided (ideal x) _ = inr (λ e. cc)

  items-decided : (a b : Items Things) → Decided (a ≡ b)
  items-decided none none = inl refl
  items-decided none (item e es) = inr (λ h. cc)
  items-decided (item d ds) none = inr (λ h. cc)
  items-decided (item d ds) (item e es) = elim (data-decided d e) [
    | inr other ↦ inr (λ h. other cc)
    | inl first ↦ elim (items-decided ds es) [
      | inr other ↦ inr (λ h. other cc)
      | inl rest ↦ inl cc
    ]
  ]

pub entry-decided : (d : Plain) (ds : Items Things) → Decided (IsEntry d ds)
entry-decided d none = inr (λ h. h)
entry-decided d (item e es) = decided-or (d ≡ e) (IsEntry d es) (data-decided d e) (entry-decided d es)
