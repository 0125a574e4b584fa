-- Elements of lists, and pairs of them, from the front.
use Rattle.std.proofs.Common.{◌≡◌, suc, List, [], ◌∷◌, ◌++◌, get_or, map, refl, sym, subst, ◌∙◌, inl, inr, arith}
use Rattle.std.specs.Prelude.{◌⊎◌, All, AllPairs, Contains}
use Rattle.std.proofs.lemmas.List.Elements.{All-append, All-contains, Contains-get_or}
use Rattle.std.proofs.lemmas.List.Kept.{AllPairs-cons}
use Rattle.sg_defs.proofs.ListLemmas.{contains-cases}

pub contains-nil : {A : Type 0} (x : A) → Contains [] x → ⊥
contains-nil x h = omega (arith, h.1)

pub here : {A : Type 0} (x : A) (xs : List A) → Contains (x ∷ xs) x
here x xs = (0, omega arith, refl)

pub later : {A : Type 0} (y : A) (xs : List A) (x : A) → Contains xs x → Contains (y ∷ xs) x
later y xs x h = (suc h.0, omega (arith, h.1), h.2)

-- each element of a list has what all have that it contains
pub all-from_contained : {A : Type 0} (P : A → Type 0) (xs : List A) → ((x : A) → Contains xs x → P x) → All P xs
all-from_contained P xs h k d l = h (get_or xs k d) (Contains-get_or xs k d l)

pub contains-map : {A B : Type 0} (f : A → B) (xs : List A) (x : A) → Contains xs x → Contains (map f xs) (f x)
contains-map f [] x h = absurd (contains-nil x h)
contains-map f (y ∷ xs) x h = elim (contains-cases y xs x h) [
  | inl e ↦ subst (λ v. Contains (f y ∷ map f xs) (f v)) e (here (f y) (map f xs))
  | inr rest ↦ later (f y) (map f xs) (f x) (contains-map f xs x rest)
]

-- what a mapped list contains was made of an element
pub from-map : {A B : Type 0} (f : A → B) (xs : List A) (z : B) → Contains (map f xs) z → (x : A) × (z ≡ f x) × Contains xs x
from-map f [] z h = absurd (contains-nil z h)
from-map f (y ∷ xs) z h = elim (contains-cases (f y) (map f xs) z h) [
  | inl e ↦ (y, sym e, here y xs)
  | inr rest ↦ let p = from-map f xs z rest in (p.0, p.1, later y xs p.0 p.2)
]

-- ---- pairs

pub pairs-nil : {A : Type 0} (R : A → A → Type 0) → AllPairs R []
pairs-nil R i j d l k = absurd (omega arith)

pub pairs-head : {A : Type 0} (R : A → A → Type 0) (x : A) (xs : List A) → AllPairs R (x ∷ xs) → All (R x) xs
pairs-head R x xs h k d l = h 0 (suc k) d (omega arith) (omega arith)

-- the first element and a later one
pub pairs-first : {A : Type 0} (R : A → A → Type 0) (x : A) (xs : List A) → AllPairs R (x ∷ xs) → (y : A) → Contains xs y → R x y
pairs-first R x xs h y k = All-contains (R x) xs y (pairs-head R x xs h) k

pub pairs-tail : {A : Type 0} (R : A → A → Type 0) (x : A) (xs : List A) → AllPairs R (x ∷ xs) → AllPairs R xs
pairs-tail R x xs h i j d l k = h (suc i) (suc j) d (omega arith) (omega arith)

pub pairs-append : {A : Type 0} (R : A → A → Type 0) (xs ys : List A) → AllPairs R xs → AllPairs R ys → ((x y : A) → Contains xs x → Contains ys y → R x y) → AllPairs R (xs ++ ys)
pairs-append R [] ys p q across = q
pairs-append R (x ∷ xs) ys p q across =
    AllPairs-cons R x (xs ++ ys)
    (All-append (R x) xs ys (pairs-head R x xs p) (all-from_contained (R x) ys (λ y h. across x y (here x xs) h)))
    (pairs-append R xs ys (pairs-tail R x xs p) q (λ a b h k. across a b (later x xs a h) k))

pub pairs-map : {A B : Type 0} (R : A → A → Type 0) (S : B → B → Type 0) (f : A → B) → ((x y : A) → R x y → S (f x) (f y)) → (xs : List A) → AllPairs R xs → AllPairs S (map f xs)
pairs-map R S f keep [] p = pairs-nil S
pairs-map R S f keep (x ∷ xs) p =
    AllPairs-cons S (f x) (map f xs)
    (all-from_contained (S (f x)) (map f xs) (λ z h.
    let q = from-map f xs z h in
    subst (S (f x)) (sym q.1) (keep x q.0 (pairs-first R x xs p q.0 q.2))))
    (pairs-map R S f keep xs (pairs-tail R x xs p))

-- a weaker relation of all pairs
pub pairs-weaker : {A : Type 0} (R S : A → A → Type 0) → ((x y : A) → R x y → S x y) → (xs : List A) → AllPairs R xs → AllPairs S xs
pairs-weaker R S weaker xs p i j d l k = weaker (get_or xs i d) (get_or xs j d) (p i j d l k)

-- of two elements of a list with all pairs related, one comes first or they are the same
pub pairs-cases : {A : Type 0} (R : A → A → Type 0) (xs : List A) (x y : A) → AllPairs R xs → Contains xs x → Contains xs y → (x ≡ y) ⊎ (R x y ⊎ R y x)
pairs-cases R [] x y p h k = absurd (contains-nil x h)
pairs-cases R (a ∷ xs) x y p h k = elim (contains-cases a xs x h) [
  | inl e ↦ elim (contains-cases a xs y k) [
    | inl f ↦ inl (sym e ∙ f)
    | inr later_y ↦ inr (inl (subst (λ v. R v y) e (pairs-first R a xs p y later_y)))
  ]
  | inr later_x ↦ elim (contains-cases a xs y k) [
    | inl f ↦ inr (inr (subst (λ v. R v x) f (pairs-first R a xs p x later_x)))
    | inr later_y ↦ pairs-cases R xs x y (pairs-tail R a xs p) later_x later_y
  ]
]
