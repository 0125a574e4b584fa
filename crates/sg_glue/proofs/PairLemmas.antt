-- Lists made of lists: what they have, and in which order.
use Rattle.std.proofs.Common.{◌≡◌, zero, suc, List, [], ◌∷◌, ◌++◌, map, get_or, refl, sym, ap, subst, ◌∙◌, inl, inr, arith}
use Rattle.std.specs.Prelude.{All, AllPairs, Contains, flat_map}
use Rattle.std.proofs.lemmas.List.Elements.{All-append, All-map, All-contains, Contains-get_or, Contains-append_left, Contains-append_right, Contains-append_cases}
use Rattle.std.proofs.lemmas.List.Kept.{AllPairs-cons}

pub contains-head : {A : Type 0} (x : A) (xs : List A) → Contains (x ∷ xs) x
contains-head x xs = (0, omega arith, refl)

pub contains-tail : {A : Type 0} (x : A) (xs : List A) (y : A) → Contains xs y → Contains (x ∷ xs) y
contains-tail x xs y h = (suc h.0, omega (arith, h.1), h.2)

-- what a list of lists has stands in one of them
pub contains-flat : {A B : Type 0} (f : A → List B) (xs : List A) (y : B) → Contains (flat_map f xs) y → (x : A) × Contains xs x × Contains (f x) y
contains-flat f [] y h = absurd (omega (arith, h.1))
contains-flat f (x ∷ xs) y h = elim (Contains-append_cases (f x) (flat_map f xs) y h) [
  | inl here ↦ (x, contains-head x xs, here)
  | inr later ↦ let r = contains-flat f xs y later in (r.0, contains-tail x xs r.0 r.1, r.2)
]

pub flat-contains : {A B : Type 0} (f : A → List B) (xs : List A) (x : A) (y : B) → Contains xs x → Contains (f x) y → Contains (flat_map f xs) y
flat-contains f [] x y h g = absurd (omega (arith, h.1))
flat-contains f (w ∷ xs) x y (zero, l, e) g = Contains-append_left (f w) (flat_map f xs) y (subst (λ v. Contains (f v) y) (sym e) g)
flat-contains f (w ∷ xs) x y (suc k, l, e) g = Contains-append_right (f w) (flat_map f xs) y (flat-contains f xs x y (k, omega (arith, l), e) g)

pub contains-map : {A B : Type 0} (f : A → B) (xs : List A) (y : B) → Contains (map f xs) y → (x : A) × Contains xs x × (f x ≡ y)
contains-map f [] y h = absurd (omega (arith, h.1))
contains-map f (x ∷ xs) y (zero, l, e) = (x, contains-head x xs, e)
contains-map f (x ∷ xs) y (suc k, l, e) = let r = contains-map f xs y (k, omega (arith, l), e) in (r.0, contains-tail x xs r.0 r.1, r.2)

pub map-contains : {A B : Type 0} (f : A → B) (xs : List A) (x : A) → Contains xs x → Contains (map f xs) (f x)
map-contains f [] x h = absurd (omega (arith, h.1))
map-contains f (w ∷ xs) x (zero, l, e) = (0, omega arith, ap f e)
map-contains f (w ∷ xs) x (suc k, l, e) = contains-tail (f w) (map f xs) (f x) (map-contains f xs x (k, omega (arith, l), e))

-- ---- order

pub pairs-head : {A : Type 0} (R : A → A → Type 0) (x : A) (xs : List A) → AllPairs R (x ∷ xs) → All (R x) xs
pairs-head R x xs p k d l = p 0 (suc k) d (omega arith) (omega (arith, l))

pub pairs-tail : {A : Type 0} (R : A → A → Type 0) (x : A) (xs : List A) → AllPairs R (x ∷ xs) → AllPairs R xs
pairs-tail R x xs p i j d l k = p (suc i) (suc j) d (omega (arith, l)) (omega (arith, k))

pub pairs-append : {A : Type 0} (R : A → A → Type 0) (xs ys : List A) → AllPairs R xs → AllPairs R ys → ((x y : A) → Contains xs x → Contains ys y → R x y) → AllPairs R (xs ++ ys)
pairs-append R [] ys p q c = q
pairs-append R (x ∷ xs) ys p q c = AllPairs-cons R x (xs ++ ys)
    (All-append (R x) xs ys (pairs-head R x xs p) (λ k d l. c x (get_or ys k d) (contains-head x xs) (Contains-get_or ys k d l)))
    (pairs-append R xs ys (pairs-tail R x xs p) q (λ u v a b. c u v (contains-tail x xs u a) b))

-- each of the first part comes before what follows it
pub pairs-cross : {A : Type 0} (R : A → A → Type 0) (xs : List A) (y : A) (rest : List A) (u : A) → AllPairs R (xs ++ y ∷ rest) → Contains xs u → R u y
pairs-cross R [] y rest u p h = absurd (omega (arith, h.1))
pairs-cross R (x ∷ xs) y rest u p (zero, l, e) =
    subst (λ v. R v y) e (All-contains (R x) (xs ++ y ∷ rest) y (pairs-head R x (xs ++ y ∷ rest) p) (Contains-append_right xs (y ∷ rest) y (contains-head y rest)))
pairs-cross R (x ∷ xs) y rest u p (suc k, l, e) = pairs-cross R xs y rest u (pairs-tail R x (xs ++ y ∷ rest) p) (k, omega (arith, l), e)

pub pairs-flat : {A B : Type 0} (Q : A → A → Type 0) (R : B → B → Type 0) (f : A → List B) (xs : List A) → ((x : A) → AllPairs R (f x)) → AllPairs Q xs
    → ((x y : A) (u v : B) → Q x y → Contains (f x) u → Contains (f y) v → R u v) → AllPairs R (flat_map f xs)
pairs-flat Q R f [] each p c = λ i j d l k. absurd (omega (arith, k))
pairs-flat Q R f (x ∷ xs) each p c = pairs-append R (f x) (flat_map f xs) (each x) (pairs-flat Q R f xs each (pairs-tail Q x xs p) c)
    (λ u v a b. let r = contains-flat f xs v b in c x r.0 u v (All-contains (Q x) xs r.0 (pairs-head Q x xs p) r.1) a r.2)

pub pairs-map : {A B : Type 0} (S : A → A → Type 0) (R : B → B → Type 0) (f : A → B) (xs : List A) → ((x y : A) → Contains xs x → Contains xs y → S x y → R (f x) (f y)) → AllPairs S xs → AllPairs R (map f xs)
pairs-map S R f [] h p = λ i j d l k. absurd (omega (arith, k))
pairs-map S R f (x ∷ xs) h p = AllPairs-cons R (f x) (map f xs)
    (All-map (R (f x)) f xs (λ k d l. h x (get_or xs k d) (contains-head x xs) (contains-tail x xs (get_or xs k d) (Contains-get_or xs k d l)) (pairs-head S x xs p k d l)))
    (pairs-map S R f xs (λ u v a b s. h u v (contains-tail x xs u a) (contains-tail x xs v b) s) (pairs-tail S x xs p))

-- equal at each item
pub flat-same : {A B : Type 0} (P : A → Type 0) (f g : A → List B) → ((x : A) → P x → f x ≡ g x) → (xs : List A) → All P xs → flat_map f xs ≡ flat_map g xs
flat-same P f g h [] all = refl
flat-same P f g h (x ∷ xs) all =
    ap (λ l. l ++ flat_map f xs) (h x (all 0 x (omega arith)))
    ∙ ap (λ l. g x ++ l) (flat-same P f g h xs (λ k d l. all (suc k) d (omega (arith, l))))
