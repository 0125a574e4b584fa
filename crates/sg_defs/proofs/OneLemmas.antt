-- What a definition names is one thing: ordered lists with the same entries, Frobenius numbers, multiplicities.
use Rattle.std.proofs.Common.{◌≡◌, ℕ, zero, suc, ◌<◌, List, [], ◌∷◌, length, get_or, refl, sym, ap, subst, ◌∙◌, inl, inr, arith}
use Rattle.std.specs.Prelude.{◌⊎◌, ℤ, ◌<ℤ◌, Contains, AllPairs}
use Rattle.std.proofs.lemmas.Int.{ints, by_lt_z}
use Rattle.sg_defs.specs.Membership.{IsMultiplicity}
use Rattle.sg_defs.specs.Listings.{ListsIntegers}
use Rattle.sg_defs.specs.Invariants.{IsFrobenius}

-- x is an entry, by recursion
abbrev Within : {A : Type 0} → A → List A → Type 0
Within x [] = ⊥
Within x (y ∷ ys) = (y ≡ x) ⊎ Within x ys

within-contains : {A : Type 0} (x : A) (xs : List A) → Within x xs → Contains xs x
within-contains x [] h = absurd h
within-contains x (y ∷ ys) (inl e) = (0, omega arith, e)
within-contains x (y ∷ ys) (inr h) = let p = within-contains x ys h in (suc p.0, omega (arith, p.1), p.2)

place-within : {A : Type 0} (x : A) (xs : List A) (k : ℕ) → k < length xs → get_or xs k x ≡ x → Within x xs
place-within x [] k l e = absurd (omega arith)
place-within x (y ∷ ys) zero l e = inl e
place-within x (y ∷ ys) (suc k) l e = inr (place-within x ys k (omega arith) e)

contains-within : {A : Type 0} (x : A) (xs : List A) → Contains xs x → Within x xs
contains-within x xs c = place-within x xs c.0 c.1 c.2

module _ {A : Type 0} (Below : A → A → Type 0) (apart : (x y : A) → Below x y → Below y x → ⊥) where
  -- each entry is below those after it
  Rises : List A → Type 0
  Rises [] = Unit {0}
  Rises (x ∷ xs) = ((y : A) → Within y xs → Below x y) × Rises xs

  rises : (xs : List A) → AllPairs Below xs → Rises xs
  unfolding Rises
  rises [] up = tt
  rises (x ∷ xs) up = (
    (λ y h. let p = within-contains y xs h in subst (λ z. Below x z) p.2 (up 0 (suc p.0) y (omega arith) (omega (arith, p.1)))),
    rises xs (λ i j d l m. up (suc i) (suc j) d (omega (arith, l)) (omega (arith, m))),
  )

  same-rising : (xs ys : List A) → Rises xs → Rises ys → ((x : A) → Within x xs → Within x ys) → ((x : A) → Within x ys → Within x xs) → xs ≡ ys
  unfolding Rises
  same-rising [] [] p q f g = refl
  same-rising [] (y ∷ ys) p q f g = absurd (g y (inl refl))
  same-rising (x ∷ xs) [] p q f g = absurd (f x (inl refl))
  same-rising (x ∷ xs) (y ∷ ys) p q f g =
      let head : x ≡ y = first (f x (inl refl)) (g y (inl refl)) in
      ap (λ z. z ∷ xs) head ∙ ap (λ zs. y ∷ zs) (same-rising xs ys p.1 q.1
      (λ z h. elim (f z (inr h)) [ inl e ↦ let l = subst (λ w. Below w z) (head ∙ e) (p.0 z h) in absurd (apart z z l l) | inr k ↦ k ])
      (λ z h. elim (g z (inr h)) [ inl e ↦ let l = subst (λ w. Below w z) (sym head ∙ e) (q.0 z h) in absurd (apart z z l l) | inr k ↦ k ]))
    where
      first : ((y ≡ x) ⊎ Within x ys) → ((x ≡ y) ⊎ Within y xs) → x ≡ y
      first (inl e) b = sym e
      first (inr h) (inl e) = e
      first (inr h) (inr k) = absurd (apart x y (p.0 y k) (q.0 x h))

  -- lists in this order with the same entries are the same
  pub same-ordered : (xs ys : List A) → AllPairs Below xs → AllPairs Below ys → ((x : A) → Contains xs x → Contains ys x) → ((x : A) → Contains ys x → Contains xs x) → xs ≡ ys
  same-ordered xs ys a b to from = same-rising xs ys (rises xs a) (rises ys b)
      (λ x h. contains-within x ys (to x (within-contains x xs h))) (λ x h. contains-within x xs (from x (within-contains x ys h)))

below-both : (x y : ℤ) → x <ℤ y → y <ℤ x → ⊥
below-both x y l k = omega (arith, ints, l, k)

-- ascending lists of integers with the same entries are the same
pub same-ascending : (xs ys : List ℤ) → AllPairs (λ x y. x <ℤ y) xs → AllPairs (λ x y. x <ℤ y) ys → ((x : ℤ) → Contains xs x → Contains ys x) → ((x : ℤ) → Contains ys x → Contains xs x) → xs ≡ ys
same-ascending xs ys a b to from = same-ordered (λ x y. x <ℤ y) below-both xs ys a b to from

-- a set of integers has one ascending list
pub one-integer_list : (P : ℤ → Type 0) (xs ys : List ℤ) → ListsIntegers P xs → ListsIntegers P ys → xs ≡ ys
one-integer_list P xs ys a b = same-ascending xs ys a.ascending b.ascending
    (λ x h. (b.exactly x).1 ((a.exactly x).0 h)) (λ x h. (a.exactly x).1 ((b.exactly x).0 h))

-- there is one Frobenius number
pub one-frobenius : (G : List ℕ) (e f : ℤ) → IsFrobenius G e → IsFrobenius G f → e ≡ f
one-frobenius G e f h k = by_lt_z {P = e ≡ f} e f (λ less. absurd (k.outside (h.above f less)))
    (λ more. by_lt_z {P = e ≡ f} f e (λ less. absurd (h.outside (k.above e less))) (λ back. omega (arith, ints, more, back)))

-- there is one multiplicity
pub one-multiplicity : (G : List ℕ) (m n : ℕ) → IsMultiplicity G m → IsMultiplicity G n → m ≡ n
one-multiplicity G m n a b = omega (arith, a.least n b.positive b.member, b.least m a.positive a.member)
