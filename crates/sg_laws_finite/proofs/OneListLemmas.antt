-- Two lists of the same elements in one strict order are one list.
use Rattle.std.proofs.Common.{◌≡◌, ℕ, List, [], ◌∷◌, refl, sym, ap, subst, ◌∙◌, inl, inr}
use Rattle.std.specs.Prelude.{AllPairs, Contains}
use Rattle.sg_defs.specs.Vectors.{IsLexBelow, ListsAscending, ListsDescending}
use Rattle.sg_defs.proofs.ListLemmas.{contains-cases}
use Rattle.sg_nonunique.proofs.OrderLemmas.{lex-irreflexive, lex-then}
use Rattle.sg_laws_finite.proofs.ElementLemmas.{contains-nil, here, later, pairs-first, pairs-tail}

module _ {A : Type 0} (R : A → A → Type 0) (apart : (x y : A) → R x y → R y x → ⊥) where
  same_first : (x y : A) (xs ys : List A) → AllPairs R (x ∷ xs) → AllPairs R (y ∷ ys) → Contains (y ∷ ys) x → Contains (x ∷ xs) y → x ≡ y
  same_first x y xs ys p q h k = elim (contains-cases y ys x h) [
    | inl e ↦ sym e
    | inr later_x ↦ elim (contains-cases x xs y k) [
      | inl e ↦ e
      | inr later_y ↦ absurd (apart x y (pairs-first R x xs p y later_y) (pairs-first R y ys q x later_x))
    ]
  ]

  -- what stands behind the first element stands behind that of the other list too
  rest_of : (x : A) (xs ys : List A) → AllPairs R (x ∷ xs) → ((z : A) → Contains (x ∷ xs) z → Contains (x ∷ ys) z) → (z : A) → Contains xs z → Contains ys z
  rest_of x xs ys p same z h = elim (contains-cases x ys z (same z (later x xs z h))) [
    | inr rest ↦ rest
    | inl e ↦ let r : R x x = subst (R x) (sym e) (pairs-first R x xs p z h) in absurd (apart x x r r)
  ]

  pub same-lists : (xs ys : List A) → AllPairs R xs → AllPairs R ys → ((z : A) → Contains xs z → Contains ys z) → ((z : A) → Contains ys z → Contains xs z) → xs ≡ ys
  same-lists [] [] p q to back = refl
  same-lists [] (y ∷ ys) p q to back = absurd (contains-nil y (back y (here y ys)))
  same-lists (x ∷ xs) [] p q to back = absurd (contains-nil x (to x (here x xs)))
  same-lists (x ∷ xs) (y ∷ ys) p q to back =
      let e : x ≡ y = same_first x y xs ys p q (to x (here x xs)) (back y (here y ys)) in
      let q' : AllPairs R (x ∷ ys) = subst (λ v. AllPairs R (v ∷ ys)) (sym e) q in
      let to' : (z : A) → Contains (x ∷ xs) z → Contains (x ∷ ys) z = λ z h. subst (λ v. Contains (v ∷ ys) z) (sym e) (to z h) in
      let back' : (z : A) → Contains (x ∷ ys) z → Contains (x ∷ xs) z = λ z h. back z (subst (λ v. Contains (v ∷ ys) z) e h) in
      ap (λ v. v ∷ xs) e ∙ ap (λ l. y ∷ l)
      (same-lists xs ys (pairs-tail R x xs p) (pairs-tail R y ys q) (rest_of x xs ys p to') (rest_of x ys xs q' back'))

lex-apart : (x y : List ℕ) → IsLexBelow x y → IsLexBelow y x → ⊥
lex-apart x y h k = lex-irreflexive x (lex-then x y x h k)

-- a set of vectors has one descending list at most
pub one-descending : (V : List ℕ → Type 0) (l m : List (List ℕ)) → ListsDescending V l → ListsDescending V m → l ≡ m
one-descending V l m a b =
    same-lists (λ x y. IsLexBelow y x) (λ x y h k. lex-apart y x h k) l m a.descending b.descending
    (λ z h. (b.exactly z).1 ((a.exactly z).0 h)) (λ z h. (a.exactly z).1 ((b.exactly z).0 h))

-- and one ascending list
pub one-ascending : (V : List ℕ → Type 0) (l m : List (List ℕ)) → ListsAscending V l → ListsAscending V m → l ≡ m
one-ascending V l m a b =
    same-lists IsLexBelow lex-apart l m a.ascending b.ascending
    (λ z h. (b.exactly z).1 ((a.exactly z).0 h)) (λ z h. (a.exactly z).1 ((b.exactly z).0 h))
