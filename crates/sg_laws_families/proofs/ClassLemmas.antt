-- The induction behind presentations, catenary degrees and deltas: a relation between vectors that stays when both are raised
-- at one place, and that crosses between the classes of each element, relates any two factorizations of each element.
use Rattle.std.proofs.Common.{ℕ, zero, suc, ◌<◌, ◌≤◌, List, [], ◌∷◌, subst, inl, inr, arith}
use Rattle.sg_nonunique.specs.Places.{raise, lower}
use Rattle.sg_nonunique.specs.Walks.{IsWalk}
use Rattle.sg_nonunique.specs.Classes.{Share, IsSameClass}
use Rattle.sg_nonunique.proofs.PlaceLemmas.{inside, raise-lower}
use Rattle.sg_nonunique.proofs.WalkLemmas.{joined-here, joined-step, joined-end, joined-then, joined-back}
use Rattle.sg_laws_finite.proofs.SetLemmas.{class-decided}
use Rattle.sg_laws_finite.proofs.WalkDecisions.{walk-start}
use Rattle.sg_laws_families.proofs.Families.{IsFamily}

-- ---- classes are classes

pub share-back : (x y : List ℕ) → Share x y → Share y x
share-back x y s = (s.0, s.2, s.1)

module _ (V : List ℕ → Type 0) where
  pub class-here : (x : List ℕ) → V x → IsSameClass V x x
  class-here x v = joined-here V Share x v

  pub class-step : (x y : List ℕ) → V x → V y → Share x y → IsSameClass V x y
  class-step x y v w s = joined-step V Share x y v w s

  pub class-then : (x y z : List ℕ) → IsSameClass V x y → IsSameClass V y z → IsSameClass V x z
  class-then x y z i j = joined-then V Share x y z i j

  pub class-start : (x y : List ℕ) → IsSameClass V x y → V x
  class-start x y j = walk-start Share V j.0 x y j.1

  pub class-end : (x y : List ℕ) → IsSameClass V x y → V y
  class-end x y j = joined-end V Share x y j

  pub class-back : (x y : List ℕ) → IsSameClass V x y → IsSameClass V y x
  class-back x y j = joined-back V Share share-back j.0 x y (class-end x y j) j.1

-- members of the classes of x and y are related
abbrev pub Crosses : (List ℕ → Type 0) → (List ℕ → List ℕ → Type 0) → List ℕ → List ℕ → Type 0
Crosses V J x y = (a b : List ℕ) × IsSameClass V x a × J a b × IsSameClass V b y

module _ {I : Type 0} (F : I → List ℕ → Type 0) (size : I → ℕ) (k : ℕ) (family : IsFamily F size k) (J : I → List ℕ → List ℕ → Type 0)
    (same : (n : I) (x : List ℕ) → F n x → J n x x) (then : (n : I) (x y z : List ℕ) → J n x y → J n y z → J n x z)
    (raised : (m n : I) (i : ℕ) → i < k → ((z : List ℕ) → F m z → F n (raise z i)) → (x y : List ℕ) → F m x → F m y → J m x y → J n (raise x i) (raise y i)) where
  -- neighbours in a walk through a class
  neighbours : (n : I) → ((m : I) → size m < size n → (x y : List ℕ) → F m x → F m y → J m x y) →
      (x y : List ℕ) → F n x → F n y → Share x y → J n x y
  neighbours n below x y p q s =
      let g = family.lowered n s.0 x p s.1 in
      let a = g.2 x p s.1 in
      let b = g.2 y q s.2 in
      let l : s.0 < k = omega (arith, inside x s.0 s.1, family.places n x p) in
      let h = raised g.0 n s.0 l g.3 (lower x s.0) (lower y s.0) a b (below g.0 g.1 (lower x s.0) (lower y s.0) a b) in
      subst (λ v. J n v y) (raise-lower x s.0 s.1) (subst (J n (raise (lower x s.0) s.0)) (raise-lower y s.0 s.2) h)

  walk : (n : I) → ((m : I) → size m < size n → (x y : List ℕ) → F m x → F m y → J m x y) →
      (ps : List (List ℕ)) (x y : List ℕ) → IsWalk (F n) Share x ps y → J n x y
  walk n below [] x y w = subst (J n x) w.1 (same n x w.0)
  walk n below (p ∷ []) x y w = subst (J n x) w.2.1 (neighbours n below x p w.0 w.2.0 w.1)
  walk n below (p ∷ q ∷ ps) x y w = then n x p y (neighbours n below x p w.0 w.2.0 w.1) (walk n below (q ∷ ps) p y w.2)

  -- a walk of the classes, or a crossing between them
  at_element : ((n : I) (x y : List ℕ) → F n x → F n y → ¬ IsSameClass (F n) x y → Crosses (F n) (J n) x y) →
      (n : I) → ((m : I) → size m < size n → (x y : List ℕ) → F m x → F m y → J m x y) →
      (x y : List ℕ) → F n x → F n y → J n x y
  at_element cross n below x y p q = elim (class-decided (F n) (family.listed n).0 (family.listed n).1 x y) [
    | inl one ↦ walk n below one.0 x y one.1
    | inr apart ↦
        let two = cross n x y p q apart in
        then n x two.0 y (walk n below two.2.0 x two.0 two.2.1)
        (then n two.0 two.1 y two.3 (walk n below two.4.0 two.1 y two.4.1))
  ]

  bounded : ((n : I) (x y : List ℕ) → F n x → F n y → ¬ IsSameClass (F n) x y → Crosses (F n) (J n) x y) →
      (b : ℕ) (n : I) → size n ≤ b → (x y : List ℕ) → F n x → F n y → J n x y
  bounded cross zero n l = at_element cross n (λ m less. absurd (let h : size m < size n = less in omega arith))
  bounded cross (suc b) n l = at_element cross n (λ m less. bounded cross b m (let h : size m < size n = less in omega arith))

  pub class-induction : ((n : I) (x y : List ℕ) → F n x → F n y → ¬ IsSameClass (F n) x y → Crosses (F n) (J n) x y) →
      (n : I) (x y : List ℕ) → F n x → F n y → J n x y
  class-induction cross n = bounded cross (size n) n (omega arith)
