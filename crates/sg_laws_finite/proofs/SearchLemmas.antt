-- Search in a list: some element or each has a decided property, and some element has the greatest or least number.
use Rattle.std.proofs.Common.{◌≡◌, ◌≢◌, ℕ, ◌≤◌, List, [], ◌∷◌, refl, sym, subst, inl, inr, arith}
use Rattle.std.specs.Prelude.{◌⊎◌, ◌↔◌, Contains}
use Rattle.std.proofs.lemmas.Bool.{cases_lt, cases_eq}
use Rattle.sg_defs.proofs.ListLemmas.{contains-cases}
use Rattle.sg_laws_finite.proofs.ElementLemmas.{contains-nil, here, later}

-- ---- equality of vectors

pub cons-decided : {A : Type 0} → ((x y : A) → (x ≡ y) ⊎ (x ≢ y)) → (xs ys : List A) → (xs ≡ ys) ⊎ (xs ≢ ys)
cons-decided equal [] [] = inl refl
cons-decided equal [] (y ∷ ys) = inr (λ e. cc)
cons-decided equal (x ∷ xs) [] = inr (λ e. cc)
cons-decided equal (x ∷ xs) (y ∷ ys) = elim (equal x y) [
  | inr apart ↦ inr (λ e. apart cc)
  | inl same ↦ elim (cons-decided equal xs ys) [
    | inr apart ↦ inr (λ e. apart cc)
    | inl rest ↦ inl cc
  ]
]

pub vectors-decided : (x y : List ℕ) → (x ≡ y) ⊎ (x ≢ y)
vectors-decided = cons-decided cases_eq

-- ---- decided properties of the elements

module _ {A : Type 0} (Q : A → Type 0) (decide : (x : A) → Q x ⊎ ¬ Q x) where
  -- some element has it, or none
  pub some-decided : (xs : List A) → ((x : A) × Contains xs x × Q x) ⊎ ((x : A) → Contains xs x → Q x → ⊥)
  some-decided [] = inr (λ x h q. contains-nil x h)
  some-decided (y ∷ xs) = elim (decide y) [
    | inl q ↦ inl (y, here y xs, q)
    | inr not ↦ elim (some-decided xs) [
      | inl found ↦ inl (found.0, later y xs found.0 found.1, found.2)
      | inr none ↦ inr (λ x h q. elim (contains-cases y xs x h) [
        | inl e ↦ not (subst Q (sym e) q)
        | inr rest ↦ none x rest q
      ])
    ]
  ]

  -- each element has it, or some does not
  pub each-decided : (xs : List A) → ((x : A) → Contains xs x → Q x) ⊎ ((x : A) × Contains xs x × ¬ Q x)
  each-decided [] = inl (λ x h. absurd (contains-nil x h))
  each-decided (y ∷ xs) = elim (decide y) [
    | inr not ↦ inr (y, here y xs, not)
    | inl q ↦ elim (each-decided xs) [
      | inr found ↦ inr (found.0, later y xs found.0 found.1, found.2)
      | inl all ↦ inl (λ x h. elim (contains-cases y xs x h) [
        | inl e ↦ subst Q e q
        | inr rest ↦ all x rest
      ])
    ]
  ]

-- ---- of a set that is listed

module _ {A : Type 0} (P Q : A → Type 0) (decide : (x : A) → Q x ⊎ ¬ Q x) (xs : List A) (exactly : (x : A) → Contains xs x ↔ P x) where
  pub some-in : ((x : A) × P x × Q x) ⊎ ((x : A) → P x → Q x → ⊥)
  some-in = elim (some-decided Q decide xs) [
    | inl found ↦ inl (found.0, (exactly found.0).0 found.1, found.2)
    | inr none ↦ inr (λ x p q. none x ((exactly x).1 p) q)
  ]

  pub each-in : ((x : A) → P x → Q x) ⊎ ((x : A) × P x × ¬ Q x)
  each-in = elim (each-decided Q decide xs) [
    | inl all ↦ inl (λ x p. all x ((exactly x).1 p))
    | inr found ↦ inr (found.0, (exactly found.0).0 found.1, found.2)
  ]

-- membership in a listed set is decided where equality is
pub listed-decided : {A : Type 0} (P : A → Type 0) (xs : List A) → ((x y : A) → (x ≡ y) ⊎ (x ≢ y)) → ((x : A) → Contains xs x ↔ P x) → (x : A) → P x ⊎ ¬ P x
listed-decided P xs equal exactly x = elim (some-decided (λ y. y ≡ x) (λ y. equal y x) xs) [
  | inl found ↦ inl ((exactly x).0 (subst (Contains xs) found.2 found.1))
  | inr none ↦ inr (λ p. none x ((exactly x).1 p) refl)
]

-- a listed set has an item or none
pub listed-empty : {A : Type 0} (P : A → Type 0) (xs : List A) → ((x : A) → Contains xs x ↔ P x) → ((x : A) × P x) ⊎ ((x : A) → P x → ⊥)
listed-empty P [] exactly = inr (λ x p. contains-nil x ((exactly x).1 p))
listed-empty P (y ∷ xs) exactly = inl (y, (exactly y).0 (here y xs))

-- ---- greatest and least numbers

-- some element has the greatest number
pub greatest-in : {A : Type 0} (f : A → ℕ) (y : A) (xs : List A) → (x : A) × Contains (y ∷ xs) x × ((z : A) → Contains (y ∷ xs) z → f z ≤ f x)
greatest-in f y [] = (
  y,
  here y [],
  λ z h. elim (contains-cases y [] z h) [
    | inl e ↦ subst (λ v. f v ≤ f y) e (omega arith)
    | inr none ↦ absurd (contains-nil z none)
  ],
)
greatest-in f y (w ∷ xs) =
    let g = greatest-in f w xs in
    elim (cases_lt (f g.0) (f y)) [
      | inl less ↦ (
        y,
        here y (w ∷ xs),
        λ z h. elim (contains-cases y (w ∷ xs) z h) [
          | inl e ↦ subst (λ v. f v ≤ f y) e (omega arith)
          | inr rest ↦ omega (arith, less, g.2 z rest)
        ],
      )
      | inr more ↦ (
        g.0,
        later y (w ∷ xs) g.0 g.1,
        λ z h. elim (contains-cases y (w ∷ xs) z h) [
          | inl e ↦ subst (λ v. f v ≤ f g.0) e more
          | inr rest ↦ g.2 z rest
        ],
      )
    ]

-- and some the least
pub least-in : {A : Type 0} (f : A → ℕ) (y : A) (xs : List A) → (x : A) × Contains (y ∷ xs) x × ((z : A) → Contains (y ∷ xs) z → f x ≤ f z)
least-in f y [] = (
  y,
  here y [],
  λ z h. elim (contains-cases y [] z h) [
    | inl e ↦ subst (λ v. f y ≤ f v) e (omega arith)
    | inr none ↦ absurd (contains-nil z none)
  ],
)
least-in f y (w ∷ xs) =
    let g = least-in f w xs in
    elim (cases_lt (f y) (f g.0)) [
      | inl less ↦ (
        y,
        here y (w ∷ xs),
        λ z h. elim (contains-cases y (w ∷ xs) z h) [
          | inl e ↦ subst (λ v. f y ≤ f v) e (omega arith)
          | inr rest ↦ omega (arith, less, g.2 z rest)
        ],
      )
      | inr more ↦ (
        g.0,
        later y (w ∷ xs) g.0 g.1,
        λ z h. elim (contains-cases y (w ∷ xs) z h) [
          | inl e ↦ subst (λ v. f g.0 ≤ f v) e more
          | inr rest ↦ g.2 z rest
        ],
      )
    ]

-- each item of a listed set has a number up to a bound
pub bound-exists : {A : Type 0} (P : A → Type 0) (f : A → ℕ) (xs : List A) → ((x : A) → Contains xs x ↔ P x) → (b : ℕ) × ((x : A) → P x → f x ≤ b)
bound-exists P f [] exactly = (0, λ x p. absurd (contains-nil x ((exactly x).1 p)))
bound-exists P f (y ∷ xs) exactly = let g = greatest-in f y xs in (f g.0, λ x p. g.2 x ((exactly x).1 p))
