-- Where the elements with two classes are listed, the greatest least length of their classes and their greatest delta are
-- there: so are the catenary degree and the greatest delta of all elements.
use Rattle.std.proofs.Common.{◌≡◌, ℕ, zero, suc, ◌≤◌, List, [], ◌∷◌, sum, refl, subst, inl, inr, arith}
use Rattle.std.specs.Prelude.{◌⊎◌, ◌↔◌, Contains, Option, None, Some}
use Rattle.std.proofs.lemmas.Bool.{cases_lt}
use Rattle.sg_defs.proofs.ListLemmas.{contains-cases}
use Rattle.sg_nonunique.specs.Catenary.{IsCatenary}
use Rattle.sg_nonunique.specs.Classes.{IsSameClass, HasTwoClasses}
use Rattle.sg_nonunique.specs.Deltas.{IsDelta, IsMaxDelta}
use Rattle.sg_laws_finite.proofs.ElementLemmas.{contains-nil, here, later}
use Rattle.sg_laws_finite.proofs.KeepLemmas.{keep, keep-exactly}
use Rattle.sg_laws_finite.proofs.SearchLemmas.{greatest-in, least-in}
use Rattle.sg_laws_finite.proofs.SetLemmas.{class-decided, deltas-listed}
use Rattle.sg_laws_families.specs.Bounds.{IsGreatestBettiDelta, IsGreatestLeastLength}
use Rattle.sg_laws_families.proofs.ChainLemmas.{catenary-from_classes}
use Rattle.sg_laws_families.proofs.ClassLemmas.{class-here, class-then, class-back, class-end}
use Rattle.sg_laws_families.proofs.Families.{IsFamily}
use Rattle.sg_laws_families.proofs.GapLemmas.{max_delta-from_betti}

-- of the elements of a list, each with a number that bounds it and that it reaches, the greatest number
greatest-of : {A : Type 0} (Up Low : A → ℕ → Type 0) → ((x : A) (s t : ℕ) → s ≤ t → Up x s → Up x t) →
    (l : List A) → ((x : A) → Contains l x → (s : ℕ) × Up x s × Low x s) →
    (N : ℕ) × ((x : A) → Contains l x → Up x N) × ((N ≡ 0) ⊎ ((x : A) × Contains l x × Low x N))
greatest-of Up Low weaker [] each = (0, (λ x h. absurd (contains-nil x h)), inl refl)
greatest-of Up Low weaker (y ∷ l) each =
    let first = each y (here y l) in
    let rest = greatest-of Up Low weaker l (λ x h. each x (later y l x h)) in
    elim (cases_lt rest.0 first.0) [
      | inl less ↦ (
        first.0,
        (λ x h. elim (contains-cases y l x h) [
          | inl e ↦ subst (λ v. Up v first.0) e first.1
          | inr behind ↦ weaker x rest.0 first.0 (omega arith) (rest.1 x behind)
        ]),
        inr (y, here y l, first.2),
      )
      | inr more ↦ (
        rest.0,
        (λ x h. elim (contains-cases y l x h) [
          | inl e ↦ subst (λ v. Up v rest.0) e (weaker y first.0 rest.0 more first.1)
          | inr behind ↦ rest.1 x behind
        ]),
        elim rest.2 [
          | inl none ↦ inl none
          | inr some ↦ inr (some.0, later y l some.0 some.1, some.2)
        ],
      )
    ]

module _ {I : Type 0} (F : I → List ℕ → Type 0) (size : I → ℕ) (k : ℕ) (family : IsFamily F size k)
    (ns : List I) (betti : (n : I) → Contains ns n ↔ HasTwoClasses (F n)) where
  -- ---- lengths

  -- the class of x has a vector of length at most N, and one of at least N
  abbrev IsShort : I → List ℕ → ℕ → Type 0
  IsShort n x N = (a : List ℕ) × IsSameClass (F n) x a × (sum a ≤ N)

  abbrev IsLong : I → List ℕ → ℕ → Type 0
  IsLong n x N = F n x × ((a : List ℕ) → IsSameClass (F n) x a → N ≤ sum a)

  -- a class has a shortest vector
  shortest : (n : I) (x : List ℕ) → F n x → (s : ℕ) × IsShort n x s × IsLong n x s
  shortest n x p =
      let l = (family.listed n).0 in
      let lists = (family.listed n).1 in
      let same = class-decided (F n) l lists x in
      first n x p (keep (IsSameClass (F n) x) same l) (keep-exactly (IsSameClass (F n) x) same (F n) l lists.exactly)
    where
      first : (n : I) (x : List ℕ) → F n x → (m : List (List ℕ)) → ((z : List ℕ) → Contains m z ↔ (F n z × IsSameClass (F n) x z)) → (s : ℕ) × IsShort n x s × IsLong n x s
      first n x p [] exactly = absurd (contains-nil x ((exactly x).1 (p, class-here (F n) x p)))
      first n x p (y ∷ m) exactly =
          let w = least-in sum y m in
          (sum w.0, (w.0, ((exactly w.0).0 w.1).1, omega arith), (p, λ b j. w.2 b ((exactly b).1 (class-end (F n) x b j, j))))

  -- the greatest least length of the classes of one element
  of_element : (n : I) → (N : ℕ) × ((x : List ℕ) → F n x → IsShort n x N) × ((N ≡ 0) ⊎ ((x : List ℕ) × IsLong n x N))
  of_element n =
      let l = (family.listed n).0 in
      let exactly = (family.listed n).1.exactly in
      let g = greatest-of (IsShort n) (IsLong n) (λ x s t less h. (h.0, h.1, omega (arith, less, h.2))) l (λ x h. shortest n x ((exactly x).0 h)) in
      (g.0, (λ x f. g.1 x ((exactly x).1 f)), elim g.2 [ inl none ↦ inl none | inr some ↦ inr (some.0, some.2) ])

  -- a vector of an element with two classes is in another class than some other
  other_class : (n : I) (x : List ℕ) → HasTwoClasses (F n) → F n x → (y : List ℕ) × F n y × (IsSameClass (F n) x y → ⊥)
  other_class n x h p = elim (class-decided (F n) (family.listed n).0 (family.listed n).1 x h.0) [
    | inr apart ↦ (h.0, h.2, apart)
    | inl same ↦ (h.1, h.3, λ j. h.4 (class-then (F n) h.0 x h.1 (class-back (F n) x h.0 same) j))
  ]

  pub greatest_least_length-exists : (N : ℕ) × IsGreatestLeastLength F N
  greatest_least_length-exists =
      let g = greatest-of (λ n N. (x : List ℕ) → F n x → IsShort n x N) (λ n N. (N ≡ 0) ⊎ ((x : List ℕ) × IsLong n x N))
      (λ n s t less h x f. let a = h x f in (a.0, a.1, omega (arith, less, a.2))) ns (λ n _. of_element n) in (
        g.0,
        record {
          bound = λ n x y p q apart. g.1 n ((betti n).1 (x, y, p, q, apart)) x p;
          reached = elim g.2 [
            | inl none ↦ inl none
            | inr some ↦ elim some.2 [
              | inl none ↦ inl none
              | inr long ↦
                  let x = long.0 in
                  let other = other_class some.0 x ((betti some.0).0 some.1) long.1.0 in
                  inr (some.0, x, other.0, long.1.0, other.1, other.2, long.1.1)
            ]
          ];
        },
      )

  -- so the family has a catenary degree
  pub catenary_degree-exists : (c : ℕ) × IsCatenary F c
  catenary_degree-exists = let g = greatest_least_length-exists in (g.0, catenary-from_classes F size k family g.0 g.1)

  -- ---- deltas

  -- the greatest delta of one element, and 0 where it has none
  delta_of_element : (n : I) → (D : ℕ) × ((d : ℕ) → IsDelta (F n) d → d ≤ D) × ((D ≡ 0) ⊎ IsDelta (F n) D)
  delta_of_element n = greatest (deltas-listed (F n) (family.listed n).0 (family.listed n).1).0 (deltas-listed (F n) (family.listed n).0 (family.listed n).1).1.exactly
    where
      greatest : (ds : List ℕ) → ((d : ℕ) → Contains ds d ↔ IsDelta (F n) d) → (D : ℕ) × ((d : ℕ) → IsDelta (F n) d → d ≤ D) × ((D ≡ 0) ⊎ IsDelta (F n) D)
      greatest [] exactly = (0, (λ d h. absurd (contains-nil d ((exactly d).1 h))), inl refl)
      greatest (e ∷ ds) exactly = let g = greatest-in (λ d. d) e ds in (g.0, (λ d h. g.2 d ((exactly d).1 h)), inr ((exactly g.0).0 g.1))

  pub greatest_betti_delta-exists : (r : Option ℕ) × IsGreatestBettiDelta F r
  greatest_betti_delta-exists =
      let g = greatest-of (λ n D. (d : ℕ) → IsDelta (F n) d → d ≤ D) (λ n D. (D ≡ 0) ⊎ IsDelta (F n) D)
      (λ n s t less h d i. let l = h d i in omega arith) ns (λ n _. delta_of_element n) in
      by g.0 g.1 g.2
    where
      by : (D : ℕ) → ((n : I) → Contains ns n → (d : ℕ) → IsDelta (F n) d → d ≤ D) → ((D ≡ 0) ⊎ ((n : I) × Contains ns n × ((D ≡ 0) ⊎ IsDelta (F n) D))) → (r : Option ℕ) × IsGreatestBettiDelta F r
      by zero bound reached = (
        None,
        record {
          none = λ n d two h. let l = bound n ((betti n).1 two) d h in omega (arith, l, h.positive);
          some = tt;
          greatest = tt;
        },
      )
      by (suc D) bound (inl none) = absurd (omega arith)
      by (suc D) bound (inr (n, c, inl none)) = absurd (omega arith)
      by (suc D) bound (inr (n, c, inr delta)) = (
        Some (suc D),
        record {
          none = tt;
          some = (n, delta);
          greatest = λ m d two h. bound m ((betti m).1 two) d h;
        },
      )

  -- so the family has a greatest delta, or none
  pub max_delta-exists : (r : Option ℕ) × IsMaxDelta F r
  max_delta-exists = let g = greatest_betti_delta-exists in (g.0, max_delta-from_betti F size k family g.0 g.1)
