-- What the inductions over all elements need of a family of sets of vectors, for numbers and for vectors.
use Rattle.std.proofs.Common.{◌≡◌, ℕ, ◌-◌, ◌<◌, ◌≤◌, List, [], length, get_or, sum, sym, ap, subst, ◌∙◌, inl, inr, arith}
use Rattle.std.specs.Prelude.{All}
use Rattle.std.proofs.lemmas.Bool.{cases_eq}
use Rattle.std.proofs.lemmas.List.{ext_get_or}
use Rattle.sg_defs.specs.Vectors.{plus, IsBelow, IsLexBelow, ListsDescending}
use Rattle.sg_defs.specs.Membership.{IsFactorization}
use Rattle.sg_defs.proofs.VectorLemmas.{length-plus, value_of-plus}
use Rattle.sg_nonunique.specs.Affine.{vector_value_of, IsVectorFactorization, IsAffineSemigroup}
use Rattle.sg_nonunique.specs.Costs.{IsPartial}
use Rattle.sg_nonunique.specs.Places.{raise, lower}
use Rattle.sg_nonunique.proofs.AffineLemmas.{length-vector_value, vector_value-raise, vector_value-lower, vector_value-plus, generator-positive}
use Rattle.sg_nonunique.proofs.OrderLemmas.{below-here}
use Rattle.sg_nonunique.proofs.PlaceLemmas.{inside, length-raise, length-lower, value_of-raise, value_of-lower}
use Rattle.sg_nonunique.proofs.SumLemmas.{get_or-plus, sum-plus}
use Rattle.sg_laws_finite.specs.Listing.{all_factorizations, all_partial}
use Rattle.sg_laws_finite.proofs.ElementLemmas.{contains-nil, pairs-nil}
use Rattle.sg_laws_finite.proofs.FactorizationLemmas.{factorizations-listed}
use Rattle.sg_laws_finite.proofs.KeepLemmas.{keep, keep-pairs, keep-exactly}
use Rattle.sg_laws_finite.proofs.PartialLemmas.{partial-listed}
use Rattle.sg_laws_finite.proofs.SearchLemmas.{vectors-decided}

-- F n are the factorizations of the element n, vectors of k places
pub record IsFamily {I : Type 0} (F : I → List ℕ → Type 0) (size : I → ℕ) (k : ℕ) : Type 0 where
  pub places : (n : I) (x : List ℕ) → F n x → length x ≡ k
  -- each vector is one of one element
  pub one_element : (n m : I) (x : List ℕ) → F n x → F m x → n ≡ m
  -- two vectors of an element may stand for one another in a sum
  pub moves : (m n : I) (a b c : List ℕ) → F m a → F m b → length c ≡ k → F n (plus a c) → F n (plus b c)
  -- where place i is positive, the vectors lowered there are those of a lesser element, and these raised there are of n
  pub lowered : (n : I) (i : ℕ) (x : List ℕ) → F n x → 0 < get_or x i 0 →
      (m : I) × (size m < size n) × ((y : List ℕ) → F n y → 0 < get_or y i 0 → F m (lower y i)) × ((z : List ℕ) → F m z → F n (raise z i))
  pub listed : (n : I) → (l : List (List ℕ)) × ListsDescending (F n) l

-- the factorizations of numbers by positive numbers
pub numbers-family : (G : List ℕ) → All (λ g. 1 ≤ g) G → IsFamily (IsFactorization G) (λ n. n) (length G)
numbers-family G positive = record {
  places = λ n x f. f.places;
  one_element = λ n m x f g. sym f.value ∙ g.value;
  moves = λ m n a b c f g e h. record {
    places = length-plus b c (g.places ∙ sym e) ∙ g.places;
    value = omega (arith, value_of-plus G b c g.places e, value_of-plus G a c f.places e, f.value, g.value, h.value);
  };
  lowered = λ n i x f h.
      let l : i < length G = omega (arith, inside x i h, f.places) in
      let e = value_of-lower G x i f.places h in (
        n - get_or G i 0,
        omega (arith, positive i 0 l, e, f.value),
        (λ y g k. record {
          places = length-lower y i ∙ g.places;
          value = omega (arith, value_of-lower G y i g.places k, g.value);
        }),
        (λ z g. record {
          places = length-raise z i ∙ g.places;
          value = omega (arith, value_of-raise G z i l g.places, g.value, e, f.value);
        }),
      );
  listed = λ n. (all_factorizations G n, factorizations-listed G n positive);
}

-- ---- vectors

module _ (d : ℕ) (A : List (List ℕ)) (s : IsAffineSemigroup d A) where
  -- a generator taken away from both sides
  same_rest : (i : ℕ) (u v : List ℕ) → i < length A → length u ≡ d → length v ≡ d → plus u (get_or A i []) ≡ plus v (get_or A i []) → u ≡ v
  same_rest i u v l e f h =
      let a = get_or A i [] in
      let g : length a ≡ d = s.dimension i [] l in
      ext_get_or 0 u v (e ∙ sym f) (λ j _.
      let p : get_or u j 0 ≡ get_or v j 0 = omega (arith, ap (λ w. get_or w j 0) h, get_or-plus u a j (e ∙ sym g), get_or-plus v a j (f ∙ sym g)) in p)

  vectors-lowered : (v : List ℕ) (i : ℕ) (x : List ℕ) → IsVectorFactorization d A v x → 0 < get_or x i 0 →
      (m : List ℕ) × (sum m < sum v) × ((y : List ℕ) → IsVectorFactorization d A v y → 0 < get_or y i 0 → IsVectorFactorization d A m (lower y i))
      × ((z : List ℕ) → IsVectorFactorization d A m z → IsVectorFactorization d A v (raise z i))
  vectors-lowered v i x f h =
      let l : i < length A = omega (arith, inside x i h, f.places) in
      let a = get_or A i [] in
      let m = vector_value_of d A (lower x i) in
      let split : v ≡ plus m a = sym f.value ∙ vector_value-lower d A x i s.dimension f.places h in
      let len : (z : List ℕ) → length (vector_value_of d A z) ≡ length a = λ z. length-vector_value d A z s.dimension ∙ sym (s.dimension i [] l) in (
        m,
        omega (arith, ap sum split, sum-plus m a (len (lower x i)), generator-positive d A s i l),
        (λ y g k. record {
          places = length-lower y i ∙ g.places;
          value = same_rest i (vector_value_of d A (lower y i)) m l (length-vector_value d A (lower y i) s.dimension) (length-vector_value d A (lower x i) s.dimension)
              (sym (vector_value-lower d A y i s.dimension g.places k) ∙ g.value ∙ split);
        }),
        (λ z g. record {
          places = length-raise z i ∙ g.places;
          value = vector_value-raise d A z i s.dimension g.places l ∙ ap (λ u. plus u a) g.value ∙ sym split;
        }),
      )

  vectors-listed : (v : List ℕ) → (l : List (List ℕ)) × ListsDescending (IsVectorFactorization d A v) l
  vectors-listed v = elim (cases_eq (length v) d) [
    | inr other ↦ (
      [],
      record {
        descending = pairs-nil (λ x y. IsLexBelow y x);
        exactly = λ z. ((λ h. absurd (contains-nil z h)), (λ f. absurd (other (ap length (sym f.value) ∙ length-vector_value d A z s.dimension))));
      },
    )
    | inl e ↦
        let all = partial-listed d A v s.dimension s.nonzero e in
        let Q = λ (z : List ℕ). vector_value_of d A z ≡ v in
        let decide = λ (z : List ℕ). vectors-decided (vector_value_of d A z) v in (
          keep Q decide (all_partial A v),
          record {
            descending = keep-pairs Q decide (λ x y. IsLexBelow y x) (all_partial A v) all.descending;
            exactly = λ z.
                let k = keep-exactly Q decide (IsPartial d A v) (all_partial A v) all.exactly z in (
                  (λ h. let p = k.0 h in record { places = p.0.places; value = p.1 }),
                  (λ f. k.1 (record { places = f.places; below = subst (λ u. IsBelow u v) (sym f.value) (below-here v) }, f.value)),
                );
          },
        )
  ]

  -- the factorizations of vectors by the generators of an affine semigroup
  pub vectors-family : IsFamily (IsVectorFactorization d A) sum (length A)
  vectors-family = record {
    places = λ n x f. f.places;
    one_element = λ n m x f g. sym f.value ∙ g.value;
    moves = λ m n a b c f g e h. record {
      places = length-plus b c (g.places ∙ sym e) ∙ g.places;
      value = vector_value-plus d A b c s.dimension g.places e ∙ ap (λ u. plus u (vector_value_of d A c)) (g.value ∙ sym f.value)
          ∙ sym (vector_value-plus d A a c s.dimension f.places e) ∙ h.value;
    };
    lowered = vectors-lowered;
    listed = vectors-listed;
  }
