-- Every element with two classes is the sum of an Apery element of the first generator and a later generator.
use Rattle.std.proofs.Common.{◌≡◌, ℕ, ◌+◌, ◌-◌, ◌<◌, ◌≤◌, List, length, get_or, replicate, refl, sym, ap, subst, ◌∙◌, inl, inr, arith}
use Rattle.std.specs.Prelude.{◌⊎◌, All}
use Rattle.std.proofs.lemmas.Bool.{cases_lt, cases_eq}
use Rattle.sg_defs.specs.Vectors.{value_of}
use Rattle.sg_defs.specs.Membership.{IsFactorization, IsMember}
use Rattle.sg_defs.proofs.DecidedLemmas.{member-decided}
use Rattle.sg_defs.proofs.VectorLemmas.{value_of-zeros}
use Rattle.sg_nonunique.specs.Places.{raise, lower}
use Rattle.sg_nonunique.specs.Classes.{IsSameClass, HasTwoClasses}
use Rattle.sg_nonunique.proofs.PlaceLemmas.{inside, length-raise, length-lower, raise-same, raise-other, value_of-raise, value_of-lower}
use Rattle.sg_nonunique.proofs.SumLemmas.{zero_or_positive}
use Rattle.sg_laws_families.specs.Candidates.{IsBettiCandidate}
use Rattle.sg_laws_families.proofs.ClassLemmas.{class-here, class-step, class-then, class-back}

module _ (G : List ℕ) (positive : All (λ g. 1 ≤ g) G) (n : ℕ) where
  -- 0 has the zero vector alone
  one_of_zero : (x : List ℕ) → IsFactorization G 0 x → x ≡ replicate (length G) 0
  one_of_zero x f = elim (zero_or_positive x) [
    | inl none ↦ none ∙ ap (λ k. replicate k 0) f.places
    | inr some ↦
        let l : some.0 < length G = omega (arith, inside x some.0 some.1, f.places) in
        absurd (omega (arith, value_of-lower G x some.0 f.places some.1, f.value, positive some.0 0 l))
  ]

  pub no_classes_of_zero : n ≡ 0 → HasTwoClasses (IsFactorization G n) → ⊥
  no_classes_of_zero e h =
      let f : IsFactorization G 0 h.0 = subst (λ m. IsFactorization G m h.0) e h.2 in
      let g : IsFactorization G 0 h.1 = subst (λ m. IsFactorization G m h.1) e h.3 in
      h.4 (subst (IsSameClass (IsFactorization G n) h.0) (one_of_zero h.0 f ∙ sym (one_of_zero h.1 g)) (class-here (IsFactorization G n) h.0 h.2))

  -- in the class of those that are positive at place 0
  abbrev IsWithFirst : List ℕ → Type 0
  IsWithFirst x = (u : List ℕ) × IsFactorization G n u × (0 < get_or u 0 0) × IsSameClass (IsFactorization G n) x u

  -- a factorization with places 0 and j positive
  joining : (x : List ℕ) → IsFactorization G n x → (j rest : ℕ) → 0 < get_or x j 0 → 0 < j → j < length G → n ≡ rest + get_or G j 0 →
      get_or G 0 0 ≤ rest → IsMember G (rest - get_or G 0 0) → IsWithFirst x
  joining x f j rest h after in_range total more m =
      let v = m.0 in
      let one = raise v 0 in
      let both = raise one j in
      let long : 0 < length G = omega arith in
      let len1 : length one ≡ length G = length-raise v 0 ∙ m.1.places in
      let len2 : length both ≡ length G = length-raise one j ∙ len1 in
      let value : value_of G both ≡ n = omega (arith, value_of-raise G v 0 long m.1.places, value_of-raise G one j in_range len1, m.1.value, total, more) in
      let at_first : get_or both 0 0 ≡ get_or v 0 0 + 1 = raise-other one j 0 (λ e. absurd (omega (arith, after, e))) ∙ raise-same v 0 (omega (arith, long, m.1.places)) in
      let at_j : get_or both j 0 ≡ get_or one j 0 + 1 = raise-same one j (omega (arith, in_range, len1)) in
      let g : IsFactorization G n both = record { places = len2; value = value } in
      (both, g, omega (arith, at_first), class-step (IsFactorization G n) x both f g (j, h, omega (arith, at_j)))

  -- place j is positive: without its generator the first one can be taken away as well, or not
  at_place : (x : List ℕ) → IsFactorization G n x → (j : ℕ) → 0 < get_or x j 0 → 0 < j → IsBettiCandidate G n ⊎ IsWithFirst x
  at_place x f j h after =
      let in_range : j < length G = omega (arith, inside x j h, f.places) in
      let rest = value_of G (lower x j) in
      let total : n ≡ rest + get_or G j 0 = omega (arith, value_of-lower G x j f.places h, f.value) in
      let member : IsMember G rest = (lower x j, record { places = length-lower x j ∙ f.places; value = refl }) in
      elim (cases_lt rest (get_or G 0 0)) [
        | inl less ↦ inl (record {
          place = j;
          after_first = after;
          in_range = in_range;
          rest = rest;
          entry = record { member = member; residue = refl; least = λ y e q. omega (arith, less, e) };
          sum = total;
        })
        | inr more ↦ elim (member-decided G (rest - get_or G 0 0)) [
          | inl m ↦ inr (joining x f j rest h after in_range total more m)
          | inr never ↦ inl (record {
            place = j;
            after_first = after;
            in_range = in_range;
            rest = rest;
            entry = record { member = member; residue = refl; least = λ y e q. never (subst (IsMember G) (let d : y ≡ rest - get_or G 0 0 = omega (arith, e) in d) q) };
            sum = total;
          })
        ]
      ]

  first_or_candidate : (x : List ℕ) → IsFactorization G n x → 0 < n → IsBettiCandidate G n ⊎ IsWithFirst x
  first_or_candidate x f above = elim (zero_or_positive x) [
    | inl none ↦ absurd (omega (arith, above, f.value, ap (value_of G) none, value_of-zeros G (length x)))
    | inr some ↦ elim (cases_eq some.0 0) [
      | inl first ↦ inr (x, f, subst (λ j. 0 < get_or x j 0) first some.1, class-here (IsFactorization G n) x f)
      | inr later ↦ at_place x f some.0 some.1 (omega arith)
    ]
  ]

  -- both vectors with place 0 positive share it
  pub betti-candidate : HasTwoClasses (IsFactorization G n) → IsBettiCandidate G n
  betti-candidate h = elim (cases_eq n 0) [
    | inl none ↦ absurd (no_classes_of_zero none h)
    | inr some ↦ elim (first_or_candidate h.0 h.2 (omega arith)) [
      | inl c ↦ c
      | inr a ↦ elim (first_or_candidate h.1 h.3 (omega arith)) [
        | inl c ↦ c
        | inr b ↦ absurd (h.4 (class-then (IsFactorization G n) h.0 a.0 h.1 a.3
            (class-then (IsFactorization G n) a.0 b.0 h.1 (class-step (IsFactorization G n) a.0 b.0 a.1 b.1 (0, a.2, b.2))
            (class-back (IsFactorization G n) h.1 b.0 b.3))))
      ]
    ]
  ]
