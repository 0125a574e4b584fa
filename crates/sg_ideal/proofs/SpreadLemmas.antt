-- A set and its sums with the distances of the first generators, generator by generator.
use Rattle.std.proofs.Common.{◌≡◌, ℕ, ◌+◌, ◌-◌, ◌<◌, ◌≤◌, ◌↔◌, List, length, get_or, refl, sym, subst, ◌∙◌, inl, inr, arith}
use Rattle.std.specs.Prelude.{ℤ, pos, neg_ℤ, ◌+ℤ◌, ◌-ℤ◌, ◌<ℤ◌, ◌≤ℤ◌, Contains, ◌⊎◌}
use Rattle.std.proofs.lemmas.Bool.{cases_lt}
use Rattle.std.proofs.lemmas.Int.{ints}
use Rattle.std.proofs.lemmas.List.{get_or_default}
use Rattle.sg_classes.specs.Classes.{IsAboveEntry}
use Rattle.sg_ideal.specs.Classes.{AreClasses, IsFrom, IsSpread}
use Rattle.sg_lawful.specs.declared.limits.TheConstants.{IDEAL_GENERATOR_LIMIT}
use Rattle.sg_lawful.specs.Generators.{AreSmall}
use Rattle.sg_ideal.proofs.FromLemmas.{from-shift}

-- one of the first k generators leads to n
abbrev pub IsLedTo : List ℕ → ℤ → List ℤ → ℕ → ℕ → Type 0
IsLedTo t base I k n = (i : ℕ) × (i < k) × IsFrom (get_or I i (pos 0)) t (base +ℤ pos n)

-- the sums with the distances of the first k generators, and the set itself
pub record IsSpreadSoFar (t : List ℕ) (base : ℤ) (I : List ℤ) (k : ℕ) (list : List ℕ) : Type 0 where
  pub long : length list ≡ length t
  pub classes : AreClasses list
  pub same : (n : ℕ) → IsAboveEntry list n ↔ (IsAboveEntry t n ⊎ IsLedTo t base I k n)

-- with none
pub spread-none : (t : List ℕ) (base : ℤ) (I : List ℤ) (list : List ℕ) → AreClasses t → list ≡ t → IsSpreadSoFar t base I 0 list
spread-none t base I list c e = subst (IsSpreadSoFar t base I 0) (sym e) (record {
  long = refl;
  classes = c;
  same = λ n. ((λ h. inl h), (λ h. elim h [ inl h ↦ h | inr p ↦ absurd (let l = p.1 in omega arith) ]));
})

-- with one more generator
pub spread-more : (t : List ℕ) (base : ℤ) (I : List ℤ) (k : ℕ) (list now : List ℕ) (b : ℕ) → pos b ≡ get_or I k (pos 0) -ℤ base → length now ≡ length list → AreClasses now →
    ((n : ℕ) → IsAboveEntry now n ↔ (IsAboveEntry list n ⊎ ((b ≤ n) × IsAboveEntry t (n - b)))) → IsSpreadSoFar t base I k list → IsSpreadSoFar t base I (k + 1) now
spread-more t base I k list now b e long classes same h = record {
  long = long ∙ h.long;
  classes = classes;
  same = λ n. (to n, from n);
}
  where
    to : (n : ℕ) → IsAboveEntry now n → IsAboveEntry t n ⊎ IsLedTo t base I (k + 1) n
    to n a = elim ((same n).0 a) [
      | inl before ↦ elim ((h.same n).0 before) [ inl first ↦ inl first | inr p ↦ let l = p.1 in inr (p.0, omega arith, p.2) ]
      | inr p ↦ inr (k, omega arith, (from-shift (get_or I k (pos 0)) base b n t e).1 p)
    ]

    from : (n : ℕ) → IsAboveEntry t n ⊎ IsLedTo t base I (k + 1) n → IsAboveEntry now n
    from n (inl first) = (same n).1 (inl ((h.same n).1 (inl first)))
    from n (inr p) =
        let l = p.1 in
        elim (cases_lt p.0 k) [
          | inl less ↦ (same n).1 (inl ((h.same n).1 (inr (p.0, less, p.2))))
          | inr more ↦
              let at : p.0 ≡ k = omega arith in
              (same n).1 (inr ((from-shift (get_or I k (pos 0)) base b n t e).0 (subst (λ i. IsFrom (get_or I i (pos 0)) t (base +ℤ pos n)) at p.2)))
        ]

-- the base itself is a generator
pub spread-all : (t : List ℕ) (base : ℤ) (I : List ℤ) (k : ℕ) (list : List ℕ) → Contains I base → k ≡ length I → IsSpreadSoFar t base I k list → IsSpread t base I list
spread-all t base I k list listed all h = record {
  long = h.long;
  classes = h.classes;
  same = λ n. (to n, from n);
}
  where
    to : (n : ℕ) → IsAboveEntry list n → (g : ℤ) × Contains I g × IsFrom g t (base +ℤ pos n)
    to n a = elim ((h.same n).0 a) [
      | inl first ↦
          let z : pos 0 ≡ base -ℤ base = omega (arith, ints) in
          let e : n ≡ n - 0 = omega arith in
          (base, listed, (from-shift base base 0 n t z).1 (omega arith, subst (IsAboveEntry t) e first))
      | inr p ↦ let l = p.1 in (get_or I p.0 (pos 0), (p.0, omega arith, get_or_default I p.0 (get_or I p.0 (pos 0)) (pos 0) (omega arith)), p.2)
    ]

    from : (n : ℕ) → (g : ℤ) × Contains I g × IsFrom g t (base +ℤ pos n) → IsAboveEntry list n
    from n q =
        let l = q.1.1 in
        (h.same n).1 (inr (q.1.0, omega arith, subst (λ g. IsFrom g t (base +ℤ pos n)) (sym q.1.2 ∙ get_or_default I q.1.0 q.0 (pos 0) l) q.2))

-- where a generator lies
pub record IsPlaced (base g : ℤ) : Type 0 where
  pub least : base ≤ℤ g
  pub low : neg_ℤ IDEAL_GENERATOR_LIMIT <ℤ base
  pub high : g <ℤ IDEAL_GENERATOR_LIMIT

-- a generator lies between the least one and the limit
pub generator-placed : (I : List ℤ) (base : ℤ) (k : ℕ) → Contains I base → AreSmall I → ((x : ℤ) → Contains I x → base ≤ℤ x) → k < length I → IsPlaced base (get_or I k (pos 0))
generator-placed I base k listed small least inside =
    let here : Contains I (get_or I k (pos 0)) = (k, inside, get_or_default I k (get_or I k (pos 0)) (pos 0) inside) in
    record { least = least (get_or I k (pos 0)) here; low = (small base listed).0; high = (small (get_or I k (pos 0)) here).1 }
