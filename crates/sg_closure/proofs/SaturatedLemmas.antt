-- The numbers that are 0, or at least the multiplicity and divided by each common divisor of the generators up to them,
-- are the saturated closure.
use Rattle.std.proofs.Common.{◌≡◌, ℕ, zero, suc, ◌+◌, ◌-◌, ◌*◌, ◌/◌, ◌<◌, ◌≤◌, ◌↔◌, Bool, List, ◌∷◌, length, get_or, take, sym, ap, subst, ◌∙◌, inl, inr, arith}
use Rattle.std.specs.Prelude.{ℤ, pos, Contains}
use Rattle.std.specs.Int.{◌∣◌}
use Rattle.std.proofs.lemmas.Bool.{cases_lt}
use Rattle.std.proofs.lemmas.List.{get_or-take, length-take-le}
use Rattle.std.proofs.lemmas.List.Elements.{All-cons, All-from_get_or}
use Rattle.std.proofs.lemmas.List.Kept.{AllPairs-from_increasing}
use Rattle.std.proofs.lemmas.Nat.Gcd.{dvd-zero, mod-eq-zero_of_dvd}
use Rattle.std.proofs.Math.Nat.{dvd-add, dvd-sub, mod-add-div, eq-zero_of_zero-dvd}
use Rattle.sg_defs.specs.Membership.{IsMember, IsNumericalSemigroup, IsMinimal, Generates, Holds}
use Rattle.sg_defs.specs.Closures.{IsSaturated, IsSaturatedClosure, integer_value_of}
use Rattle.sg_defs.proofs.MembershipLemmas.{member-zero, member-entry, member-induction}
use Rattle.sg_classes.proofs.ResidueLemmas.{IsReached, reached-times, divisor-reached}
use Rattle.sg_defs.proofs.MinimalLemmas.{first-least}
use Rattle.sg_classes.proofs.GeneratorLemmas.{contains-place, place-contains, member-divides}
use Rattle.sg_closure.specs.Marks.{IsIn, IsAbove, AreGeneratorMarks}
use Rattle.sg_closure.specs.Saturation.{IsInSaturation}
use Rattle.sg_closure.proofs.MarkLemmas.{in-past}
use Rattle.sg_closure.proofs.CombinationLemmas.{combination-divides, combination-made}

-- the last of the first b entries that is at most n
abbrev IsLastLow : List ℕ → ℕ → ℕ → ℕ → Type 0
IsLastLow G n b k = (k < b) × (get_or G k 0 ≤ n) × ((j : ℕ) → j < b → get_or G j 0 ≤ n → j ≤ k)

last-low : (G : List ℕ) (n b : ℕ) → 0 < b → get_or G 0 0 ≤ n → (k : ℕ) × IsLastLow G n b k
last-low G n zero l m = absurd (omega arith)
last-low G n (suc b) l m = elim (cases_lt n (get_or G b 0)) [
  | inr low ↦ (b, (omega arith, low, λ j a c. omega arith))
  | inl high ↦ elim (cases_lt 0 b) [
    | inr none ↦ let e : 0 ≡ b = omega arith in absurd (omega (arith, high, m, ap (λ i. get_or G i 0) e))
    | inl some ↦
        let r = last-low G n b some m in (
          r.0,
          (
            omega (arith, r.1.0),
            r.1.1,
            λ j a c. elim (cases_lt j b) [
              | inl less ↦ r.1.2 j less c
              | inr more ↦ let e : j ≡ b = omega arith in absurd (omega (arith, high, c, ap (λ i. get_or G i 0) e))
            ],
          ),
        )
  ]
]

module _ (G : List ℕ) (s : IsNumericalSemigroup G) (minimal : IsMinimal G) where
  positive : 0 < get_or G 0 0
  positive = omega (arith, s.positive 0 0 s.not_empty)

  -- the saturation has the sums of its numbers
  pub saturation-sums : (a b : ℕ) → IsInSaturation G a → IsInSaturation G b → IsInSaturation G (a + b)
  saturation-sums a b (inl e) k = subst (IsInSaturation G) (let f : b ≡ a + b = omega arith in f) k
  saturation-sums a b (inr h) (inl e) = subst (IsInSaturation G) (let f : a ≡ a + b = omega arith in f) (inr h)
  saturation-sums a b (inr h) (inr k) =
      inr (omega (arith, h.0), λ d all. dvd-add d (h.1 d (λ g c l. all g c (omega arith))) (k.1 d (λ g c l. all g c (omega arith))))

  -- and all members
  pub saturation-holds : (n : ℕ) → IsMember G n → IsInSaturation G n
  saturation-holds = member-induction (IsInSaturation G) G (inl (let e : 0 ≡ 0 = omega arith in e))
      (λ i n l p. saturation-sums n (get_or G i 0) p
      (inr (first-least G minimal.ascending i l, λ d all. all (get_or G i 0) (place-contains G i l) (omega arith))))

  -- what divides the generators up to s divides each number of the closure up to s
  divides-lower : (d n t : ℕ) → t ≤ n → ((g : ℕ) → Contains G g → g ≤ n → d ∣ g) → IsInSaturation G t → d ∣ t
  divides-lower d n t l all (inl e) = subst (λ x. d ∣ x) (sym e) (dvd-zero d)
  divides-lower d n t l all (inr h) = h.1 d (λ g c m. all g c (omega arith))

  -- it is saturated
  pub saturation-saturated : (n : ℕ) (ss : List ℕ) (zs : List ℤ) (r : ℕ) → IsInSaturation G n → ((i : ℕ) → i < length ss → IsInSaturation G (get_or ss i 0) × (get_or ss i 0 ≤ n)) →
      integer_value_of ss zs ≡ pos r → IsInSaturation G (n + r)
  saturation-saturated n ss zs r (inl e) h f =
      let none : 0 ∣ r = combination-divides 0 ss zs r
      (λ i l. let low = (h i l).1 in let g : 0 ≡ get_or ss i 0 = omega (arith, e, low) in subst (λ x. 0 ∣ x) g (dvd-zero 0)) f in
      inl (omega (arith, e, eq-zero_of_zero-dvd none))
  saturation-saturated n ss zs r (inr k) h f =
      inr (
        omega (arith, k.0),
        λ d all.
            let lower : (g : ℕ) → Contains G g → g ≤ n → d ∣ g = λ g c l. all g c (omega arith) in
            dvd-add d (k.1 d lower) (combination-divides d ss zs r (λ i l. divides-lower d n (get_or ss i 0) (h i l).1 lower (h i l).0) f),
      )

  -- a saturated semigroup above G holds them
  module _ (K : List ℕ) (kind : IsSaturated K) (above : Holds K G) where
    module _ (n k : ℕ) (inside : k < length G) (low : get_or G k 0 ≤ n) (greatest : (j : ℕ) → j < length G → get_or G j 0 ≤ n → j ≤ k)
        (all : (d : ℕ) → ((g : ℕ) → Contains G g → g ≤ n → d ∣ g) → d ∣ n)
        (part : List ℕ) (long : length part ≡ suc k) (same : (i : ℕ) → i < suc k → get_or part i 0 ≡ get_or G i 0) where
      entry-low : (i : ℕ) → i < suc k → get_or G i 0 ≤ get_or G k 0
      entry-low i l = elim (cases_lt i k) [
        | inl less ↦ omega (arith, AllPairs-from_increasing G minimal.ascending i k 0 less inside)
        | inr more ↦ let e : i ≡ k = omega arith in omega (arith, ap (λ j. get_or G j 0) e)
      ]

      held : (i : ℕ) → i < length part → IsMember K (get_or part i 0) × (get_or part i 0 ≤ get_or G k 0)
      held i l =
          let j : i < suc k = omega (arith, long) in
          let e = same i j in
          (subst (IsMember K) (sym e) (above (get_or G i 0) (member-entry G i (omega (arith, inside)))), omega (arith, e, entry-low i j))

      divides : (d : ℕ) → ((i : ℕ) → i < length part → d ∣ get_or part i 0) → (g : ℕ) → Contains G g → g ≤ n → d ∣ g
      divides d h g c l =
          let p = contains-place G g c in
          let i : p.0 < suc k = omega (arith, greatest p.0 p.1 (omega (arith, l, p.2))) in
          subst (λ y. d ∣ y) (same p.0 i ∙ p.2) (h p.0 (omega (arith, i, long)))

      rest-reached : IsReached part (get_or G 0 0) (n - get_or G k 0)
      rest-reached =
          let r = divisor-reached part (get_or G 0 0) positive in
          let rest : r.0 ∣ (n - get_or G k 0) = dvd-sub r.0 (all r.0 (divides r.0 r.1)) (divides r.0 r.1 (get_or G k 0) (place-contains G k inside) low) in
          let q = (n - get_or G k 0) / r.0 in
          let e : q * r.0 ≡ n - get_or G k 0 = omega (arith, mod-add-div (n - get_or G k 0) r.0, mod-eq-zero_of_dvd r.0 rest) in
          subst (IsReached part (get_or G 0 0)) e (reached-times part (get_or G 0 0) q r.0 r.2)

      pub made : IsMember K n
      made =
          let r = rest-reached in
          let z = combination-made part (get_or G 0 0) r.0 (n - get_or G k 0) r.1 in
          let e : get_or G k 0 + (n - get_or G k 0) ≡ n = omega arith in
          subst (IsMember K) e (kind (get_or G k 0) (get_or G 0 0 ∷ part) z.0 (n - get_or G k 0) (above (get_or G k 0) (member-entry G k inside))
          (All-cons (λ t. IsMember K t × (t ≤ get_or G k 0)) (get_or G 0 0) part (above (get_or G 0 0) (member-entry G 0 s.not_empty), entry-low 0 (omega arith))
          (All-from_get_or (λ t. IsMember K t × (t ≤ get_or G k 0)) part 0 held)) z.1 z.2)

    -- each saturated semigroup above has its numbers
    pub saturation-least : (n : ℕ) → IsInSaturation G n → IsMember K n
    saturation-least n (inl e) = subst (IsMember K) (sym e) (member-zero K)
    saturation-least n (inr h) =
        let r = last-low G n (length G) s.not_empty h.0 in
        made n r.0 r.1.0 r.1.1 r.1.2 h.1 (take (suc r.0) G) (length-take-le (suc r.0) G (omega (arith, r.1.0))) (λ i l. get_or-take (suc r.0) G i 0 l)

  module _ (before marks : List Bool) (start : AreGeneratorMarks G before) (long : length marks ≡ length before)
      (told : (n : ℕ) → n < length marks → IsIn marks n ↔ IsInSaturation G n) where
    in-saturation : (n : ℕ) → IsIn marks n ↔ IsInSaturation G n
    in-saturation n = elim (cases_lt n (length marks)) [
      | inl less ↦ told n less
      | inr more ↦
          let entry : (i : ℕ) → i < length G → get_or G i 0 < length before = λ i l. start.long (get_or G i 0) (place-contains G i l) in (
            (λ p. inr (
              omega (arith, more, long, entry 0 s.not_empty),
              λ d all.
                  member-divides G d n (λ i l. all (get_or G i 0) (place-contains G i l) (omega (arith, more, long, entry i l))) (start.past n (omega (arith, more, long))),
            )),
            (λ q. in-past marks n more),
          )
    ]

    -- marks that tell it are closed under sums, and hold the given semigroup
    pub saturation-above : IsAbove G marks
    saturation-above = record {
      sums = λ a b p q. (in-saturation (a + b)).1 (saturation-sums a b ((in-saturation a).0 p) ((in-saturation b).0 q));
      holds = λ n p. (in-saturation n).1 (saturation-holds n p);
    }

    -- their semigroup is the saturated closure
    pub saturation-closure : (M : List ℕ) → Generates (IsIn marks) M → IsSaturatedClosure G M
    saturation-closure M g = record {
      semigroup = g.semigroup;
      has = λ n ss zs r p h l f. to (n + r) (saturation-saturated n ss zs r (from n p) (λ i k. let q = h i 0 k in (from (get_or ss i 0) q.0, q.1)) f);
      holds = λ n p. to n (saturation-holds n p);
      least = λ K semigroup kind above n p. saturation-least K kind above n (from n p);
    }
      where
        to : (n : ℕ) → IsInSaturation G n → IsMember M n
        to n h = (g.same n).0 ((in-saturation n).1 h)

        from : (n : ℕ) → IsMember M n → IsInSaturation G n
        from n p = (in-saturation n).0 ((g.same n).1 p)
