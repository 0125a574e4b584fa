-- The classes of an element, ordered by their least positive places, descend by their greatest vectors; and the greatest
-- vector of a class is that of a lesser element, raised at this place.
use Rattle.std.proofs.Common.{◌≡◌, ℕ, zero, suc, ◌<◌, ◌≤◌, List, [], ◌∷◌, length, get_or, sym, subst, ◌∙◌, inl, inr, arith}
use Rattle.std.proofs.lemmas.Bool.{cases_lt, cases_eq}
use Rattle.sg_defs.specs.Vectors.{IsLexBelow}
use Rattle.sg_nonunique.specs.Places.{raise, lower}
use Rattle.sg_nonunique.specs.Classes.{IsSameClass}
use Rattle.sg_nonunique.specs.Presentations.{IsLexGreatest}
use Rattle.sg_nonunique.proofs.OrderLemmas.{lex-irreflexive, lex-then}
use Rattle.sg_nonunique.proofs.PlaceLemmas.{length-raise, raise-same, raise-lower}
use Rattle.sg_laws_families.specs.PlaceGraph.{IsFirstPlace}
use Rattle.sg_laws_families.proofs.ClassLemmas.{class-step, class-then, class-end}

-- the first vector has its first positive place at i, the second has none up to i: so it is below
pub lex-by_first : (i : ℕ) (x y : List ℕ) → length x ≡ length y → ((k : ℕ) → k < i → get_or x k 0 ≡ 0) → 0 < get_or x i 0 → ((k : ℕ) → k ≤ i → get_or y k 0 ≡ 0) → IsLexBelow y x
lex-by_first i [] y e before p none = absurd (omega arith)
lex-by_first i (a ∷ x) [] e before p none = absurd (omega arith)
lex-by_first zero (a ∷ x) (b ∷ y) e before p none = inl (omega (arith, p, none 0 (omega arith)))
lex-by_first (suc i) (a ∷ x) (b ∷ y) e before p none =
    let a_is : a ≡ 0 = before 0 (omega arith) in
    let b_is : b ≡ 0 = none 0 (omega arith) in
    inr (b_is ∙ sym a_is, lex-by_first i x y (omega arith) (λ k l. before (suc k) (omega arith)) p (λ k l. none (suc k) (omega arith)))

-- what is above when both are raised at a place was above before
lex-unraise : (x y : List ℕ) (i : ℕ) → IsLexBelow (raise x i) (raise y i) → IsLexBelow x y
lex-unraise [] y i h = absurd h
lex-unraise (a ∷ x) [] i h = absurd (no_end (raise (a ∷ x) i) h)
  where
    no_end : (x : List ℕ) → IsLexBelow x [] → ⊥
    no_end [] h = h
    no_end (a ∷ x) h = h
lex-unraise (a ∷ x) (b ∷ y) zero (inl h) = inl (omega arith)
lex-unraise (a ∷ x) (b ∷ y) zero (inr h) = inr (let e : a ≡ b = omega (arith, h.0) in e, h.1)
lex-unraise (a ∷ x) (b ∷ y) (suc i) (inl h) = inl h
lex-unraise (a ∷ x) (b ∷ y) (suc i) (inr h) = inr (h.0, lex-unraise x y i h.1)

module _ (V : List ℕ → Type 0) (k : ℕ) (places : (x : List ℕ) → V x → length x ≡ k) where
  -- the greatest vector of a class is positive at its first place
  pub first_place-positive : (x y : List ℕ) (i : ℕ) → IsFirstPlace V x i → IsLexGreatest (λ z. IsSameClass V x z) y → 0 < get_or y i 0
  first_place-positive x y i first g = elim (cases_lt 0 (get_or y i 0)) [
    | inl some ↦ some
    | inr none ↦
        let z = first.reached in
        let len : length z.0 ≡ length y = places z.0 (class-end V x z.0 z.1) ∙ sym (places y (class-end V x y g.member)) in
        absurd (g.greatest z.0 z.1 (lex-by_first i z.0 y len (first.before z.0 z.1) z.2 (λ j l. elim (cases_eq j i) [
          | inl e ↦ let h : get_or y i 0 ≡ 0 = omega arith in subst (λ m. get_or y m 0 ≡ 0) (sym e) h
          | inr other ↦ first.before y g.member j (omega arith)
        ])))
  ]

  -- of two classes the one with the lesser first place has the greater vector
  pub greatest-by_first : (x y a b : List ℕ) (i j : ℕ) → IsFirstPlace V x i → IsFirstPlace V y j → i < j →
      IsLexGreatest (λ z. IsSameClass V x z) a → IsLexGreatest (λ z. IsSameClass V y z) b → IsLexBelow b a
  greatest-by_first x y a b i j f g less p q =
      lex-by_first i a b (places a (class-end V x a p.member) ∙ sym (places b (class-end V y b q.member))) (f.before a p.member) (first_place-positive x a i f p)
      (λ m l. g.before b q.member m (omega arith))

  -- W are the vectors of V with place i positive, lowered there, and w is the greatest of these
  pub greatest-raised : (W : List ℕ → Type 0) (i : ℕ) (x w : List ℕ) → i < k → ((y : List ℕ) → V y → 0 < get_or y i 0 → W (lower y i)) → ((z : List ℕ) → W z → V (raise z i)) →
      IsFirstPlace V x i → IsLexGreatest W w → IsLexGreatest (λ z. IsSameClass V x z) (raise w i)
  greatest-raised W i x w inside_k down up first g = record { member = member; greatest = greatest }
    where
      in_v : V (raise w i)
      in_v = up w g.member

      positive : 0 < get_or (raise w i) i 0
      positive = omega (arith, raise-same w i (omega (arith, inside_k, places (raise w i) in_v, length-raise w i)))

      member : IsSameClass V x (raise w i)
      member =
          let z = first.reached in
          class-then V x z.0 (raise w i) z.1 (class-step V z.0 (raise w i) (class-end V x z.0 z.1) in_v (i, z.2, positive))

      -- lowered at i, a vector of W is not above w
      no_less : (z : List ℕ) → 0 < get_or z i 0 → W (lower z i) → IsLexBelow (raise w i) z → ⊥
      no_less z some low above =
          g.greatest (lower z i) low (lex-unraise w (lower z i) i (subst (IsLexBelow (raise w i)) (sym (raise-lower z i some)) above))

      greatest : (z : List ℕ) → IsSameClass V x z → IsLexBelow (raise w i) z → ⊥
      greatest z j above = elim (cases_lt 0 (get_or z i 0)) [
        | inl some ↦ no_less z some (down z (class-end V x z j) some) above
        | inr none ↦
            let len : length (raise w i) ≡ length z = places (raise w i) in_v ∙ sym (places z (class-end V x z j)) in
            let under = lex-by_first i (raise w i) z len (first.before (raise w i) member) positive (λ m l. elim (cases_eq m i) [
              | inl e ↦ let h : get_or z i 0 ≡ 0 = omega arith in subst (λ t. get_or z t 0 ≡ 0) (sym e) h
              | inr other ↦ first.before z j m (omega arith)
            ]) in
            lex-irreflexive z (lex-then z (raise w i) z under above)
      ]
