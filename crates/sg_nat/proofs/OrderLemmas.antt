-- The lexicographic order, and the order of slices.
use Rattle.std.proofs.Common.{◌≡◌, ℕ, ◌<◌, List, [], ◌∷◌, length, Ordering, refl, sym, ap, subst, inl, inr, arith}
use Rattle.std.specs.declared.cmp.Ordering.TheVariants.{Less, Equal, Greater}
use Rattle.std.specs.Ordering.{MatchOrdering, nat_cmp, ordering_then}
use Rattle.std.specs.Cmp.Lexicographic.{slice_cmp}
use Rattle.std.proofs.lemmas.Cmp.{ranked}
use Rattle.sg_defs.specs.Vectors.{IsLexBelow}

-- by the first places, and the others where these are equal
ranked_from : (a b : ℕ) (x y : List ℕ) (first rest : Ordering) → MatchOrdering first (a < b) (a ≡ b) (b < a) →
    MatchOrdering rest (IsLexBelow x y) (x ≡ y) (IsLexBelow y x) →
    MatchOrdering (ordering_then first rest) (IsLexBelow (a ∷ x) (b ∷ y)) (a ∷ x ≡ b ∷ y) (IsLexBelow (b ∷ y) (a ∷ x))
ranked_from a b x y Less rest h k = inl h
ranked_from a b x y Equal Less h k = inr (h, k)
ranked_from a b x y Equal Equal h k = subst (λ c. a ∷ x ≡ c ∷ y) h (ap (λ l. a ∷ l) k)
ranked_from a b x y Equal Greater h k = inr (sym h, k)
ranked_from a b x y Greater rest h k = inl h

-- slices of one length in their order are vectors in the lexicographic order
pub lex_ranked : (x y : List ℕ) → length x ≡ length y → MatchOrdering (slice_cmp nat_cmp x y) (IsLexBelow x y) (x ≡ y) (IsLexBelow y x)
lex_ranked [] [] h = refl
lex_ranked [] (b ∷ y) h = absurd (omega arith)
lex_ranked (a ∷ x) [] h = absurd (omega arith)
lex_ranked (a ∷ x) (b ∷ y) h =
    let p : length x ≡ length y = omega arith in
    ranked_from a b x y (nat_cmp a b) (slice_cmp nat_cmp x y) (ranked a b (nat_cmp a b) refl) (lex_ranked x y p)
