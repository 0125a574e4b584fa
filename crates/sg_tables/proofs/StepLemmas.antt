-- The generators from which a step leads to none.
use Rattle.std.proofs.Common.{◌≡◌, ℕ, ◌+◌, ◌<◌, ◌≤◌, List, [], ◌∷◌, ◌++◌, length, get_or, sym, subst, inl, inr, arith}
use Rattle.std.specs.Prelude.{Contains, ◌⊎◌}
use Rattle.std.specs.List.Sorted.{IsStrictlyIncreasing}
use Rattle.std.proofs.lemmas.Bool.{cases_lt}
use Rattle.std.proofs.lemmas.List.Elements.{Contains-append_left, Contains-push}
use Rattle.std.proofs.lemmas.List.Kept.{AllPairs-from_increasing}
use Rattle.sg_classes.proofs.GeneratorLemmas.{contains-place, place-contains, push_cases}
use Rattle.sg_classes.proofs.ListingLemmas.{increasing-push}
use Rattle.sg_tables.specs.Found.{AreTops}

-- the same of the first n generators
pub record AreTopsUpTo (G : List ℕ) (step : ℕ) (tops : List ℕ) (n : ℕ) : Type 0 where
  pub ascending : IsStrictlyIncreasing tops
  pub part : (k : ℕ) → k < length tops → (j : ℕ) × (j < n) × (j < length G) × (get_or tops k 0 ≡ get_or G j 0)
  pub others : (j : ℕ) → j < n → Contains tops (get_or G j 0) ⊎ Contains G (get_or G j 0 + step)

pub tops-none : (G : List ℕ) (step : ℕ) → AreTopsUpTo G step [] 0
tops-none G step = record {
  ascending = λ k l. absurd (omega arith);
  part = λ k l. absurd (omega arith);
  others = λ j l. absurd (omega arith);
}

-- one generator more, from which the step leads to another
pub tops-skip : (G : List ℕ) (step : ℕ) (tops : List ℕ) (n : ℕ) → AreTopsUpTo G step tops n → Contains G (get_or G n 0 + step) → AreTopsUpTo G step tops (n + 1)
tops-skip G step tops n h up = record {
  ascending = h.ascending;
  part = λ k l. let p = h.part k l in (p.0, omega (arith, p.1), p.2, p.3);
  others = λ j l. elim (cases_lt j n) [
    | inl early ↦ h.others j early
    | inr last ↦ let e : n ≡ j = omega arith in inr (subst (λ i. Contains G (get_or G i 0 + step)) e up)
  ];
}

-- one more, which is a top
pub tops-push : (G : List ℕ) (step : ℕ) (tops : List ℕ) (n : ℕ) → IsStrictlyIncreasing G → n < length G → AreTopsUpTo G step tops n → AreTopsUpTo G step (tops ++ get_or G n 0 ∷ []) (n + 1)
tops-push G step tops n up inside h = record {
  ascending = increasing-push tops g h.ascending (λ x c. let p = contains-place tops x c in let q = h.part p.0 p.1 in omega (arith, p.2, q.3, AllPairs-from_increasing G up q.0 n 0 q.1 inside));
  part = λ k l. elim (push_cases tops g k l) [
    | inl old ↦ let p = h.part k old.0 in (p.0, omega (arith, p.1), p.2, omega (arith, old.1, p.3))
    | inr new ↦ (n, omega arith, inside, new.1)
  ];
  others = λ j l. elim (cases_lt j n) [
    | inl early ↦ elim (h.others j early) [ inl listed ↦ inl (Contains-append_left tops (g ∷ []) (get_or G j 0) listed) | inr other ↦ inr other ]
    | inr last ↦ let e : n ≡ j = omega arith in inl (subst (λ i. Contains (tops ++ g ∷ []) (get_or G i 0)) e (Contains-push tops g))
  ];
}
  where
    g : ℕ
    g = get_or G n 0

-- all generators
pub tops-all : (G : List ℕ) (step : ℕ) (tops : List ℕ) (n : ℕ) → 0 < step → length G ≤ n → AreTopsUpTo G step tops n → AreTops G step tops
tops-all G step tops n some whole h = record {
  some = some;
  ascending = h.ascending;
  part = λ k l. let p = h.part k l in subst (Contains G) (sym p.3) (place-contains G p.0 p.2);
  others = λ j l. h.others j (omega (arith, whole, l));
}
