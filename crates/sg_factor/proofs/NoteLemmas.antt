-- The lesser of two distances, place by place.
use Rattle.std.proofs.Common.{◌≡◌, ◌≢◌, ℕ, ◌+◌, ◌<◌, ◌≤◌, List, [], length, get_or, set, min, refl, sym, ap, ◌∙◌, inl, inr, arith}
use Rattle.std.specs.Prelude.{◌⊎◌, slice_index, slice_index_or}
use Rattle.std.proofs.lemmas.Bool.{cases_eq}
use Rattle.std.proofs.lemmas.List.{length-set, get_or-set_same, get_or-set_other, get_or_default}
use Rattle.sg_defs.specs.Vectors.{distance}

-- a vector that was read
pub read-row : (rows : List (List ℕ)) (i : ℕ) (x v : List ℕ) → i < length rows → v ≡ x → x ≡ get_or rows i x → v ≡ slice_index_or rows i []
read-row rows i x v l e f = e ∙ f ∙ get_or_default rows i x [] l

-- the places before one are noted
pub record AreNotedUpTo (rows : List (List ℕ)) (R from : ℕ) (old near : List ℕ) (place : ℕ) : Type 0 where
  pub long : length near ≡ length old
  pub kept : (j : ℕ) → j < place → j < length near → R ≤ slice_index old j → slice_index near j ≡ slice_index old j
  pub noted : (j : ℕ) → j < place → j < length near → slice_index old j < R → slice_index near j ≡ min (slice_index old j) (distance (slice_index_or rows from []) (slice_index_or rows j []))
  pub waiting : (j : ℕ) → place ≤ j → slice_index near j ≡ slice_index old j

pub noted-first : (rows : List (List ℕ)) (R from : ℕ) (old : List ℕ) → AreNotedUpTo rows R from old old 0
noted-first rows R from old = record { long = refl; kept = λ j l. absurd (omega arith); noted = λ j l. absurd (omega arith); waiting = λ j l. refl }

-- one place more
pub noted-next : (rows : List (List ℕ)) (R from : ℕ) (old near new : List ℕ) (place d : ℕ) → place < length near → d ≡ distance (slice_index_or rows from []) (slice_index_or rows place []) →
    ((slice_index near place < R) × (new ≡ set near place (min (slice_index near place) d))) ⊎ ((R ≤ slice_index near place) × (new ≡ near)) →
    AreNotedUpTo rows R from old near place → AreNotedUpTo rows R from old new (place + 1)
noted-next rows R from old near new place d inside is (inl s) h = record {
  long = ap length s.1 ∙ length-set near place (min (slice_index near place) d) ∙ h.long;
  kept = λ j l m reached. elim (cases_eq j place) [
    | inl same ↦ absurd (omega (arith, s.0, h.waiting place (omega arith), ap (λ k. slice_index old k) same))
    | inr other ↦ at j other ∙ h.kept j (omega arith) (omega (arith, m, long)) reached
  ];
  noted = λ j l m rest. elim (cases_eq j place) [
    | inl same ↦
        let here : slice_index new place ≡ min (slice_index near place) d = ap (λ k. slice_index k place) s.1 ∙ get_or-set_same near place (min (slice_index near place) d) 0 inside in
        ap (λ k. slice_index new k) same ∙ here ∙ ap (λ x. min x d) (h.waiting place (omega arith)) ∙ ap (λ x. min (slice_index old place) x) is
        ∙ ap (λ k. min (slice_index old k) (distance (slice_index_or rows from []) (slice_index_or rows k []))) (sym same)
    | inr other ↦ at j other ∙ h.noted j (omega arith) (omega (arith, m, long)) rest
  ];
  waiting = λ j l. at j (λ e. omega arith) ∙ h.waiting j (omega arith);
}
  where
    long : length new ≡ length near
    long = ap length s.1 ∙ length-set near place (min (slice_index near place) d)

    at : (j : ℕ) → j ≢ place → slice_index new j ≡ slice_index near j
    at j other = ap (λ k. slice_index k j) s.1 ∙ get_or-set_other near place j (min (slice_index near place) d) 0 other
noted-next rows R from old near new place d inside is (inr s) h = record {
  long = ap length s.1 ∙ h.long;
  kept = λ j l m reached. elim (cases_eq j place) [
    | inl same ↦ at j ∙ h.waiting j (omega arith)
    | inr other ↦ at j ∙ h.kept j (omega arith) (omega (arith, m, ap length s.1)) reached
  ];
  noted = λ j l m rest. elim (cases_eq j place) [
    | inl same ↦ absurd (omega (arith, s.0, h.waiting place (omega arith), ap (λ k. slice_index old k) same))
    | inr other ↦ at j ∙ h.noted j (omega arith) (omega (arith, m, ap length s.1)) rest
  ];
  waiting = λ j l. at j ∙ h.waiting j (omega arith);
}
  where
    at : (j : ℕ) → slice_index new j ≡ slice_index near j
    at j = ap (λ k. slice_index k j) s.1
