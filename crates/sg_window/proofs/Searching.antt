-- How far a statement was searched for its end.
use Rattle.std.proofs.Common.{◌≡◌, ◌∙◌, inl, inr, ℕ, ◌+◌, ◌<◌, ◌≤◌, true, false, List, [], ◌∷◌, ◌++◌, length, take, drop, refl, ap, subst, arith, length-append}
use Rattle.std.specs.Prelude.{◌==◌}
use Rattle.std.specs.List.{list_any, concat}
use Rattle.std.proofs.lemmas.Bool.{both_ways, or_right, cases_lt}
use Rattle.std.proofs.lemmas.List.{drop-append-le}
use Rattle.std.proofs.lemmas.List.Folds.{list_any-append}
use Rattle.sg_cut.specs.declared.limits.TheConstants.{STATEMENT_LIMIT}
use Rattle.sg_cut.specs.Cut.{Ends, IsUnfinished}
use Rattle.sg_cut.proofs.Beginnings.{begins_at_once, to_Begins, starts_ignored-append}
use Rattle.sg_cut.proofs.Endings.{from_Ends}
use Rattle.sg_cut.proofs.Following.{Ends-front}
use Rattle.sg_cut.specs.Lines.{count_of_line_feeds}
use Rattle.sg_window.specs.Searched.{IsSearched, StaysOpen}
use Rattle.sg_window.specs.Window.{State, skipped}

-- nothing ends with no bytes
no_end_at_once : (rest : List ℕ) (size : ℕ) → size ≤ 0 → ¬ Ends rest size
no_end_at_once rest size small e = omega (arith, (from_Ends e).size_is, small)

-- nothing was searched
pub searched-none : (rest : List ℕ) → IsSearched rest 0
searched-none rest = record { within = omega arith; begins = λ some. absurd (omega (arith, some)); no_end = no_end_at_once rest }

-- what was searched is so in front of more
pub searched-append : (rest got : List ℕ) (n : ℕ) → IsSearched rest n → IsSearched (rest ++ got) n
searched-append rest got n s = record {
  within = omega (arith, s.within, length-append rest got);
  begins = λ some. starts_ignored-append rest got (omega (arith, some, s.within)) ∙ s.begins some;
  no_end = λ size small e. s.no_end size small (Ends-front rest got size (omega (arith, small, s.within)) e);
}

-- all was searched
pub searched-all : (rest : List ℕ) (b : ℕ) → IsUnfinished rest true b → IsSearched (drop b rest) (length (drop b rest))
searched-all rest b u = record { within = omega arith; begins = λ some. u.begins.stops; no_end = λ size small. u.no_end size }

-- a statement ends with `;`
ends_in_more : (rest : List ℕ) (n size : ℕ) → n < size → Ends rest size → list_any (λ b. b == 59) (drop n rest) ≡ true
ends_in_more rest n size far e =
    let f = from_Ends e in
    let inside : n ≤ length (concat f.inside) = omega (arith, far, f.size_is) in
    let parted : drop n rest ≡ drop n (concat f.inside) ++ 59 ∷ f.rest = ap (drop n) f.spelled ∙ drop-append-le n (concat f.inside) (59 ∷ f.rest) inside in
    ap (list_any (λ b. b == 59)) parted ∙ list_any-append (λ b. b == 59) (drop n (concat f.inside)) (59 ∷ f.rest) ∙ or_right (list_any (λ b. b == 59) (drop n (concat f.inside))) true refl

-- what was searched goes on without `;`
pub still_open : (rest : List ℕ) (n : ℕ) → IsSearched rest n → 0 < n → length rest < STATEMENT_LIMIT → list_any (λ b. b == 59) (drop n rest) ≡ false → IsUnfinished rest true 0
still_open rest n s some few none = record {
  complete = refl;
  begins = to_Begins (begins_at_once rest (s.begins some));
  some = omega (arith, some, s.within);
  few = omega (arith, few);
  no_end = λ size. go size;
}
  where
    go : (size : ℕ) → ¬ Ends rest size
    go size e = elim (cases_lt n size) [ inl far ↦ both_ways _ none (ends_in_more rest n size far e) | inr small ↦ s.no_end size small e ]

-- so it is for a window that holds it
pub stays_open : (w : State) (rest : List ℕ) (n : ℕ) → rest ≡ w.rest → w.ended ≡ false → IsSearched rest n → 0 < n → length rest < STATEMENT_LIMIT → list_any (λ b. b == 59) (drop n rest) ≡ false → StaysOpen w
stays_open w rest n same more s some few none =
    record { not_ended = more; open_ = subst (λ xs. IsUnfinished xs true 0) same (still_open rest n s some few none) }

-- letting go the text alone
pub skips_none : (w : State) → record w { text = [] } ≡ skipped 0 w
skips_none w = let same : w.feeds ≡ w.feeds + count_of_line_feeds (take 0 w.rest) = omega arith in cc
