-- What stands first in some bytes, by what is held of them.
use Rattle.std.proofs.Common.{◌≡◌, ◌∙◌, ℕ, zero, suc, ◌+◌, ◌-◌, ◌≤◌, true, false, List, ◌∷◌, ◌++◌, length, take, drop, refl, sym, ap, subst, arith, length-append, IsTrue}
use Rattle.std.specs.List.{list_all}
use Rattle.std.proofs.Math.Seq.{drop-append-add, take-append-add}
use Rattle.sg_cut.specs.Bytes.{is_inline}
use Rattle.sg_cut.specs.Lines.{count_of_line_feeds}
use Rattle.sg_cut.specs.Cut.{Begins, Ends, StandsAt, IsTooLong, IsUnfinished, IsAtEnd, IsWaiting}
use Rattle.sg_cut.proofs.Beginnings.{BeginsFrom, from_Begins, to_Begins}
use Rattle.sg_cut.proofs.Outcomes.{waits_behind_ignored, waits_inside}
use Rattle.sg_window.specs.Comments.{AreSkipped, Shortens}
use Rattle.sg_window.specs.Comments.Shortens.{whole, comment}
use Rattle.sg_window.proofs.Skipping.{begins_behind, begins_in_comment}
use Rattle.sg_window.proofs.Passed.{feeds-append, feeds-line}

-- Of the bytes the rest is held, so that places move by `k`, from the place `m` on, before which nothing begins. There
-- are `feeds` line feeds in what is not held.
pub record Moves (bytes rest : List ℕ) (k m feeds : ℕ) : Type 0 where
  pub lengths : length bytes ≡ k + length rest
  pub least : (b : ℕ) → BeginsFrom rest b → m ≤ b
  pub begins : (b : ℕ) → BeginsFrom rest b → BeginsFrom bytes (k + b)
  pub behind : (n : ℕ) → m ≤ n → drop (k + n) bytes ≡ drop n rest
  pub counted : (n : ℕ) → m ≤ n → count_of_line_feeds (take (k + n) bytes) ≡ feeds + count_of_line_feeds (take n rest)

-- blanks and comments in front are not held
moves_whole : (front rest : List ℕ) → AreSkipped front → Moves (front ++ rest) rest (length front) 0 (count_of_line_feeds front)
moves_whole front rest skips = record {
  lengths = length-append front rest;
  least = λ b f. omega arith;
  begins = λ b f. begins_behind skips f;
  behind = λ n small. drop-append-add front rest n;
  counted = λ n small. ap count_of_line_feeds (take-append-add front rest n) ∙ feeds-append front (take n rest);
}

module _ (front body rest : List ℕ) (line : IsTrue (list_all is_inline body)) where
  -- behind the sign of the comment
  behind_sign : (n : ℕ) → 1 ≤ n → drop (length front + length body + n) (front ++ (35 ∷ body ++ rest)) ≡ drop n (35 ∷ rest)
  behind_sign zero some = absurd (omega arith)
  behind_sign (suc n) some =
      let place : length front + length body + suc n ≡ length front + suc (length body + n) = omega arith in
      ap (λ i. drop i (front ++ (35 ∷ body ++ rest))) place ∙ drop-append-add front (35 ∷ body ++ rest) (suc (length body + n)) ∙ drop-append-add body rest n

  -- the comment has no line feed
  counted_sign : (n : ℕ) → 1 ≤ n → count_of_line_feeds (take (length front + length body + n) (front ++ (35 ∷ body ++ rest))) ≡ count_of_line_feeds front + count_of_line_feeds (take n (35 ∷ rest))
  counted_sign zero some = absurd (omega arith)
  counted_sign (suc n) some =
      let place : length front + length body + suc n ≡ length front + suc (length body + n) = omega arith in
      let taken : take (length front + length body + suc n) (front ++ (35 ∷ body ++ rest)) ≡ front ++ (35 ∷ body ++ take n rest) =
      ap (λ i. take i (front ++ (35 ∷ body ++ rest))) place ∙ take-append-add front (35 ∷ body ++ rest) (suc (length body + n)) ∙ ap (λ (xs : List ℕ). front ++ (35 ∷ xs)) (take-append-add body rest n) in
      let none : count_of_line_feeds body ≡ 0 = feeds-line body line in
      omega (arith, ap count_of_line_feeds taken, feeds-append front (35 ∷ body ++ take n rest), feeds-append body (take n rest))

-- and of a comment behind them only the sign is
moves_comment : (front body rest : List ℕ) → AreSkipped front → IsTrue (list_all is_inline body) → Moves (front ++ (35 ∷ body ++ rest)) (35 ∷ rest) (length front + length body) 1 (count_of_line_feeds front)
moves_comment front body rest skips line = record {
  lengths = let signed : List ℕ = 35 ∷ body ++ rest in omega (arith, length-append front signed, length-append body rest);
  least = λ b f. (begins_in_comment body line f).0;
  begins = λ b f. let place : length front + (length body + b) ≡ length front + length body + b = omega arith in
      subst (BeginsFrom (front ++ (35 ∷ body ++ rest))) place (begins_behind skips (begins_in_comment body line f).1);
  behind = behind_sign front body rest line;
  counted = counted_sign front body rest line;
}

-- how places move where something is held
pub moves : {front tail rest : List ℕ} → AreSkipped front → Shortens tail rest → (k : ℕ) × (m : ℕ) × Moves (front ++ tail) rest k m (count_of_line_feeds front)
moves {front} {tail} {rest} skips whole = (length front, 0, moves_whole front tail skips)
moves {front} {tail} {rest} skips (comment {rest = after} body line) = (length front + length body, 1, moves_comment front body after skips line)

-- ---- what stands first

module _ (bytes rest : List ℕ) (k m feeds : ℕ) (moves : Moves bytes rest k m feeds) where
  -- nothing begins where places do not move
  pub least_at : {b : ℕ} → Begins rest b → m ≤ b
  least_at {b} f = moves.least b (from_Begins f)

  pub begins_at : {b : ℕ} → Begins rest b → Begins bytes (k + b)
  begins_at {b} f = to_Begins (moves.begins b (from_Begins f))

  -- what is behind it
  pub behind_at : {b : ℕ} → Begins rest b → drop (k + b) bytes ≡ drop b rest
  behind_at {b} f = moves.behind b (least_at f)

  pub statement_at : {b e : ℕ} → StandsAt rest b e → StandsAt bytes (k + b) (k + e)
  statement_at {b} {e} s =
      let size : e - b ≡ k + e - (k + b) = omega arith in
      record {
        begins = begins_at s.begins;
        some = omega (arith, s.some);
        within = omega (arith, s.within, moves.lengths);
        ends = subst (λ n. Ends (drop (k + b) bytes) n) size (subst (λ xs. Ends xs (e - b)) (sym (behind_at s.begins)) s.ends);
        short = omega (arith, s.short);
      }

  pub too_long_at : {b : ℕ} → IsTooLong rest b → IsTooLong bytes (k + b)
  too_long_at {b} t = record {
    begins = begins_at t.begins;
    filled = omega (arith, t.filled, moves.lengths);
    no_end = λ size small e. t.no_end size small (subst (λ xs. Ends xs size) (behind_at t.begins) e);
  }

  -- no end behind the first byte
  no_end_at : {b : ℕ} → IsUnfinished rest true b → (size : ℕ) → ¬ Ends (drop (k + b) bytes) size
  no_end_at {b} u size e = u.no_end size (subst (λ xs. Ends xs size) (behind_at u.begins) e)

  pub unfinished_at : {b : ℕ} → IsUnfinished rest true b → IsUnfinished bytes true (k + b)
  unfinished_at {b} u = record {
    complete = refl;
    begins = begins_at u.begins;
    some = omega (arith, u.some, moves.lengths);
    few = omega (arith, u.few, moves.lengths);
    no_end = no_end_at u;
  }

  -- a statement that has no end yet
  pub waits_at : {b : ℕ} → IsUnfinished rest true b → IsWaiting bytes false
  waits_at {b} u = waits_inside bytes false (k + b) refl (begins_at u.begins) (omega (arith, u.few, moves.lengths)) (no_end_at u)

  -- blanks and comments alone
  pub ignored_at : IsAtEnd rest true → Begins bytes (length bytes)
  ignored_at e = subst (Begins bytes) (sym moves.lengths) (begins_at e.nothing_left)

  pub waits_behind : IsAtEnd rest true → IsWaiting bytes false
  waits_behind e = waits_behind_ignored bytes false refl (ignored_at e)

  pub at_end : IsAtEnd rest true → IsAtEnd bytes true
  at_end e = record { complete = refl; nothing_left = ignored_at e }
