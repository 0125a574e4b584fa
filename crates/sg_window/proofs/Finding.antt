-- What a window finds, by what stands first in what it holds.
use Rattle.std.proofs.Common.{◌≡◌, ◌∙◌, ◌⊎◌, inl, inr, ℕ, ◌+◌, ◌-◌, ◌<◌, ◌≤◌, Bool, true, false, cond, List, [], ◌∷◌, length, take, drop, refl, sym, ap, subst, arith, length-drop}
use Rattle.std.specs.Prelude.{slice_range}
use Rattle.std.proofs.Math.Seq.{drop-length}
use Rattle.sg_cut.specs.Lines.{count_of_line_feeds}
use Rattle.sg_cut.specs.Cut.{Begins, Cut, StandsAt, IsTooLong, IsUnfinished, IsAtEnd}
use Rattle.sg_cut.specs.declared.outcome.Piece.{Piece}
use Rattle.sg_cut.specs.declared.outcome.Piece.TheVariants as piece
use Rattle.sg_cut.proofs.Outcomes.{outcome_found, same_outcome}
use Rattle.sg_window.specs.Comments.{ends_in_comment}
use Rattle.sg_window.specs.Window.{State, Holds, skipped, with_text, passed}
use Rattle.sg_window.specs.Finds.{BeginsAt, Finds}
use Rattle.sg_window.specs.declared.answers.Cut.TheVariants as cut
use Rattle.sg_window.proofs.Moving.{Moves, least_at, behind_at, statement_at, too_long_at, unfinished_at, waits_at, waits_behind, at_end}
use Rattle.sg_window.proofs.Holding.{moved, holds_skipped, holds_behind, holds_passed}
use Rattle.sg_cut.specs.declared.limits.TheConstants.{STATEMENT_LIMIT}

-- no bytes wait for more where they are all
pub ends_so : (rest : List ℕ) (p : Piece) → Cut rest true p → (p ≡ piece.End) ⊎ (p ≡ piece.Waiting) → IsAtEnd rest true
ends_so rest p found (inl e) = subst (Cut rest true) e found
ends_so rest p found (inr e) =
    let other = outcome_found rest true in
    absurd (other.2 refl (same_outcome rest true other.0 piece.Waiting other.1 (subst (Cut rest true) e found)))

-- at most the sign of a comment
abbrev sign_if : Bool → List ℕ
sign_if t = cond t (35 ∷ []) []

few_held : (t : Bool) → length (sign_if t) < STATEMENT_LIMIT
few_held true = omega arith
few_held false = omega arith

module _ (held : List ℕ) (feeds : ℕ) (w : State) (h : Holds held feeds w) (near : length w.rest ≤ STATEMENT_LIMIT) where
  k : ℕ
  k = (moved h).0

  m : ℕ
  m = (moved h).1

  gone : ℕ
  gone = count_of_line_feeds h.front

  places : Moves held w.rest k m gone
  unfolding k m gone
  places = (moved h).2

  -- the line of a first byte, and how much was taken behind it
  begins_in : (b line : ℕ) → Begins w.rest b → line ≡ 1 + (skipped b w).feeds → BeginsAt held feeds (k + b) line
  unfolding gone
  begins_in b line begins is = record {
    line_is = omega (arith, is, h.counted, places.counted b (least_at held w.rest k m gone places begins));
    near = omega (arith, near, places.lengths);
  }

  pub finds_statement : (b e line : ℕ) (new : State) → StandsAt w.rest b e → line ≡ 1 + (skipped b w).feeds → new ≡ with_text (e - b) (skipped b w) → Finds (cut.Statement line) held feeds w new
  unfolding k
  finds_statement b e line new s line_is is =
      let size : e - b ≡ k + e - (k + b) = omega arith in
      let text : take (e - b) (drop b w.rest) ≡ slice_range held (k + b) (k + e) = ap (λ xs. take (e - b) xs) (sym (behind_at held w.rest k m gone places s.begins)) ∙ ap (λ n. take n (drop (k + b) held)) size in
      subst (λ v. Finds (cut.Statement line) held feeds w v) (sym is) (record {
        begin = k + b;
        end = k + e;
        stands = statement_at held w.rest k m gone places s;
        begins = begins_in b line s.begins line_is;
        text_is = text;
        behind = holds_behind held feeds w b e h s.begins (omega (arith, s.some));
      })

  pub finds_too_long : (b line : ℕ) (new : State) → IsTooLong w.rest b → line ≡ 1 + (skipped b w).feeds → new ≡ skipped b w → Finds (cut.TooLong line) held feeds w new
  finds_too_long b line new t line_is is =
      subst (λ v. Finds (cut.TooLong line) held feeds w v) (sym is) (k + b, too_long_at held w.rest k m gone places t, begins_in b line t.begins line_is, refl, sym (behind_at held w.rest k m gone places t.begins))

  pub finds_unfinished : (b line : ℕ) (new : State) → w.ended ≡ true → IsUnfinished w.rest true b → line ≡ 1 + (skipped b w).feeds → new ≡ skipped b w → Finds (cut.Unfinished line) held feeds w new
  finds_unfinished b line new ended u line_is is =
      let found = subst (λ whole. Cut held whole (piece.Unfinished (k + b))) (sym ended) (unfinished_at held w.rest k m gone places u) in
      subst (λ v. Finds (cut.Unfinished line) held feeds w v) (sym is) (k + b, found, begins_in b line u.begins line_is, refl, sym (behind_at held w.rest k m gone places u.begins))

  pub wants_more_inside : (b : ℕ) (new : State) → w.ended ≡ false → IsUnfinished w.rest true b → new ≡ skipped b w → Finds cut.More held feeds w new
  wants_more_inside b new open_ u is =
      subst (λ v. Finds cut.More held feeds w v) (sym is) (record {
        open_ = open_;
        waits = waits_at held w.rest k m gone places u;
        no_text = refl;
        same = holds_skipped held feeds w b h u.begins u.some;
        room = omega (arith, u.few, length-drop b w.rest, u.some);
      })

  pub wants_more_behind : (new : State) → w.ended ≡ false → IsAtEnd w.rest true → new ≡ passed w → Finds cut.More held feeds w new
  wants_more_behind new open_ e is =
      subst (λ v. Finds cut.More held feeds w v) (sym is) (record {
        open_ = open_;
        waits = waits_behind held w.rest k m gone places e;
        no_text = refl;
        same = holds_passed held feeds w h e.nothing_left;
        room = few_held (ends_in_comment w.rest);
      })

  pub finds_end : (new : State) → w.ended ≡ true → IsAtEnd w.rest true → new ≡ skipped (length w.rest) w → Finds cut.End held feeds w new
  finds_end new ended e is =
      let found = subst (λ whole. Cut held whole piece.End) (sym ended) (at_end held w.rest k m gone places e) in
      let nothing : drop (length w.rest) w.rest ≡ [] = drop-length w.rest in
      subst (λ v. Finds cut.End held feeds w v) (sym is) (found, refl, nothing)
