-- For which bytes a window stands after it let some go.
use Rattle.std.proofs.Common.{◌≡◌, ◌∙◌, ℕ, ◌+◌, ◌-◌, ◌<◌, ◌≤◌, true, false, cond, List, [], ◌∷◌, ◌++◌, length, take, drop, refl, sym, ap, subst, arith, append_assoc, append-nil, take-add, length-drop, IsTrue, Bool}
use Rattle.std.specs.List.{concat, list_all}
use Rattle.std.proofs.lemmas.List.{take_all, drop-drop, take-append-drop}
use Rattle.std.proofs.lemmas.Bool.{both_ways, eqb-true, not-false}
use Rattle.sg_cut.specs.Bytes.{is_inline}
use Rattle.sg_cut.specs.Lexemes.{EndsRun}
use Rattle.sg_cut.specs.Lines.{count_of_line_feeds}
use Rattle.sg_cut.specs.Cut.{Begins, starts_ignored}
use Rattle.sg_window.specs.Comments.{AreSkipped, Shortens, ends_in_comment}
use Rattle.sg_window.specs.Comments.AreSkipped.{none}
use Rattle.sg_window.specs.Comments.Shortens.{whole, comment}
use Rattle.sg_window.specs.Window.{State, Holds, skipped, with_text, passed}
use Rattle.sg_window.proofs.Passed.{Passed, closed, unclosed, passed_by, closed_ends, unclosed_ends, ends-append, ends-held, feeds-append, feeds-line}
use Rattle.sg_window.proofs.Moving.{Moves, moves, least_at, begins_at}

-- how places move for a window
pub moved : {bytes : List ℕ} {feeds : ℕ} {w : State} → (h : Holds bytes feeds w) → (k : ℕ) × (m : ℕ) × Moves bytes w.rest k m (count_of_line_feeds h.front)
moved {bytes} {feeds} {w} h =
    let s = moves h.skips h.held in
    (s.0, s.1, subst (λ xs. Moves xs w.rest s.0 s.1 (count_of_line_feeds h.front)) (sym h.parted) s.2)

-- at once
pub holds_at_once : (bytes : List ℕ) (feeds : ℕ) (w : State) → w.rest ≡ bytes → w.feeds ≡ feeds → Holds bytes feeds w
holds_at_once bytes feeds w rest_is counted = record {
  front = [];
  tail = bytes;
  parted = refl;
  skips = none;
  held = subst (Shortens bytes) (sym rest_is) whole;
  counted = omega (arith, counted);
}

-- what is shortened stays so in front of more
shortens-append : {tail rest : List ℕ} (got : List ℕ) → Shortens tail rest → Shortens (tail ++ got) (rest ++ got)
shortens-append got whole = whole
shortens-append got (comment {rest} body line) = subst (λ (xs : List ℕ). Shortens (35 ∷ xs) (35 ∷ rest ++ got)) (sym (append_assoc body rest got)) (comment body line)

-- and so does what a window stands for
pub holds-append : (bytes got : List ℕ) (feeds taken : ℕ) (w : State) → Holds bytes feeds w → Holds (bytes ++ got) feeds (record w { rest = w.rest ++ got; taken = taken })
holds-append bytes got feeds taken w h = record {
  front = h.front;
  tail = h.tail ++ got;
  parted = ap (λ xs. xs ++ got) h.parted ∙ append_assoc h.front h.tail got;
  skips = h.skips;
  held = shortens-append got h.held;
  counted = h.counted;
}

-- no comment ends before what is neither blank nor comment
none_before : (rest : List ℕ) → 0 < length rest → starts_ignored rest ≡ false → EndsRun is_inline rest → ⊥
none_before [] some stops ends = omega arith
none_before (b ∷ rest) some stops ends =
    let feed : b ≡ 10 = eqb-true b 10 (not-false _ ends) in
    both_ways _ stops (ap (λ x. starts_ignored (x ∷ rest)) feed)

closed_before : (front rest : List ℕ) → 0 < length rest → starts_ignored rest ≡ false → Passed front rest → AreSkipped front
closed_before front rest some stops (closed skips) = skips
closed_before front rest some stops (unclosed before body is skips line ends) = absurd (none_before rest some stops ends)

-- what stands before a first byte is blanks and closed comments
skips_before : {bytes : List ℕ} {begin : ℕ} → Begins bytes begin → begin < length bytes → AreSkipped (take begin bytes)
skips_before {bytes} {begin} b some =
    let s = b.skipped in
    let there : 0 < length (drop begin bytes) = omega (arith, length-drop begin bytes) in
    subst AreSkipped (sym s.spelled) (closed_before (concat s.inside) (drop begin bytes) there b.stops (passed_by s.inside (drop begin bytes) s.lexemes s.ignored))

-- behind blanks and comments
pub holds_skipped : (bytes : List ℕ) (feeds : ℕ) (w : State) (b : ℕ) → Holds bytes feeds w → Begins w.rest b → b < length w.rest → Holds bytes feeds (skipped b w)
holds_skipped bytes feeds w b h begins some =
    let s = moved h in
    let least : s.1 ≤ b = least_at bytes w.rest s.0 s.1 (count_of_line_feeds h.front) s.2 begins in
    record {
      front = take (s.0 + b) bytes;
      tail = drop (s.0 + b) bytes;
      parted = sym (take-append-drop (s.0 + b) bytes);
      skips = skips_before (begins_at bytes w.rest s.0 s.1 (count_of_line_feeds h.front) s.2 begins) (omega (arith, some, s.2.lengths));
      held = subst (Shortens (drop (s.0 + b) bytes)) (s.2.behind b least) whole;
      counted = omega (arith, h.counted, s.2.counted b least);
    }

-- behind a statement
pub holds_behind : (bytes : List ℕ) (feeds : ℕ) (w : State) (b e : ℕ) (h : Holds bytes feeds w) → Begins w.rest b → b ≤ e
    → Holds (drop ((moved h).0 + e) bytes) (feeds + count_of_line_feeds (take ((moved h).0 + e) bytes)) (with_text (e - b) (skipped b w))
holds_behind bytes feeds w b e h begins ordered =
    let s = moved h in
    let least : s.1 ≤ e = omega (arith, least_at bytes w.rest s.0 s.1 (count_of_line_feeds h.front) s.2 begins) in
    let place : b + (e - b) ≡ e = omega arith in
    let rest_is : drop (e - b) (drop b w.rest) ≡ drop (s.0 + e) bytes = drop-drop (e - b) b w.rest ∙ ap (λ n. drop n w.rest) place ∙ sym (s.2.behind e least) in
    let taken : take e w.rest ≡ take b w.rest ++ take (e - b) (drop b w.rest) = ap (λ n. take n w.rest) (sym place) ∙ take-add b (e - b) w.rest in
    holds_at_once (drop (s.0 + e) bytes) (feeds + count_of_line_feeds (take (s.0 + e) bytes)) (with_text (e - b) (skipped b w)) rest_is
    (omega (arith, h.counted, s.2.counted e least, ap count_of_line_feeds taken, feeds-append (take b w.rest) (take (e - b) (drop b w.rest))))

-- whether a comment goes on is seen in what is held
ends_same : {bytes : List ℕ} {feeds : ℕ} {w : State} → Holds bytes feeds w → ends_in_comment bytes ≡ ends_in_comment w.rest
ends_same h = ap ends_in_comment h.parted ∙ ends-append h.tail h.skips ∙ ends-held h.held

module _ (bytes : List ℕ) (feeds : ℕ) (w : State) (h : Holds bytes feeds w) (counted : w.feeds + count_of_line_feeds w.rest ≡ feeds + count_of_line_feeds bytes) where
  -- where all comments are closed nothing is held
  all_closed : AreSkipped bytes → Holds bytes feeds (passed w)
  all_closed skips =
      let none_open : ends_in_comment w.rest ≡ false = sym (ends_same h) ∙ closed_ends skips in
      record {
        front = bytes;
        tail = [];
        parted = sym (append-nil bytes);
        skips = skips;
        held = subst (λ (t : Bool). Shortens [] (cond t (35 ∷ []) [])) (sym none_open) whole;
        counted = counted;
      }

  -- else the sign of the last one is
  one_open : (front body : List ℕ) → bytes ≡ front ++ 35 ∷ body → AreSkipped front → IsTrue (list_all is_inline body) → Holds bytes feeds (passed w)
  one_open front body is skips line =
      let open_ : ends_in_comment w.rest ≡ true = sym (ends_same h) ∙ ap ends_in_comment is ∙ unclosed_ends front body skips line in
      record {
        front = front;
        tail = 35 ∷ body ++ [];
        parted = is ∙ ap (λ (xs : List ℕ). front ++ 35 ∷ xs) (sym (append-nil body));
        skips = skips;
        held = subst (λ (t : Bool). Shortens (35 ∷ body ++ []) (cond t (35 ∷ []) [])) (sym open_) (comment body line);
        counted = omega (arith, counted, ap count_of_line_feeds is, feeds-append front (35 ∷ body), feeds-line body line);
      }

  all_passed : {rest : List ℕ} → Passed bytes rest → Holds bytes feeds (passed w)
  all_passed (closed skips) = all_closed skips
  all_passed (unclosed front body is skips line ends) = one_open front body is skips line

-- where all is blanks and comments
pub holds_passed : (bytes : List ℕ) (feeds : ℕ) (w : State) → Holds bytes feeds w → Begins w.rest (length w.rest) → Holds bytes feeds (passed w)
holds_passed bytes feeds w h begins =
    let s = moved h in
    let least : s.1 ≤ length w.rest = least_at bytes w.rest s.0 s.1 (count_of_line_feeds h.front) s.2 begins in
    let all : Begins bytes (length bytes) = subst (Begins bytes) (sym s.2.lengths) (begins_at bytes w.rest s.0 s.1 (count_of_line_feeds h.front) s.2 begins) in
    let i = all.skipped in
    let is : bytes ≡ concat i.inside = sym (take_all (length bytes) bytes (omega arith)) ∙ i.spelled in
    let taken : take (s.0 + length w.rest) bytes ≡ bytes = take_all (s.0 + length w.rest) bytes (omega (arith, s.2.lengths)) in
    let held : take (length w.rest) w.rest ≡ w.rest = take_all (length w.rest) w.rest (omega arith) in
    let counted : w.feeds + count_of_line_feeds w.rest ≡ feeds + count_of_line_feeds bytes =
    omega (arith, h.counted, s.2.counted (length w.rest) least, ap count_of_line_feeds taken, ap count_of_line_feeds held) in
    all_passed bytes feeds w h counted (subst (λ xs. Passed xs (drop (length bytes) bytes)) (sym is) (passed_by i.inside (drop (length bytes) bytes) i.lexemes i.ignored))
