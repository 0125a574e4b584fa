-- What is found as an input is read are the statements of the whole.
use Rattle.std.proofs.Common.{◌≡◌, ℕ, ◌+◌, ◌≤◌, true, List, [], ◌∷◌, ◌++◌, length, take, drop, refl, sym, ap, ap₂, subst, append_assoc, append-nil}
use Rattle.std.specs.Prelude.{slice_range}
use Rattle.std.specs.List.{concat}
use Rattle.std.proofs.lemmas.List.{take-append-le}
use Rattle.sg_cut.specs.Lines.{count_of_line_feeds, line_of}
use Rattle.sg_cut.specs.declared.outcome.Piece.TheVariants.{Statement, TooLong, Unfinished, End}
use Rattle.sg_cut.proofs.Outcomes.{same_outcome, statement-append, text-append, rest-append, too_long-append}
use Rattle.sg_window.specs.Cutting.{Texts, Close, too_long, unfinished, Statements, FindsIn}
use Rattle.sg_window.specs.Cutting.Statements.{next, ends, long, breaks}
use Rattle.sg_window.specs.Cutting.FindsIn.{statement, long as found_long, read, at_end}

-- the same place in more bytes has the same line
line-append : (bytes more : List ℕ) (place : ℕ) → place ≤ length bytes → line_of (bytes ++ more) place ≡ line_of bytes place
line-append bytes more place within = ap (λ front. 1 + count_of_line_feeds front) (take-append-le place bytes more within)

-- found in pieces, behind some bytes
pub whole_from : {pieces : List (List ℕ)} {bytes : List ℕ} {feeds : ℕ} {texts : Texts} {close : Close} → FindsIn pieces bytes feeds texts close → Statements (bytes ++ concat pieces) feeds texts close
whole_from {pieces} {bytes} {feeds} (statement {more = more} {close = close} begin end s f) =
    let rest = concat pieces in
    let behind = whole_from f in
    let front : take end (bytes ++ rest) ≡ take end bytes = take-append-le end bytes rest s.within in
    let line : line_of (bytes ++ rest) begin ≡ line_of bytes begin = line-append bytes rest begin s.begins.within in
    let same = subst (λ xs. Statements xs (feeds + count_of_line_feeds (take end bytes)) more close) (sym (rest-append bytes rest begin end s)) behind in
    let counted = subst (λ xs. Statements (drop end (bytes ++ rest)) (feeds + count_of_line_feeds xs) more close) (sym front) same in
    let one = next {bytes = bytes ++ rest} {feeds = feeds} begin end (statement-append bytes rest begin end s) counted in
    subst (λ text. Statements (bytes ++ rest) feeds ((text, feeds + line_of bytes begin) ∷ more) close) (text-append bytes rest begin end s)
    (subst (λ n. Statements (bytes ++ rest) feeds ((slice_range (bytes ++ rest) begin end, feeds + n) ∷ more) close) line one)
whole_from {pieces} {bytes} {feeds} (found_long begin t) =
    let rest = concat pieces in
    subst (λ n. Statements (bytes ++ rest) feeds [] (too_long (feeds + n))) (line-append bytes rest begin t.begins.within) (long begin (too_long-append bytes rest begin t))
whole_from {bytes = bytes} {feeds} (read {pieces} {piece} {texts = texts} {close = close} waits f) =
    subst (λ xs. Statements xs feeds texts close) (append_assoc bytes piece (concat pieces)) (whole_from f)
whole_from {bytes = bytes} {feeds} (at_end {close = close} waits s) = subst (λ xs. Statements xs feeds [] close) (sym (append-nil bytes)) s

-- an input has one list of statements
pub one_list : {bytes : List ℕ} {feeds : ℕ} {texts others : Texts} {close other : Close} → Statements bytes feeds texts close → Statements bytes feeds others other → (texts ≡ others) × (close ≡ other)
one_list {bytes} {feeds} (next {more = more} {close = close} begin end s rest) (next {more = more'} {close = close'} begin' end' s' rest') =
    let same = same_outcome bytes true (Statement begin end) (Statement begin' end') s s' in
    let b : begin ≡ begin' = cc in
    let e : end ≡ end' = cc in
    let both = one_list rest (subst (λ n. Statements (drop n bytes) (feeds + count_of_line_feeds (take n bytes)) more' close') (sym e) rest') in
    (ap₂ (λ x (xs : Texts). x ∷ xs) (ap₂ (λ i j. (slice_range bytes i j, feeds + line_of bytes i)) b e) both.0, both.1)
one_list {bytes} (next begin end s rest) (ends c) = let same = same_outcome bytes true (Statement begin end) End s c in cc
one_list {bytes} (next begin end s rest) (long b c) = let same = same_outcome bytes true (Statement begin end) (TooLong b) s c in cc
one_list {bytes} (next begin end s rest) (breaks b c) = let same = same_outcome bytes true (Statement begin end) (Unfinished b) s c in cc
one_list {bytes} (ends c) (next begin end s rest) = let same = same_outcome bytes true End (Statement begin end) c s in cc
one_list {bytes} (ends c) (ends d) = (refl, refl)
one_list {bytes} (ends c) (long b d) = let same = same_outcome bytes true End (TooLong b) c d in cc
one_list {bytes} (ends c) (breaks b d) = let same = same_outcome bytes true End (Unfinished b) c d in cc
one_list {bytes} (long b c) (next begin end s rest) = let same = same_outcome bytes true (TooLong b) (Statement begin end) c s in cc
one_list {bytes} (long b c) (ends d) = let same = same_outcome bytes true (TooLong b) End c d in cc
one_list {bytes} {feeds} (long b c) (long b' d) =
    let same = same_outcome bytes true (TooLong b) (TooLong b') c d in
    let place : b ≡ b' = cc in
    (refl, ap (λ n. too_long (feeds + line_of bytes n)) place)
one_list {bytes} (long b c) (breaks b' d) = let same = same_outcome bytes true (TooLong b) (Unfinished b') c d in cc
one_list {bytes} (breaks b c) (next begin end s rest) = let same = same_outcome bytes true (Unfinished b) (Statement begin end) c s in cc
one_list {bytes} (breaks b c) (ends d) = let same = same_outcome bytes true (Unfinished b) End c d in cc
one_list {bytes} (breaks b c) (long b' d) = let same = same_outcome bytes true (Unfinished b) (TooLong b') c d in cc
one_list {bytes} {feeds} (breaks b c) (breaks b' d) =
    let same = same_outcome bytes true (Unfinished b) (Unfinished b') c d in
    let place : b ≡ b' = cc in
    (refl, ap (λ n. unfinished (feeds + line_of bytes n)) place)
