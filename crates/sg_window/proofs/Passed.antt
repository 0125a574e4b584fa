-- What lexemes of blanks and comments are byte by byte, and whether they end inside a comment.
use Rattle.std.proofs.Common.{◌≡◌, ◌∙◌, inl, inr, ℕ, ◌+◌, ◌≤◌, ◌<◌, Bool, true, false, cond, append-nil, List, [], ◌∷◌, ◌++◌, length, refl, sym, ap, subst, arith, append_assoc, IsTrue}
use Rattle.std.specs.Prelude.{◌==◌, ◌||◌, fold}
use Rattle.std.specs.List.{concat, list_all}
use Rattle.std.proofs.lemmas.Grind.{fold-append}
use Rattle.std.proofs.lemmas.List.Sums.{count_by-le-length, sum_by-append}
use Rattle.std.proofs.lemmas.Bool.{both_ways, and_parts, or_parts, or_cases, or_right, eqb-true, not-true, not-false, false≢true}
use Rattle.sg_cut.specs.Bytes.{is_blank, is_inline, is_word_byte}
use Rattle.sg_cut.specs.Lexemes.{IsLexeme, AreLexemes, IsWord, EndsRun}
use Rattle.sg_cut.specs.Lexemes.IsLexeme.{comment as a_comment, word, string, single}
use Rattle.sg_cut.specs.Cut.{starts_ignored}
use Rattle.sg_cut.specs.Lines.{count_of_line_feeds}
use Rattle.sg_window.specs.Comments.{AreSkipped, Shortens, in_comment, ends_in_comment}
use Rattle.sg_window.specs.Comments.AreSkipped.{none, blank, comment}
use Rattle.sg_window.specs.Comments.Shortens.{whole, comment as in_a_comment}
use Rattle.sg_window.proofs.Skipping.{blank_is}

-- blanks and comments, all closed, or with a comment last, behind which nothing follows or a line feed
pub data Passed (bytes rest : List ℕ) : Type 0 where
  closed : AreSkipped bytes → Passed bytes rest
  unclosed : (front body : List ℕ) → bytes ≡ front ++ 35 ∷ body → AreSkipped front → IsTrue (list_all is_inline body) → EndsRun is_inline rest → Passed bytes rest

-- whether the first byte is the sign of a comment
abbrev starts_sign : List ℕ → Bool
starts_sign [] = false
starts_sign (b ∷ bytes) = b == 35

-- behind a line feed
behind_feed : {bytes : List ℕ} (more : List ℕ) → AreSkipped bytes → bytes ≡ 10 ∷ more → AreSkipped more
behind_feed more none e = cc
behind_feed more (blank {b} {bytes} is skips) e = let same : bytes ≡ more = cc in subst AreSkipped same skips
behind_feed more (comment {bytes} body line skips) e = absurd (false≢true (sym (ap starts_sign e)))

-- a blank in front
with_blank : (b : ℕ) (bytes rest : List ℕ) → is_blank b ≡ true → Passed bytes rest → Passed (b ∷ bytes) rest
with_blank b bytes rest is (closed skips) = closed (blank is skips)
with_blank b bytes rest is (unclosed front body e skips line ends) = unclosed (b ∷ front) body (ap (λ xs. b ∷ xs) e) (blank is skips) line ends

-- a comment in front of a line feed, and what is behind that
with_line : (body bytes more rest : List ℕ) → IsTrue (list_all is_inline body) → bytes ≡ 10 ∷ more → Passed bytes rest → Passed (35 ∷ body ++ bytes) rest
with_line body bytes more rest line e (closed skips) =
    closed (subst (λ xs. AreSkipped (35 ∷ body ++ xs)) (sym e) (comment body line (behind_feed more skips e)))
with_line body bytes more rest line e (unclosed [] inside is skips inline ends) = absurd (false≢true (ap starts_sign (sym e ∙ is)))
with_line body bytes more rest line e (unclosed (b ∷ front) inside is skips inline ends) =
    let feed : b ≡ 10 = cc in
    let skips' : AreSkipped (10 ∷ front) = subst (λ x. AreSkipped (x ∷ front)) feed skips in
    let bytes_are : bytes ≡ 10 ∷ (front ++ 35 ∷ inside) = is ∙ ap (λ x. x ∷ front ++ 35 ∷ inside) feed in
    unclosed (35 ∷ body ++ 10 ∷ front) inside (ap (λ xs. 35 ∷ body ++ xs) bytes_are ∙ ap (λ (xs : List ℕ). 35 ∷ xs) (sym (append_assoc body (10 ∷ front) (35 ∷ inside)))) (comment body line (behind_feed front skips' refl)) inline ends

-- a comment in front
with_comment : (body bytes rest : List ℕ) → IsTrue (list_all is_inline body) → EndsRun is_inline (bytes ++ rest) → Passed bytes rest → Passed (35 ∷ body ++ bytes) rest
with_comment body [] rest line ends p = unclosed [] body (ap (λ (xs : List ℕ). 35 ∷ xs) (append-nil body)) none line ends
with_comment body (b ∷ bytes) rest line ends p =
    let feed : b ≡ 10 = eqb-true b 10 (not-false _ ends) in
    with_line body (b ∷ bytes) bytes rest line (ap (λ x. x ∷ bytes) feed) p

-- a word is not let go
no_word : (x rest : List ℕ) → IsWord x rest → starts_ignored x ≡ true → ⊥
no_word [] rest w h = absurd (omega (arith, w.some))
no_word (b ∷ bytes) rest w h =
    let in_word : is_word_byte b ≡ true = (and_parts (is_word_byte b) (list_all is_word_byte bytes) w.of_word_bytes).0 in
    elim (or_cases (is_blank b) (b == 35) h) [
      | inl is ↦ blank_is (λ b. is_word_byte b ≡ true → ⊥) b is false≢true false≢true false≢true false≢true in_word
      | inr is ↦ false≢true (subst (λ b. is_word_byte b ≡ true) (eqb-true b 35 is) in_word)
    ]

-- what lexemes of blanks and comments are
pub passed_by : (inside : List (List ℕ)) (rest : List ℕ) → AreLexemes inside rest → IsTrue (list_all starts_ignored inside) → Passed (concat inside) rest
passed_by [] rest lexemes ignored = closed none
passed_by (x ∷ inside) rest lexemes ignored =
    let both = and_parts (starts_ignored x) _ ignored in
    first x lexemes.0 both.0 (passed_by inside rest lexemes.1 both.1)
  where
    first : (x : List ℕ) → IsLexeme x (concat inside ++ rest) → starts_ignored x ≡ true → Passed (concat inside) rest → Passed (x ++ concat inside) rest
    first x (a_comment c) h p = subst (λ xs. Passed (xs ++ concat inside) rest) (sym c.spelled) (with_comment c.body (concat inside) rest c.one_line c.longest p)
    first x (word w) h p = absurd (no_word x _ w h)
    first x (string s) h p = absurd (false≢true (ap starts_ignored (sym s.spelled) ∙ h))
    first x (single s) h p =
        let all = or_parts (is_word_byte s.byte || (s.byte == 34)) (s.byte == 35) (not-true _ s.single) in
        let starts : starts_ignored (s.byte ∷ []) ≡ true = ap starts_ignored (sym s.spelled) ∙ h in
        let is : is_blank s.byte ≡ true = elim (or_cases (is_blank s.byte) (s.byte == 35) starts) [ inl is ↦ is | inr is ↦ absurd (both_ways _ all.1 is) ] in
        subst (λ xs. Passed (xs ++ concat inside) rest) (sym s.spelled) (with_blank s.byte (concat inside) rest is p)

-- ---- whether a comment goes on

-- a comment goes on along its line
on_line : (body : List ℕ) → IsTrue (list_all is_inline body) → fold in_comment true body ≡ true
on_line [] line = refl
on_line (b ∷ body) line =
    let both = and_parts (is_inline b) (list_all is_inline body) line in
    let goes_on : in_comment true b ≡ true = or_right (b == 35) _ both.0 in
    rw goes_on (on_line body both.1)

-- what is closed ends in none
pub closed_ends : {bytes : List ℕ} → AreSkipped bytes → ends_in_comment bytes ≡ false
closed_ends none = refl
closed_ends (blank {b} {bytes} is skips) =
    let none : in_comment false b ≡ false = blank_is (λ b. in_comment false b ≡ false) b is refl refl refl refl in
    rw none (closed_ends skips)
closed_ends (comment {bytes} body line skips) = rw (fold-append, on_line body line) (closed_ends skips)

-- behind closed ones, a comment goes on as it does without them
pub ends-append : {front : List ℕ} (rest : List ℕ) → AreSkipped front → ends_in_comment (front ++ rest) ≡ ends_in_comment rest
ends-append {front} rest skips = fold-append in_comment false front rest ∙ ap (λ open_. fold in_comment open_ rest) (closed_ends skips)

-- an open one goes on
pub unclosed_ends : (front body : List ℕ) → AreSkipped front → IsTrue (list_all is_inline body) → ends_in_comment (front ++ 35 ∷ body) ≡ true
unclosed_ends front body skips line = ends-append (35 ∷ body) skips ∙ on_line body line

-- and so for what is held of them
pub ends-held : {tail held : List ℕ} → Shortens tail held → ends_in_comment tail ≡ ends_in_comment held
ends-held whole = refl
ends-held (in_a_comment {rest} body line) = fold-append in_comment true body rest ∙ ap (λ open_. fold in_comment open_ rest) (on_line body line)

-- ---- line feeds

-- they are counted part by part
pub feeds-append : (xs ys : List ℕ) → count_of_line_feeds (xs ++ ys) ≡ count_of_line_feeds xs + count_of_line_feeds ys
feeds-append xs ys = sum_by-append (λ (b : ℕ). cond (b == 10) 1 0) xs ys

-- a line has none
pub feeds-line : (body : List ℕ) → IsTrue (list_all is_inline body) → count_of_line_feeds body ≡ 0
feeds-line [] line = refl
feeds-line (b ∷ body) line =
    let both = and_parts (is_inline b) (list_all is_inline body) line in
    let no_feed : (b == 10) ≡ false = not-true _ both.0 in
    rw no_feed (feeds-line body both.1)

-- where a comment goes on, some byte is no line feed
feeds-from : (sign feed : Bool) (bytes : List ℕ) → (sign ≡ true → feed ≡ false) → count_of_line_feeds bytes ≤ length bytes → (fold in_comment false bytes ≡ true → count_of_line_feeds bytes < length bytes)
    → fold in_comment (sign || false) bytes ≡ true → cond feed 1 0 + count_of_line_feeds bytes < 1 + length bytes
feeds-from true true bytes apart some more open_ = let wrong = apart refl in absurd (false≢true (sym wrong))
feeds-from true false bytes apart some more open_ = omega (arith, some)
feeds-from false true bytes apart some more open_ = let fewer = more open_ in omega (arith, fewer)
feeds-from false false bytes apart some more open_ = let fewer = more open_ in omega (arith, fewer)

-- a sign is no line feed
sign_is_no_feed : (b : ℕ) → (b == 35) ≡ true → (b == 10) ≡ false
sign_is_no_feed b sign = ap (λ x. x == 10) (eqb-true b 35 sign)

pub feeds-sign : (bytes : List ℕ) → ends_in_comment bytes ≡ true → count_of_line_feeds bytes < length bytes
feeds-sign [] open_ = absurd (false≢true open_)
feeds-sign (b ∷ bytes) open_ =
    let fewer = feeds-from (b == 35) (b == 10) bytes (sign_is_no_feed b) (count_by-le-length (λ b. b == 10) bytes) (feeds-sign bytes) open_ in
    omega (arith, fewer, feeds-append (b ∷ []) bytes)
