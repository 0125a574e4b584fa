-- Blanks and comments in front, byte by byte and as lexemes.
use Rattle.std.proofs.Common.{◌≡◌, ◌∙◌, ℕ, ◌+◌, ◌≤◌, true, false, List, [], ◌∷◌, ◌++◌, length, take, drop, refl, sym, ap, subst, ⊎_elim, arith, append_assoc, length-append, IsTrue}
use Rattle.std.specs.Prelude.{◌==◌, ◌||◌}
use Rattle.std.specs.List.{concat, list_all, prefix_len}
use Rattle.std.proofs.lemmas.List.{take-append-drop}
use Rattle.std.proofs.lemmas.List.Folds.{list_all-append}
use Rattle.std.proofs.lemmas.Bool.{both_ways, and_parts, and_from, or_cases, eqb-true}
use Rattle.sg_cut.specs.Bytes.{is_blank, is_inline}
use Rattle.sg_cut.specs.Lexemes.{IsLexeme, AreLexemes, EndsRun}
use Rattle.sg_cut.specs.Lexemes.IsLexeme.{comment as a_comment}
use Rattle.sg_cut.specs.Cut.{starts_ignored}
use Rattle.sg_cut.proofs.Runs.{list_all-prefix, EndsRun-prefix}
use Rattle.sg_cut.proofs.FirstLexeme.{same_lexeme, comment_first, single_first}
use Rattle.sg_cut.proofs.Beginnings.{BeginsFrom, begins_with_lexeme}
use Rattle.sg_window.specs.Comments.{AreSkipped}
use Rattle.sg_window.specs.Comments.AreSkipped.{none, blank, comment}

-- what holds of the four blanks holds of a blank
pub blank_is : (P : ℕ → Type 0) (b : ℕ) → is_blank b ≡ true → P 32 → P 9 → P 13 → P 10 → P b
blank_is P b h space tab carriage feed =
    ⊎_elim
    (λ three. ⊎_elim
    (λ two. ⊎_elim
    (λ e. subst P (sym (eqb-true b 32 e)) space)
    (λ e. subst P (sym (eqb-true b 9 e)) tab)
    (or_cases (b == 32) (b == 9) two))
    (λ e. subst P (sym (eqb-true b 13 e)) carriage)
    (or_cases (b == 32 || b == 9) (b == 13) three))
    (λ e. subst P (sym (eqb-true b 10 e)) feed)
    (or_cases (b == 32 || b == 9 || b == 13) (b == 10) h)

-- a blank is a lexeme, whatever follows
blank_lexeme : (b : ℕ) (rest : List ℕ) → is_blank b ≡ true → IsLexeme (b ∷ []) rest
blank_lexeme b rest h =
    blank_is (λ b. IsLexeme (b ∷ []) rest) b h (single_first 32 rest refl refl refl) (single_first 9 rest refl refl refl) (single_first 13 rest refl refl refl) (single_first 10 rest refl refl refl)

-- one after the other
pub skipped-append : {front more : List ℕ} → AreSkipped front → AreSkipped more → AreSkipped (front ++ more)
skipped-append none s = s
skipped-append (blank is skips) s = blank is (skipped-append skips s)
skipped-append {more = more} (comment {bytes} body line skips) s =
    subst (λ xs. AreSkipped (35 ∷ xs)) (sym (append_assoc body (10 ∷ bytes) more)) (comment body line (skipped-append skips s))

-- with them in front, bytes begin that much further on
pub begins_behind : {front rest : List ℕ} {begin : ℕ} → AreSkipped front → BeginsFrom rest begin → BeginsFrom (front ++ rest) (length front + begin)
begins_behind {rest = rest} {begin} none b = let same : begin ≡ 0 + begin = omega arith in subst (BeginsFrom rest) same b
begins_behind {rest = rest} {begin} (blank {b} {bytes} is skips) b' =
    let whole = begins_with_lexeme (blank_lexeme b (bytes ++ rest) is) (ap (λ t. t || b == 35) is) (begins_behind skips b') in
    let size : length (b ∷ []) + (length bytes + begin) ≡ length (b ∷ bytes) + begin = omega arith in
    subst (BeginsFrom (b ∷ bytes ++ rest)) size whole
begins_behind {rest = rest} {begin} (comment {bytes} body line skips) b =
    let feed = begins_with_lexeme (blank_lexeme 10 (bytes ++ rest) refl) refl (begins_behind skips b) in
    let sign : IsLexeme (35 ∷ body) (10 ∷ bytes ++ rest) = a_comment (record { body = body; spelled = refl; one_line = line; longest = refl }) in
    let whole = begins_with_lexeme sign refl feed in
    let one : List ℕ = 10 ∷ [] in
    let all : List ℕ = 35 ∷ body ++ 10 ∷ bytes in
    let signed : List ℕ = 35 ∷ body in
    let size : length signed + (length one + (length bytes + begin)) ≡ length all + begin = omega (arith, length-append body (10 ∷ bytes)) in
    subst (λ (xs : List ℕ). BeginsFrom (35 ∷ xs) (length all + begin)) (sym (append_assoc body (10 ∷ bytes) rest)) (subst (BeginsFrom (35 ∷ body ++ (10 ∷ bytes ++ rest))) size whole)

-- ---- a comment that goes on

module _ (rest body : List ℕ) (begin : ℕ) (line : IsTrue (list_all is_inline body)) where
  front : List ℕ
  front = take (prefix_len is_inline rest) rest

  -- the comment in front, and what is behind it, with more of the comment in front
  longer : (inside : List (List ℕ)) (x : List ℕ) (after : List ℕ) → IsLexeme x (concat inside ++ after) → x ++ (concat inside ++ after) ≡ 35 ∷ rest → AreLexemes inside after → IsTrue (list_all starts_ignored inside) → starts_ignored after ≡ false
      → begin ≡ length (x ++ concat inside) → (1 ≤ begin) × BeginsFrom (35 ∷ body ++ rest) (length body + begin)
  unfolding front
  longer inside x after l spelled lexemes ignored stops size =
      let whole : front ++ drop (prefix_len is_inline rest) rest ≡ rest = take-append-drop (prefix_len is_inline rest) rest in
      let same = same_lexeme l (comment_first rest) (spelled ∙ ap (λ (xs : List ℕ). 35 ∷ xs) (sym whole)) in
      let behind : BeginsFrom (concat inside ++ after) (length (concat inside)) =
      record { inside = inside; rest = after; spelled = refl; begin_is = refl; lexemes = lexemes; ignored = ignored; stops = stops } in
      let on_one_line : IsTrue (list_all is_inline (body ++ front)) = list_all-append is_inline body front ∙ and_from _ _ line (list_all-prefix is_inline rest) in
      let sign : IsLexeme (35 ∷ body ++ front) (concat inside ++ after) =
      a_comment (record { body = body ++ front; spelled = refl; one_line = on_one_line; longest = subst (EndsRun is_inline) (sym same.1) (EndsRun-prefix is_inline rest) }) in
      let begins = begins_with_lexeme sign refl behind in
      let signed : List ℕ = 35 ∷ body ++ front in
      let bytes : signed ++ (concat inside ++ after) ≡ 35 ∷ body ++ rest =
      ap (λ (xs : List ℕ). 35 ∷ xs) (append_assoc body front (concat inside ++ after) ∙ ap (λ xs. body ++ (front ++ xs)) same.1 ∙ ap (λ xs. body ++ xs) whole) in
      let count : length signed + length (concat inside) ≡ length body + begin =
      omega (arith, size, length-append x (concat inside), ap length same.0, length-append body front) in (
        omega (arith, size, length-append x (concat inside), ap length same.0),
        subst (λ n. BeginsFrom (35 ∷ body ++ rest) n) count (subst (λ xs. BeginsFrom xs (length signed + length (concat inside))) bytes begins),
      )

-- with more of a comment in front, bytes begin that much further on
pub begins_in_comment : {rest : List ℕ} {begin : ℕ} (body : List ℕ) → IsTrue (list_all is_inline body) → BeginsFrom (35 ∷ rest) begin → (1 ≤ begin) × BeginsFrom (35 ∷ body ++ rest) (length body + begin)
begins_in_comment {rest} {begin} body line b = go b.inside b.spelled b.lexemes b.ignored b.begin_is
  where
    go : (inside : List (List ℕ)) → 35 ∷ rest ≡ concat inside ++ b.rest → AreLexemes inside b.rest → IsTrue (list_all starts_ignored inside) → begin ≡ length (concat inside) → (1 ≤ begin) × BeginsFrom (35 ∷ body ++ rest) (length body + begin)
    go [] spelled lexemes ignored size = absurd (both_ways _ b.stops (ap starts_ignored (sym spelled)))
    go (x ∷ inside) spelled lexemes ignored size =
        longer rest body begin line inside x b.rest lexemes.0 (sym (append_assoc x (concat inside) b.rest) ∙ sym spelled) lexemes.1 (and_parts (starts_ignored x) _ ignored).1 b.stops size
