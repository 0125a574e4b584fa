-- What follows the end of a statement, or its first byte, changes neither.
use Rattle.std.proofs.Common.{◌≡◌, ℕ, ◌<◌, ◌≤◌, Bool, false, List, [], ◌∷◌, ◌++◌, length, drop, arith, length-append}
use Rattle.std.specs.List.{concat}
use Rattle.std.proofs.lemmas.List.{drop-append-le, length-drop, take-append-le}
use Rattle.sg_cut.specs.Bytes.{is_inline, is_word_byte}
use Rattle.sg_cut.specs.Lexemes.{IsLexeme, Closes, AreLexemes, EndsRun}
use Rattle.sg_cut.specs.Lexemes.IsLexeme.{comment, word, string, single}
use Rattle.sg_cut.specs.Lexemes.Closes.{quote, line, backslash}
use Rattle.sg_cut.specs.Cut.{AreIgnored, Begins, Ends, IsStatement, starts_ignored}

module _ (b : ℕ) (rest rest' : List ℕ) where
  -- whether a run ends depends on the next byte alone
  EndsRun-other : (test : ℕ → Bool) (front : List ℕ) → EndsRun test (front ++ b ∷ rest) → EndsRun test (front ++ b ∷ rest')
  EndsRun-other test [] ends = ends
  EndsRun-other test (c ∷ front) ends = ends

  -- so does whether a string ends
  Closes-other : {closing : List ℕ} (front : List ℕ) → Closes (front ++ b ∷ rest) closing → Closes (front ++ b ∷ rest') closing
  Closes-other front quote = quote
  Closes-other front (line ends) = line (EndsRun-other is_inline front ends)
  Closes-other front (backslash ends) = backslash (EndsRun-other is_inline front ends)

  -- a lexeme depends on no byte behind the next one
  IsLexeme-other : {lexeme : List ℕ} (front : List ℕ) → IsLexeme lexeme (front ++ b ∷ rest) → IsLexeme lexeme (front ++ b ∷ rest')
  IsLexeme-other front (comment c) =
      comment (record { body = c.body; spelled = c.spelled; one_line = c.one_line; longest = EndsRun-other is_inline front c.longest })
  IsLexeme-other front (word w) =
      word (record { some = w.some; of_word_bytes = w.of_word_bytes; longest = EndsRun-other is_word_byte front w.longest })
  IsLexeme-other front (string s) =
      let q = s.quoted in
      string (record { tail = s.tail; spelled = s.spelled; quoted = record { body = q.body; closing = q.closing; spelled = q.spelled; inside = q.inside; closes = Closes-other front q.closes } })
  IsLexeme-other front (single s) = single s

  -- and what some bytes fall into, in front of the next one
  AreLexemes-other : (lexemes : List (List ℕ)) → AreLexemes lexemes (b ∷ rest) → AreLexemes lexemes (b ∷ rest')
  AreLexemes-other [] are = tt
  AreLexemes-other (lexeme ∷ lexemes) are = (IsLexeme-other (concat lexemes) are.0, AreLexemes-other lexemes are.1)

-- a statement is one whatever follows
pub IsStatement-other : {text : List ℕ} (rest rest' : List ℕ) → IsStatement text rest → IsStatement text rest'
IsStatement-other rest rest' s = record {
  inside = s.inside;
  spelled = s.spelled;
  lexemes = AreLexemes-other 59 rest rest' s.inside s.lexemes;
  closed = s.closed;
  first = s.first;
}

-- the end of a statement is its end in front of more bytes
pub Ends-append : (bytes more : List ℕ) (size : ℕ) → Ends bytes size → Ends (bytes ++ more) size
Ends-append bytes more size e =
    let within : size ≤ length bytes = e.within in
    let statement = IsStatement-other (drop size bytes) (drop size (bytes ++ more)) e.statement in
    record {
      within = omega (arith, length-append bytes more);
      statement = rw (take-append-le size bytes more within) statement;
    }

-- an end inside the front of some bytes is one of the front alone
pub Ends-front : (bytes more : List ℕ) (size : ℕ) → size ≤ length bytes → Ends (bytes ++ more) size → Ends bytes size
Ends-front bytes more size within e =
    let statement = IsStatement-other (drop size (bytes ++ more)) (drop size bytes) e.statement in
    record {
      within = within;
      statement = rw (take-append-le size bytes more within) at statement;
    }

-- blanks and comments in front of a byte stay so in front of more bytes
AreIgnored-append : {front : List ℕ} (rest more : List ℕ) → 0 < length rest → AreIgnored front rest → AreIgnored front (rest ++ more)
AreIgnored-append [] more some s = absurd (omega arith)
AreIgnored-append (b ∷ rest) more some s =
    record { inside = s.inside; spelled = s.spelled; lexemes = AreLexemes-other b rest (rest ++ more) s.inside s.lexemes; ignored = s.ignored }

-- and that byte stays neither
starts_ignored-more : (rest more : List ℕ) → 0 < length rest → starts_ignored rest ≡ false → starts_ignored (rest ++ more) ≡ false
starts_ignored-more [] more some stops = absurd (omega arith)
starts_ignored-more (b ∷ rest) more some stops = stops

-- the first byte of a statement stays it in front of more bytes
pub Begins-append : (bytes more : List ℕ) (begin : ℕ) → begin < length bytes → Begins bytes begin → Begins (bytes ++ more) begin
Begins-append bytes more begin inside b =
    let within : begin ≤ length bytes = b.within in
    let some : 0 < length (drop begin bytes) = omega (arith, length-drop begin bytes) in
    let front = take-append-le begin bytes more within in
    let back = drop-append-le begin bytes more within in
    record {
      within = omega (arith, length-append bytes more);
      skipped = rw (front, back) (AreIgnored-append (drop begin bytes) more some b.skipped);
      stops = rw back (starts_ignored-more (drop begin bytes) more some b.stops);
    }
