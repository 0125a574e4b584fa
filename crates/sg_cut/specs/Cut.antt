-- The first statement of a list of bytes.
use Rattle.std.specs.Prelude.{◌≡◌, ℕ, ◌+◌, ◌-◌, ◌<◌, ◌≤◌, Bool, false, ◌||◌, ◌==◌, if◌then◌else◌, List, [], ◌∷◌, ◌++◌, length, take, drop, fold, codes, IsTrue}
use Rattle.std.specs.List.{concat, list_all}
use Rattle.std.specs.Str.{bytes_eq}
use Rattle.sg_cut.specs.declared.outcome.Piece.{Piece}
use Rattle.sg_cut.specs.declared.outcome.Piece.TheVariants.{Statement, TooLong, Unfinished, End, Waiting}
use Rattle.sg_cut.specs.declared.limits.TheConstants.{STATEMENT_LIMIT}
use Rattle.sg_cut.specs.Bytes.{is_blank}
use Rattle.sg_cut.specs.Lexemes.{AreLexemes}

-- the block depth behind a lexeme: `if` and `for` raise it, `fi` and `od` lower it where it is above 0
abbrev pub depth_after : ℕ → List ℕ → ℕ
depth_after depth lexeme =
    if bytes_eq lexeme (codes "if") || bytes_eq lexeme (codes "for") then depth + 1
    else if bytes_eq lexeme (codes "fi") || bytes_eq lexeme (codes "od") then depth - 1
    else depth

-- the block depth behind some lexemes
abbrev pub depth_of : List (List ℕ) → ℕ
depth_of lexemes = fold depth_after 0 lexemes

-- a text is a statement: its last lexeme is `;` at block depth 0, and each `;` before stands inside a block
pub record IsStatement (text rest : List ℕ) : Type 0 where
  pub inside : List (List ℕ)
  pub spelled : text ≡ concat inside ++ codes ";"
  pub lexemes : AreLexemes inside (codes ";" ++ rest)
  pub closed : depth_of inside ≡ 0
  pub first : (before after : List (List ℕ)) → inside ≡ before ++ codes ";" ∷ after → 0 < depth_of before

-- the first `size` of the bytes are a statement
pub record Ends (bytes : List ℕ) (size : ℕ) : Type 0 where
  pub within : size ≤ length bytes
  pub statement : IsStatement (take size bytes) (drop size bytes)

-- the first byte is a blank or begins a comment
abbrev pub starts_ignored : List ℕ → Bool
starts_ignored [] = false
starts_ignored (b ∷ bytes) = is_blank b || b == 35

-- blanks and comments alone
pub record AreIgnored (front rest : List ℕ) : Type 0 where
  pub inside : List (List ℕ)
  pub spelled : front ≡ concat inside
  pub lexemes : AreLexemes inside rest
  pub ignored : IsTrue (list_all starts_ignored inside)

-- the place of the first byte that is neither blank nor comment, or the number of bytes where there is none
pub record Begins (bytes : List ℕ) (begin : ℕ) : Type 0 where
  pub within : begin ≤ length bytes
  pub skipped : AreIgnored (take begin bytes) (drop begin bytes)
  pub stops : starts_ignored (drop begin bytes) ≡ false

-- the first statement stands from `begin` up to `end`
pub record StandsAt (bytes : List ℕ) (begin end : ℕ) : Type 0 where
  pub begins : Begins bytes begin
  pub some : begin < end
  pub within : end ≤ length bytes
  pub ends : Ends (drop begin bytes) (end - begin)
  pub short : end ≤ begin + STATEMENT_LIMIT

-- from `begin` the longest that a statement may be is there, and none of these bytes ends it
pub record IsTooLong (bytes : List ℕ) (begin : ℕ) : Type 0 where
  pub begins : Begins bytes begin
  pub filled : begin + STATEMENT_LIMIT ≤ length bytes
  pub no_end : (size : ℕ) → size ≤ STATEMENT_LIMIT → ¬ Ends (drop begin bytes) size

-- these are all the bytes, and fewer than a statement may have are left of one without end
pub record IsUnfinished (bytes : List ℕ) (whole : Bool) (begin : ℕ) : Type 0 where
  pub complete : IsTrue whole
  pub begins : Begins bytes begin
  pub some : begin < length bytes
  pub few : length bytes < begin + STATEMENT_LIMIT
  pub no_end : (size : ℕ) → ¬ Ends (drop begin bytes) size

-- these are all the bytes, and they are blanks and comments
pub record IsAtEnd (bytes : List ℕ) (whole : Bool) : Type 0 where
  pub complete : IsTrue whole
  pub nothing_left : Begins bytes (length bytes)

-- none of the others
pub record IsWaiting (bytes : List ℕ) (whole : Bool) : Type 0 where
  pub no_statement : (begin end : ℕ) → ¬ StandsAt bytes begin end
  pub not_too_long : (begin : ℕ) → ¬ IsTooLong bytes begin
  pub not_unfinished : (begin : ℕ) → ¬ IsUnfinished bytes whole begin
  pub not_at_end : ¬ IsAtEnd bytes whole

-- what stands first in the bytes, which are all that there are where `whole` holds
abbrev pub Cut : List ℕ → Bool → Piece → Type 0
Cut bytes whole (Statement begin end) = StandsAt bytes begin end
Cut bytes whole (TooLong begin) = IsTooLong bytes begin
Cut bytes whole (Unfinished begin) = IsUnfinished bytes whole begin
Cut bytes whole End = IsAtEnd bytes whole
Cut bytes whole Waiting = IsWaiting bytes whole
