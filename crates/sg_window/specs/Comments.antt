-- What is let go in front of a statement.
use Rattle.std.specs.Prelude.{ℕ, ◌==◌, ◌&&◌, ◌||◌, Bool, false, not, List, [], ◌∷◌, ◌++◌, fold, IsTrue}
use Rattle.std.specs.List.{list_all}
use Rattle.sg_cut.specs.Bytes.{is_blank, is_inline}

-- blanks, and comments with the line feeds that end them: nothing of it depends on what follows
pub data AreSkipped : List ℕ → Type 0 where
  none : AreSkipped []
  blank : {b : ℕ} {bytes : List ℕ} → IsTrue (is_blank b) → AreSkipped bytes → AreSkipped (b ∷ bytes)
  comment : {bytes : List ℕ} (body : List ℕ) → IsTrue (list_all is_inline body) → AreSkipped bytes → AreSkipped (35 ∷ body ++ 10 ∷ bytes)

-- some bytes as they are held: as they are, or with a comment in front, whose end may not have come, of which only the
-- sign is held
pub data Shortens : List ℕ → List ℕ → Type 0 where
  whole : {bytes : List ℕ} → Shortens bytes bytes
  comment : {rest : List ℕ} (body : List ℕ) → IsTrue (list_all is_inline body) → Shortens (35 ∷ body ++ rest) (35 ∷ rest)

-- whether a comment goes on behind a byte, where it went on before or not
abbrev pub in_comment : Bool → ℕ → Bool
in_comment open_ b = b == 35 || (open_ && not (b == 10))

-- whether blanks and comments end inside a comment
abbrev pub ends_in_comment : List ℕ → Bool
ends_in_comment bytes = fold in_comment false bytes
