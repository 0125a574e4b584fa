-- The lines of a text.
use Rattle.std.specs.Prelude.{ℕ, ◌+◌, ◌==◌, List, take, count_by}

-- how many line feeds the bytes have
abbrev pub count_of_line_feeds : List ℕ → ℕ
count_of_line_feeds bytes = count_by (λ b. b == 10) bytes

-- the line of the byte at a place: 1 and the line feeds before it
abbrev pub line_of : List ℕ → ℕ → ℕ
line_of bytes place = 1 + count_of_line_feeds (take place bytes)
