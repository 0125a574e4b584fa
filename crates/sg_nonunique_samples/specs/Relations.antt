-- Relations of numbers, written out.
use Rattle.std.specs.Prelude.{ℕ, List}
use Rattle.sg_nonunique.specs.Presentations.{Relation}

-- the relation of two factorizations of n
abbrev pub relation : ℕ → List ℕ → List ℕ → Relation ℕ
relation n x y = record { value = n; left = x; right = y }
