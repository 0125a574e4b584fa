-- What is told of a drill.
use Rattle.std.specs.Prelude.{ℕ, List, ◌++◌, codes, decimal, length, sum}

-- three lines: how many statements there were, how many bytes they printed, and the sum of these
abbrev pub summary_of : ℕ → List ℕ → List ℕ
summary_of statements printed =
    codes "statements " ++ (decimal statements ++ (codes "\nbytes " ++ (decimal (length printed) ++ (codes "\nsum " ++ (decimal (sum printed) ++ codes "\n")))))
