-- The script of a drill.
use Rattle.std.specs.Prelude.{ℕ, zero, suc, ◌+◌, ◌*◌, ◌/◌, ◌%◌, ◌==◌, List, [], ◌++◌, codes, decimal, if◌then◌else◌}

-- the numbers of a drill: each follows from the one before it
abbrev pub next_number : ℕ → ℕ
next_number x = (1103515245 * x + 12345) % 2147483648

-- the number of a line: the first one follows from the number of statements
abbrev pub number_of : ℕ → ℕ → ℕ
number_of statements zero = statements
number_of statements (suc i) = next_number (number_of statements i)

-- the multiplicity of the semigroup that is drawn with a number: from 2 to 49
abbrev pub multiplicity : ℕ → ℕ
multiplicity x = 2 + (x / 65536) % 48

-- the three statements, over the semigroup with the generators a and b, each with its line feed
abbrev pub prints_genus : ℕ → ℕ → List ℕ
prints_genus a b = codes "Print(Genus(NumericalSemigroup(" ++ (decimal a ++ (codes "," ++ (decimal b ++ codes ")),\"\\n\");\n")))

abbrev pub prints_pseudo_frobenius : ℕ → ℕ → List ℕ
prints_pseudo_frobenius a b = codes "Print(PseudoFrobenius(NumericalSemigroup(" ++ (decimal a ++ (codes "," ++ (decimal b ++ codes ")),\"\\n\");\n")))

abbrev pub prints_lengths : ℕ → ℕ → List ℕ
prints_lengths a b =
    codes "Print(LengthsOfFactorizations(" ++ (decimal (a * b) ++ (codes ",NumericalSemigroup(" ++ (decimal a ++ (codes "," ++ (decimal b ++ codes ")),\"\\n\");\n")))))

-- line i: the three statements take turns
abbrev pub statement_of : ℕ → ℕ → ℕ → List ℕ
statement_of turn a b = if turn == 1 then prints_genus a b else (if turn == 2 then prints_pseudo_frobenius a b else prints_lengths a b)

abbrev pub line : ℕ → ℕ → List ℕ
line i a = statement_of (i % 3) a (a + 1)

-- the first lines of a drill with so many statements
abbrev pub first_lines : ℕ → ℕ → List ℕ
first_lines statements zero = []
first_lines statements (suc i) = first_lines statements i ++ line (suc i) (multiplicity (number_of statements (suc i)))

-- the script of a drill with so many statements: as many lines
abbrev pub drill_script : ℕ → List ℕ
drill_script statements = first_lines statements statements
