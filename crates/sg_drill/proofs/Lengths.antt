-- How long the script of a drill is.
use Rattle.std.proofs.Common.{ℕ, zero, suc, ◌+◌, ◌*◌, ◌%◌, ◌<◌, ◌≤◌, ◌==◌, Bool, true, false, List, ◌++◌, length, refl, arith, codes, decimal, length-append, if◌then◌else◌}
use Rattle.std.proofs.lemmas.Bool.{leb-true}
use Rattle.std.proofs.lemmas.Fmt.{length-decimal-le}
use Rattle.sg_drill.specs.Script.{first_lines, line, multiplicity, number_of, prints_genus, prints_lengths, prints_pseudo_frobenius}

-- two texts one after the other
longer : (m n : ℕ) (xs ys : List ℕ) → length xs ≤ m → length ys ≤ n → length (xs ++ ys) ≤ m + n
longer m n xs ys a b = omega (arith, length-append xs ys)

short : (n : ℕ) → n < 10000 → length (decimal n) ≤ 4
short n l = length-decimal-le 4 n (omega arith) (omega arith) (omega arith)

module _ (a b : ℕ) (a_small : a < 10000) (b_small : b < 10000) where
  generators : length (decimal a ++ (codes "," ++ (decimal b ++ codes ")),\"\\n\");\n"))) ≤ 20
  generators = longer 4 16 (decimal a) _ (short a a_small) (longer 1 15 (codes ",") _ (leb-true _ 1 refl) (longer 4 11 (decimal b) (codes ")),\"\\n\");\n") (short b b_small) (leb-true _ 11 refl)))

  genus-short : length (prints_genus a b) ≤ 100
  genus-short = longer 80 20 (codes "Print(Genus(NumericalSemigroup(") _ (leb-true _ 80 refl) generators

  pseudo-short : length (prints_pseudo_frobenius a b) ≤ 100
  pseudo-short = longer 80 20 (codes "Print(PseudoFrobenius(NumericalSemigroup(") _ (leb-true _ 80 refl) generators

  lengths-short : a * b < 10000 → length (prints_lengths a b) ≤ 100
  lengths-short p =
      longer 50 50 (codes "Print(LengthsOfFactorizations(") _ (leb-true _ 50 refl)
      (longer 4 46 (decimal (a * b)) _ (short (a * b) p) (longer 26 20 (codes ",NumericalSemigroup(") _ (leb-true _ 26 refl) generators))

  statement-short : (first second : Bool) → a * b < 10000 → length (if first then prints_genus a b else (if second then prints_pseudo_frobenius a b else prints_lengths a b)) ≤ 100
  statement-short true second p = genus-short
  statement-short false true p = pseudo-short
  statement-short false false p = lengths-short p

line-short : (i a : ℕ) → a < 50 → length (line i a) ≤ 100
line-short i a l = statement-short a (a + 1) (omega arith) (omega arith) (i % 3 == 1) (i % 3 == 2) (small_product a l)
  where
    small_product : (a : ℕ) → a < 50 → a * (a + 1) < 10000
    small_product a l = grind arith

drawn-small : (x : ℕ) → multiplicity x < 50
drawn-small x = omega arith

-- a drill has at most 100 bytes in a line
pub lines-short : (statements i : ℕ) → length (first_lines statements i) ≤ 100 * i
lines-short statements zero = omega arith
lines-short statements (suc i) =
    omega (
      arith,
      lines-short statements i,
      line-short (suc i) (multiplicity (number_of statements (suc i))) (drawn-small (number_of statements (suc i))),
      length-append (first_lines statements i) (line (suc i) (multiplicity (number_of statements (suc i)))),
    )
