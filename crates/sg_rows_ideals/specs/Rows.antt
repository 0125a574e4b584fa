-- The rows on relative ideals.
use Rattle.std.specs.Prelude.{◌≡◌, ◌≢◌, ◌<ℤ◌, ℕ, ℤ, pos, List, [], unsigned_abs}
use Rattle.sg_defs.specs.Ideals.{IsIdealMember, IsInSum, IsInDifference, IsInMultiple, IsInTranslate, IsInCanonical, IsInMaximal}
use Rattle.sg_ideal.specs.Value.{GeneratesIdeal, IsIn, IsInBoth}
use Rattle.sg_lawful.specs.Generators.{AreSmall}
use Rattle.sg_value.specs.Data.{ideal, semigroup}
use Rattle.sg_value.specs.Plain.{RelativeIdeal}
use Rattle.sg_rows.specs.Order.{Row}
use Rattle.sg_rows.specs.Values.{answers, integer_list, whether}
use Rattle.sg_rows_ideals.specs.declared.facts.IdealFact.{IdealFact}
use Rattle.sg_rows_ideals.specs.declared.facts.IdealFact.TheVariants.{Ambient, Generators}
use Rattle.sg_rows_ideals.specs.declared.pairs.Pair.{Pair}
use Rattle.sg_rows_ideals.specs.declared.pairs.Pair.TheVariants.{Difference, Intersection, Sum}

-- the ideal with these minimal lists
abbrev pub over : List ℕ → List ℤ → RelativeIdeal
over G I = record { ambient = G; generators = I }

-- an ideal as values know it
abbrev pub stored : RelativeIdeal → RelativeIdeal
stored J = J

-- a row whose value is the ideal over G of the integers with P; it is too large where a minimal generator is past the limit
abbrev pub an_ideal : List ℕ → (ℤ → Type 0) → Row
an_ideal G P = record (answers (λ d. (I : List ℤ) × (d ≡ ideal (over G I)) × GeneratesIdeal G P I)) { limit = (I : List ℤ) → GeneratesIdeal G P I → ¬ AreSmall I }

abbrev pub fact_row : IdealFact → RelativeIdeal → Row
fact_row Ambient I = answers (λ d. d ≡ semigroup I.ambient)
fact_row Generators I = answers (λ d. d ≡ integer_list I.generators)

-- whether the integer is a member
abbrev pub member_row : ℤ → RelativeIdeal → Row
member_row x I = answers (whether (IsIn I x))

-- the integers that are an entry and a member; the entries are within the limit, and there are some
abbrev pub generated_row : List ℤ → List ℕ → Row
generated_row zs G = record (an_ideal G (IsIdealMember G zs)) { size = ¬ AreSmall zs; bad = zs ≡ [] }

-- the integers that, taken from the Frobenius number, give no member
abbrev pub canonical_row : List ℕ → Row
canonical_row G = an_ideal G (IsInCanonical G)

-- the members but 0
abbrev pub maximal_row : List ℕ → Row
maximal_row G = an_ideal G (IsInMaximal G)

-- the integers that two ideals determine
abbrev pub InPair : Pair → (ℤ → Type 0) → (ℤ → Type 0) → ℤ → Type 0
InPair Difference P Q x = IsInDifference P Q x
InPair Intersection P Q x = IsInBoth P Q x
InPair Sum P Q x = IsInSum P Q x

-- the ideal of these, where the two are ideals of one semigroup
abbrev pub pair_row : Pair → RelativeIdeal → RelativeIdeal → Row
pair_row p I J = record (an_ideal I.ambient (InPair p (IsIn I) (IsIn J))) { bad = I.ambient ≢ J.ambient }

-- the sums of k members
abbrev pub multiple_row : ℤ → RelativeIdeal → Row
multiple_row k I = record (an_ideal I.ambient (IsInMultiple (unsigned_abs k) (IsIn I))) { bad = k <ℤ pos 1 }

-- the sums of x and a member
abbrev pub translate_row : ℤ → RelativeIdeal → Row
translate_row x I = an_ideal I.ambient (IsInTranslate x (IsIn I))
