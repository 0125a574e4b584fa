-- How far a chain of a rank can be called without a token being taken.
use Rattle.std.proofs.Common.{ℕ}
use Rattle.sg_expression.specs.declared.rank.Rank.{Rank}
use Rattle.sg_expression.specs.declared.rank.Rank.TheVariants as rank

-- chains that bind more tightly weigh less
abbrev pub weight : Rank → ℕ
weight rank.Or = 12
weight rank.And = 10
weight rank.Sum = 6
weight rank.Product = 4
