use Rattle.std.proofs.Common.{ℕ, ◌<◌, ◌≤◌, List, length, get_or, leb, ap, inl, inr, arith, rules}
use Rattle.std.specs.List.Sorted.{IsStrictlyIncreasing}
use Rattle.std.proofs.lemmas.Bool.{cases_eq, leb-false}
use Rattle.std.proofs.lemmas.List.Kept.{AllPairs-from_increasing}
use Rattle.std.proofs.lemmas.List.Sorted.{IsPartitionPoint-from_clause, IsPartitionedBy-leb}
use Rattle.sg_invar.proofs.pseudo.count_up_to.Goals as goal

not_falling : (xs : List ℕ) → IsStrictlyIncreasing xs → (i j d : ℕ) → i ≤ j → j < length xs → get_or xs i d ≤ get_or xs j d
not_falling xs up i j d le inside = elim (cases_eq i j) [
  | inl e ↦ omega (arith, ap (λ k. get_or xs k d) e)
  | inr other ↦ omega (arith, AllPairs-from_increasing xs up i j d (omega (arith, le, other)) inside)
]

pub returns-clause-after : goal.returns-clause-after
returns-clause-after c =
    let parted = IsPartitionedBy-leb (λ x. x) _ c.args.most (not_falling c.args.numbers.now c.requires) in
    let point = IsPartitionPoint-from_clause (λ x. leb x c.args.most) _ _ c.partition_point.ensures.partitioned parted (λ a r q k. search rules) in
    λ k past inside. leb-false _ _ (point.1 k 0 past inside)
