use Rattle.std.proofs.Common.{◌≡◌, ℕ, ◌+◌, ◌-◌, ◌<◌, ◌≤◌, List, length, get_or, sym, subst, ap, ◌∙◌, arith}
use Rattle.sg_omega.specs.Lengths.{AreGreatestMade}
use Rattle.sg_omega.specs.Minimal.{IsGreatestOfAll}
use Rattle.sg_omega.proofs.PrimalityLemmas.{greatest-found, multiplicity-within, within-limit}
use Rattle.sg_omega.proofs.primality.greatest_minimal_length.Goals as goal

pub overflow_sub-last : goal.overflow_sub-last
overflow_sub-last c =
    omega (arith, multiplicity-within c.args.t.now c.generators.ensures.semigroup c.generators.ensures.minimal c.span.result c.span.ensures, c.multiplicity.ensures.first)

pub members_upto-requires : goal.members_upto-requires
members_upto-requires c = omega (arith, within-limit c.args.t.now c.args.most c.span.result c.requires.small c.span.ensures)

pub overflow_add-most : goal.overflow_add-most
overflow_add-most c = omega (arith, within-limit c.args.t.now c.args.most c.span.result c.requires.small c.span.ensures)

pub start_table-requires : goal.start_table-requires
start_table-requires c = omega (arith, within-limit c.args.t.now c.args.most c.span.result c.requires.small c.span.ensures)

pub walk-requires-clause-short : goal.walk-requires-clause-short
walk-requires-clause-short c = omega (arith, within-limit c.args.t.now c.args.most c.span.result c.requires.small c.span.ensures, ap length c.deref.ensures.value, c.in_ok-table.ensures.long)

pub walk-requires-clause-bounded : goal.walk-requires-clause-bounded
walk-requires-clause-bounded c = subst (λ (l : List ℕ). (x : ℕ) → x < length l → get_or l x 0 ≤ x + 1) (sym c.deref.ensures.value) c.in_ok-table.ensures.bounded

pub walk-requires-clause-inside : goal.walk-requires-clause-inside
walk-requires-clause-inside c n v wanted there =
    omega (
      arith,
      c.requires.most wanted.0 n wanted.1,
      wanted.2,
      ((c.in_ok-values.ensures v).0 there).0,
      ap length c.deref.ensures.value,
      c.in_ok-table.ensures.long,
    )

pub walk-requires-clause-lengths : goal.walk-requires-clause-lengths
walk-requires-clause-lengths c v there =
    let G = c.args.t.now in
    let all : c.len-places.result ≡ length G = c.len-places.ensures ∙ ap length c.generators.ensures.same in
    subst (λ k. AreGreatestMade G v k c.deref.result.now) (sym all) (subst (AreGreatestMade G v (length G)) (sym c.deref.ensures.value) (c.in_ok-table.ensures.lengths G v))

pub overflow_sub-result : goal.overflow_sub-result
overflow_sub-result c =
    let r = greatest-found c.args.t.now c.generators.ensures.semigroup c.generators.ensures.minimal c.span.result c.multiplicity.result c.span.ensures c.multiplicity.ensures.first
    c.args.wanted.now c.in_ok-values.values.items c.in_ok-found.found c.in_ok-values.ensures c.in_ok-found.ensures c.requires.some c.requires.members in
    omega (arith, r.0, c.from.ensures)

pub returns : goal.returns
returns c =
    let r = greatest-found c.args.t.now c.generators.ensures.semigroup c.generators.ensures.minimal c.span.result c.multiplicity.result c.span.ensures c.multiplicity.ensures.first
    c.args.wanted.now c.in_ok-values.values.items c.in_ok-found.found c.in_ok-values.ensures c.in_ok-found.ensures c.requires.some c.requires.members in
    subst (λ n. IsGreatestOfAll c.args.t.now c.args.wanted.now (n - 1)) (sym c.from.ensures) r.1
