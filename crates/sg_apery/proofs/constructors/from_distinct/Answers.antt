use Rattle.std.proofs.Common.{◌≡◌, ◌∙◌, sym, inr, arith, rules, refl, length, vec_len}
use Rattle.sg_classes.proofs.EntryLemmas.{table-same}
use Rattle.sg_defs.proofs.MinimalLemmas.{first-least}
use Rattle.sg_apery.proofs.constructors.from_distinct.Goals as goal

pub returns-then-multiplicity-gt-MULTIPLICITY_LIMIT-clause-refused : goal.returns-then-multiplicity-gt-MULTIPLICITY_LIMIT-clause-refused
returns-then-multiplicity-gt-MULTIPLICITY_LIMIT-clause-refused c =
    let entries = c.args.entries.now in
    inr (c.if-not-are_small.ensures.all refl, c.if-not-is_numerical_semigroup.ensures.0 refl, (λ k l. omega (arith, first-least entries c.requires k l)))

pub from_parts-requires : goal.from_parts-requires
from_parts-requires c =
    let len : vec_len c.in_ok-apery.apery ≡ length c.in_ok-apery.apery.items = search rules in
    table-same c.args.entries.now c.apery_list.new.minimal c.in_ok-apery.apery.items c.requires (c.if-not-are_small.ensures.all refl) (sym len ∙ c.in_ok-apery.ensures.length) c.in_ok-apery.ensures.table c.in_ok-apery.ensures.minimal
