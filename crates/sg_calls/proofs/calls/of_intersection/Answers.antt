use Rattle.std.proofs.Common.{◌≡◌, Some, None, sym, ◌∙◌}
use Rattle.sg_value.specs.Known.{named}
use Rattle.sg_value.specs.Plain.{plain, plain_of_all}
use Rattle.sg_rows.specs.Kinds.{two, two_semigroups}
use Rattle.sg_rows.proofs.KindLemmas.{two_at}
use Rattle.sg_rows_constructors.specs.Rows.{intersection_row}
use Rattle.sg_rows_ideals.specs.Ideals as ideals
use Rattle.sg_rows_ideals.specs.declared.ideals.IdealCommand.TheVariants.{OfTwoIdeals}
use Rattle.sg_rows_ideals.specs.declared.pairs.Pair.TheVariants as pair
use Rattle.sg_calls.proofs.Fitting.{first_told, found_some, pair_told}
use Rattle.sg_calls.proofs.calls.of_intersection.Goals as goal

pub returns-in-Some-clause-reply : goal.returns-in-Some-clause-reply
returns-in-Some-clause-reply c =
    let names = named c.args.store.now.ids in
    let args = c.args.args.now in
    let a = c.index-args-0.result in
    let b = c.index-args-1.result in
    let G = c.in-Some.one.value in
    let H = c.in-Some.other.value in
    let both = two_semigroups (plain names a) (plain names b) in
    let seen = found_some (both ≡ None) (λ p. both ≡ Some (p.0.value, p.1.value)) c.in_ok-one.field-0 c.in_ok-one.ensures.both (c.in-Some.one, c.in-Some.other) c.in-Some.is in
    let found = sym (two_at names two_semigroups args a b c.requires.count c.index-args-0.is c.index-args-1.is) ∙ seen in
    let tells = pair_told intersection_row c.intersection.result c.deref.result.now c.deref-in-Some.result.now G H c.intersection.ensures c.deref.ensures c.deref-in-Some.ensures in
    first_told (two two_semigroups (plain_of_all names args)) _ (λ p. intersection_row p.0 p.1) c.deliver.new.ids (G, H) c.intersection.result c.deliver.result (ideals.case_of (OfTwoIdeals pair.Intersection) (plain_of_all names args)) found c.deliver.ensures.delivered tells
