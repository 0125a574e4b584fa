use Rattle.std.proofs.Common.{◌≡◌, ℕ, List, Some, None, sym, subst}
use Rattle.sg_defs.specs.Invariants.{IsPseudoFrobenius}
use Rattle.sg_defs.specs.Listings.{ListsIntegers}
use Rattle.sg_value.specs.Known.{named}
use Rattle.sg_value.specs.Plain.{plain_of_all}
use Rattle.sg_rows.specs.Kinds.{as_semigroup, one}
use Rattle.sg_calls.proofs.Fitting.{fitted_told, found_some, sound_told}
use Rattle.sg_calls.proofs.forms.of_numbers.Goals as goal

pub deliver-requires : goal.deliver-requires
deliver-requires g c =
    let sole = one as_semigroup (plain_of_all (named c.args.store.now.ids) c.args.args.now) in
    let found =
    found_some (sole ≡ None) (λ numbers. (G : List ℕ) × (sole ≡ Some G) × ListsIntegers (IsPseudoFrobenius G) numbers.value) c.in_ok-numbers.field-0 c.in_ok-numbers.ensures.numbers c.in-Some.numbers c.in-Some.is
    in
    sound_told c.tell.result (g.R.OfNumbers.says c.args.row found.0) (c.tell.ensures found.0 (subst (ListsIntegers (IsPseudoFrobenius found.0)) (sym c.deref.ensures) found.2))

pub returns-clause-reply : goal.returns-clause-reply
returns-clause-reply g c =
    let sole = one as_semigroup (plain_of_all (named c.args.store.now.ids) c.args.args.now) in
    let found =
    found_some (sole ≡ None) (λ numbers. (G : List ℕ) × (sole ≡ Some G) × ListsIntegers (IsPseudoFrobenius G) numbers.value) c.in_ok-numbers.field-0 c.in_ok-numbers.ensures.numbers c.in-Some.numbers c.in-Some.is
    in
    fitted_told sole _ (g.R.OfNumbers.says c.args.row) c.deliver.new.ids found.0 c.tell.result c.deliver.result found.1 c.deliver.ensures.delivered
    (c.tell.ensures found.0 (subst (ListsIntegers (IsPseudoFrobenius found.0)) (sym c.deref.ensures) found.2))
