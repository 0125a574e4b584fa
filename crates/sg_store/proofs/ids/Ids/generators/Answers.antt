use Rattle.std.proofs.Common.{◌≡◌, slice_get, Some, ap, sym, ◌∙◌, subst}
use Rattle.std.specs.Option.{option_map}
use Rattle.std.proofs.lemmas.Option.{slice_get-map}
use Rattle.sg_value.specs.Plain.{AreDistinct}
use Rattle.sg_value.specs.Known.{named}
use Rattle.sg_store.specs.declared.key.Key.{Key}
use Rattle.sg_store.proofs.Interning.{known_distinct}
use Rattle.sg_store.proofs.ids.Ids.generators.Goals as goal

pub returns-clause-fit : goal.returns-clause-fit
returns-clause-fit c =
    let keys = c.self.inside.keys.keys in
    let at : slice_get keys c.args.id ≡ Some c.in-Some.key.now = ap (slice_get keys) (sym c.index.ensures) ∙ sym c.in-Some.ensures.key in
    c.self.invariant.fit c.args.id c.in-Some.key.now.list (slice_get-map (λ (k : Key). k.list) keys c.args.id ∙ ap (option_map (λ (k : Key). k.list)) at)

pub returns-clause-distinct : goal.returns-clause-distinct
returns-clause-distinct c =
    let inv = c.self.invariant in
    subst (λ l. AreDistinct (named l)) c.self.view_is (known_distinct c.self.inside.keys.keys inv.unique c.self.inside.ideals.keys inv.ideals_fit inv.ideals_unique)
