use Rattle.std.proofs.Common.{◌≡◌, Some, slice_get, ap, sym, ◌∙◌, subst}
use Rattle.sg_value.specs.Known.{Known}
use Rattle.sg_store.specs.Keyed.{IsKeyOf}
use Rattle.sg_store.proofs.Interning.{key_of}
use Rattle.sg_store.proofs.ids.Ids.ideal_key.Goals as goal

pub returns : goal.returns
returns c =
    let keys = c.self.inside.keys.keys in
    let ideals = c.self.inside.ideals.keys in
    let at : slice_get ideals c.args.id ≡ Some c.in-Some.key.now = ap (slice_get ideals) (sym c.index.ensures) ∙ sym c.in-Some.ensures.key in
    subst (λ (l : Known). IsKeyOf l c.args.id c.in-Some.key.now) c.self.view_is (key_of keys ideals c.args.id c.in-Some.key.now at (c.self.invariant.ideals_fit c.args.id c.in-Some.key.now at))
