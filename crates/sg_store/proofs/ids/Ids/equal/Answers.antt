use Rattle.std.proofs.Common.{ap, subst}
use Rattle.sg_value.specs.Known.{named}
use Rattle.sg_value.specs.Plain.{AreDistinct, contents, thing_at}
use Rattle.sg_value.specs.Data.{data_map}
use Rattle.sg_value.proofs.OneStore.{data_map-same}
use Rattle.sg_store.proofs.Interning.{known_distinct}
use Rattle.sg_store.proofs.ids.Ids.equal.Goals as goal

pub returns : goal.returns
returns c =
    let names = named c.args.self.now in
    let inv = c.self.invariant in
    let distinct = subst (λ l. AreDistinct (named l)) c.self.view_is (known_distinct c.self.inside.keys.keys inv.unique c.self.inside.ideals.keys inv.ideals_fit inv.ideals_unique) in (
      (λ t. ap (data_map (thing_at names)) (c.equal.ensures.0 t)),
      (λ e. c.equal.ensures.1 (data_map-same names distinct (contents c.args.a.now) (contents c.args.b.now) c.requires.left c.requires.right e)),
    )
