use Rattle.std.proofs.Common.{ap}
use Rattle.sg_value.specs.Data.{data_map}
use Rattle.sg_value.specs.Plain.{thing_at}
use Rattle.sg_value.proofs.OneStore.{data_map-same}
use Rattle.sg_value.proofs.laws.equality_over_one_store.Goals as goal

pub returns : goal.returns
returns c names v w distinct known_v known_w =
    (ap (data_map (thing_at names)), data_map-same names distinct _ _ known_v known_w)
