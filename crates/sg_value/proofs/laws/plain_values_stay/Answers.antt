use Rattle.sg_value.proofs.OneStore.{data_map-kept}
use Rattle.sg_value.proofs.laws.plain_values_stay.Goals as goal

pub returns : goal.returns
returns c old new v kept known = data_map-kept old new kept _ known
