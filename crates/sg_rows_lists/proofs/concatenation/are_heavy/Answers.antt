use Rattle.std.proofs.Common.{◌<◌, ◌^◌, length, arith, rules}
use Rattle.sg_value.specs.Data.{item}
use Rattle.sg_value.specs.Plain.{contents, contents_of_all}
use Rattle.sg_rows_lists.proofs.Joining.{weight-concatenated, entry_count-contents}
use Rattle.sg_rows_lists.proofs.concatenation.are_heavy.Goals as goal

pub returns : goal.returns
returns c = λ ds is.
    let vs = c.args.others.now in
    let whole = weight-concatenated (item (contents c.args.value.now) (contents_of_all vs)) ds is in
    let count = entry_count-contents vs in
    let few : length vs < 2 ^ 63 = search rules in
    let first = c.weight.ensures in
    let others = c.total_weight.ensures in
    let total = c.saturating_add-total.ensures in
    let rest = c.saturating_sub.ensures in
    ((λ t. let h = c.is_heavy.ensures.0 t in omega arith), (λ h. c.is_heavy.ensures.1 (omega arith)))
