use Rattle.std.proofs.Common.{◌<◌, ◌^◌, length, sym, rules}
use Rattle.sg_value.specs.Plain.{plain_of_all}
use Rattle.sg_rows.specs.Entries.{entry_count}
use Rattle.sg_rows.proofs.IntegerLemmas.{entry_count-plain}
use Rattle.sg_rows.proofs.Telling.{tells_this_natural}
use Rattle.sg_rows_lists.proofs.lists.length_of.Goals as goal

pub returns : goal.returns
returns c = λ names.
    let entries = c.args.entries.now in
    let small : length entries < 2 ^ 63 = search rules in
    tells_this_natural (length entries) (entry_count (plain_of_all names entries)) small (sym (entry_count-plain names entries))
