use Rattle.std.proofs.Common.{◌≡◌, Some, sym, ◌∙◌, rules}
use Rattle.std.specs.Prelude.{FitsSigned}
use Rattle.std.specs.Int.{w64}
use Rattle.sg_value.specs.Plain.{contents_of_all}
use Rattle.sg_rows.proofs.Signed.{of_bits_right}
use Rattle.sg_meaning.specs.Entries.{as_natural}
use Rattle.sg_eval.proofs.Placed.{index_found, index_out, entry_natural}
use Rattle.sg_eval.proofs.answers.index.Goals as goal

pub returns-in_ok-try_clone-in-Some-entry_at : goal.returns-in_ok-try_clone-in-Some-entry_at
returns-in_ok-try_clone-in-Some-entry_at c = λ s is_known.
    let z = c.in-Some-integer_of.z in
    let ds = contents_of_all c.in-Some.entries.now in
    let fit : FitsSigned w64 z = search rules in
    let natural : as_natural z ≡ Some c.in-Some-natural_of.n = of_bits_right (λ y. as_natural y ≡ Some c.in-Some-natural_of.n) z fit (sym c.in-Some-natural_of.ensures) in
    index_found s c.args.list.now c.args.place.now ds z c.in-Some.ensures (sym c.in-Some-integer_of.ensures)
    c.in-Some-entry_at.entry.now c.in_ok-try_clone-in-Some-entry_at.field-0 is_known (entry_natural ds z c.in-Some-natural_of.n natural ∙ c.in-Some-entry_at.ensures) c.in_ok-try_clone-in-Some-entry_at.ensures

pub returns-in-None : goal.returns-in-None
returns-in-None c = λ s is_known.
    let z = c.in-Some-integer_of.z in
    let ds = contents_of_all c.in-Some.entries.now in
    let fit : FitsSigned w64 z = search rules in
    let natural : as_natural z ≡ Some c.in-Some-natural_of.n = of_bits_right (λ y. as_natural y ≡ Some c.in-Some-natural_of.n) z fit (sym c.in-Some-natural_of.ensures) in
    index_out s c.args.list.now c.args.place.now ds z c.in-Some.ensures (sym c.in-Some-integer_of.ensures) (entry_natural ds z c.in-Some-natural_of.n natural ∙ c.in-None.ensures)
