-- Natural numbers that lists of integers have, as what rows tell.
use Rattle.std.proofs.Common.{◌≡◌, ℕ, ℤ, pos, List, [], Result, refl}
use Rattle.sg_value.specs.Data.{int}
use Rattle.sg_rows.specs.Made.{Tells}
use Rattle.sg_rows.specs.Values.{answers, a_natural}
use Rattle.sg_rows.specs.declared.fault.CallFault.{CallFault}
use Rattle.sg_rows.specs.declared.made.Made.{Made}
use Rattle.sg_rows.proofs.Telling.{tells_in}
use Rattle.sg_rows_lists.specs.Lists.{a_number}

pub number_told : (P : ℕ → Type 0) (zs : List ℤ) (n : ℕ) (r : Result Made CallFault) → (zs ≡ [] → ⊥) → P n → Tells r (answers (λ d. d ≡ int (pos n))) → Tells r (a_number P zs)
number_told P zs n r some h = tells_in (int (pos n)) (record (answers (a_natural P)) { bad = zs ≡ [] }) r (record { size = λ e. e; bad = some; limit = λ e. e; many = λ e. e; budget = λ e. e }) (n, refl, h)
