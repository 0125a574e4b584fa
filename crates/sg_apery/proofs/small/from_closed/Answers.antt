use Rattle.std.proofs.Common.{◌≡◌, ℕ, ◌↔◌, List, sym, subst}
use Rattle.std.proofs.lemmas.Result.{IfOk-weaker, IfErr-weaker}
use Rattle.sg_defs.specs.Membership.{Generates}
use Rattle.sg_classes.specs.Classes.{IsAboveEntry, IsKunz}
use Rattle.sg_classes.proofs.EntryLemmas.{generates-iff}
use Rattle.sg_small.specs.Sets.{IsInSmall}
use Rattle.sg_small.proofs.TrimLemmas.{small-too_large_least, small-too_large_gap}
use Rattle.sg_apery.specs.Fit.{IsSizeFault}
use Rattle.sg_apery.proofs.CommonLemmas.{size_fault-iff}
use Rattle.sg_apery.proofs.small.from_closed.Goals as goal

pub returns-then-multiplicity-gt-MULTIPLICITY_LIMIT-clause-refused : goal.returns-then-multiplicity-gt-MULTIPLICITY_LIMIT-clause-refused
returns-then-multiplicity-gt-MULTIPLICITY_LIMIT-clause-refused c =
    small-too_large_least c.args.list.now c.requires.list c.least_positive-multiplicity.result c.requires.closed c.if-multiplicity-gt-MULTIPLICITY_LIMIT.true c.least_positive-multiplicity.ensures.least

pub returns-then-conductor-gt-APERY_ENTRY_LIMIT-clause-refused : goal.returns-then-conductor-gt-APERY_ENTRY_LIMIT-clause-refused
returns-then-conductor-gt-APERY_ENTRY_LIMIT-clause-refused c =
    small-too_large_gap c.args.list.now c.requires.list c.requires.closed c.if-conductor-gt-APERY_ENTRY_LIMIT.true c.requires.gap

pub from_kunz-requires : goal.from_kunz-requires
from_kunz-requires c = subst IsKunz (sym c.deref.ensures.value) c.in_ok-table.ensures.kunz

-- the condition by the entries of the list
same : (A xs ys : List ℕ) → xs ≡ ys → ((n : ℕ) → IsInSmall A n ↔ IsAboveEntry ys n) → (n : ℕ) → IsInSmall A n ↔ IsAboveEntry xs n
same A xs ys e h = subst (λ l. (n : ℕ) → IsInSmall A n ↔ IsAboveEntry l n) (sym e) h

pub returns-clause-generated : goal.returns-clause-generated
returns-clause-generated c =
    let a = c.args.list.now in
    let list = c.deref.result.now in
    IfOk-weaker c.from_kunz.result (λ m. Generates (IsAboveEntry list) m) (λ m. Generates (IsInSmall a) m)
    (generates-iff (IsInSmall a) (IsAboveEntry list) (same a list c.in_ok-table.table.items c.deref.ensures.value c.in_ok-table.ensures.same)) c.from_kunz.ensures.generated

pub returns-clause-refused : goal.returns-clause-refused
returns-clause-refused c =
    let a = c.args.list.now in
    let list = c.deref.result.now in
    IfErr-weaker c.from_kunz.result (IsSizeFault (IsAboveEntry list)) (IsSizeFault (IsInSmall a))
    (size_fault-iff (IsInSmall a) (IsAboveEntry list) (same a list c.in_ok-table.table.items c.deref.ensures.value c.in_ok-table.ensures.same)) c.from_kunz.ensures.refused
