use Rattle.std.proofs.Common.{◌≡◌, Bool, true, false, refl, sym, subst}
use Rattle.std.proofs.lemmas.Result.{IfOk-weaker, IfErr-weaker}
use Rattle.sg_defs.specs.Membership.{Generates}
use Rattle.sg_classes.proofs.EntryLemmas.{generates-iff}
use Rattle.sg_small.specs.Sets.{IsOutside}
use Rattle.sg_apery.specs.Conditions.{AreGapsRefused}
use Rattle.sg_apery.proofs.GapLemmas.{gaps_refused-same, outside-same, zero-gap}
use Rattle.sg_apery.proofs.SizeLemmas.{keeps-sorted, only-sorted}
use Rattle.sg_apery.proofs.table.Table.from_gaps.Goals as goal

-- true where it is false
abbrev IsOn : Bool → Type 0
IsOn true = Unit {0}
IsOn false = ⊥

clash : (b : Bool) → b ≡ false → b ≡ true → ⊥
clash b f t = subst IsOn f (subst IsOn (sym t) tt)

pub returns-then-has_zero-clause-refused : goal.returns-then-has_zero-clause-refused
returns-then-has_zero-clause-refused c = zero-gap c.args.list.now (c.if-has_zero.ensures.0 refl)

pub from_ascending_gaps-requires-clause-ascending : goal.from_ascending_gaps-requires-clause-ascending
from_ascending_gaps-requires-clause-ascending c = rw c.deref.ensures.value c.sort_distinct.ensures.ascending

pub from_ascending_gaps-requires-clause-positive : goal.from_ascending_gaps-requires-clause-positive
from_ascending_gaps-requires-clause-positive c = λ h.
    let list = c.args.list.now in
    let items = c.in_ok-gaps.gaps.items in
    let sorted = c.sort_distinct.new.entries.items in
    let value = c.deref.result.now in
    let only = only-sorted list items sorted value c.in_ok-gaps.ensures.items c.deref.ensures.value c.sort_distinct.ensures.adds_none in
    clash c.has_zero.result c.if-has_zero.false (c.has_zero.ensures.1 (only 0 h))

pub returns-clause-generated : goal.returns-clause-generated
returns-clause-generated c =
    let list = c.args.list.now in
    let items = c.in_ok-gaps.gaps.items in
    let sorted = c.sort_distinct.new.entries.items in
    let value = c.deref.result.now in
    let keeps = keeps-sorted list items sorted value c.in_ok-gaps.ensures.items c.deref.ensures.value c.sort_distinct.ensures.keeps in
    let only = only-sorted list items sorted value c.in_ok-gaps.ensures.items c.deref.ensures.value c.sort_distinct.ensures.adds_none in
    IfOk-weaker c.from_ascending_gaps.result (λ m. Generates (IsOutside value) m) (λ m. Generates (IsOutside list) m)
    (generates-iff (IsOutside list) (IsOutside value) (outside-same list value keeps only)) c.from_ascending_gaps.ensures.generated

pub returns-clause-refused : goal.returns-clause-refused
returns-clause-refused c =
    let list = c.args.list.now in
    let items = c.in_ok-gaps.gaps.items in
    let sorted = c.sort_distinct.new.entries.items in
    let value = c.deref.result.now in
    let keeps = keeps-sorted list items sorted value c.in_ok-gaps.ensures.items c.deref.ensures.value c.sort_distinct.ensures.keeps in
    let only = only-sorted list items sorted value c.in_ok-gaps.ensures.items c.deref.ensures.value c.sort_distinct.ensures.adds_none in
    IfErr-weaker c.from_ascending_gaps.result (AreGapsRefused value) (AreGapsRefused list) (gaps_refused-same list value keeps only) c.from_ascending_gaps.ensures.refused
