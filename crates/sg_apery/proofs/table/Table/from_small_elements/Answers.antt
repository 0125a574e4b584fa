use Rattle.std.proofs.Common.{refl}
use Rattle.std.proofs.lemmas.Result.{IfOk-weaker, IfErr-weaker}
use Rattle.sg_defs.specs.Membership.{Generates}
use Rattle.sg_classes.proofs.EntryLemmas.{generates-iff}
use Rattle.sg_small.specs.Sets.{IsClosedSet, IsInSmall}
use Rattle.sg_apery.specs.Conditions.{AreSmallAccepted, AreSmallRefused, IsClosedRefused}
use Rattle.sg_apery.proofs.SizeLemmas.{ascending-small, closed-iff, entries-same, keeps-sorted, only-sorted, small-refused}
use Rattle.sg_apery.proofs.table.Table.from_small_elements.Goals as goal

pub from_ascending-requires : goal.from_ascending-requires
from_ascending-requires c =
    let list = c.args.list.now in
    let items = c.in_ok-elements.elements.items in
    let sorted = c.sort_distinct.new.entries.items in
    let value = c.deref.result.now in
    let keeps = keeps-sorted list items sorted value c.in_ok-elements.ensures.items c.deref.ensures.value c.sort_distinct.ensures.keeps in
    let only = only-sorted list items sorted value c.in_ok-elements.ensures.items c.deref.ensures.value c.sort_distinct.ensures.adds_none in
    ascending-small list value keeps only (rw c.deref.ensures.value c.sort_distinct.ensures.ascending) (c.if-not-has_zero.ensures.0 refl)

pub returns-clause-generated : goal.returns-clause-generated
returns-clause-generated c =
    let list = c.args.list.now in
    let items = c.in_ok-elements.elements.items in
    let sorted = c.sort_distinct.new.entries.items in
    let value = c.deref.result.now in
    let keeps = keeps-sorted list items sorted value c.in_ok-elements.ensures.items c.deref.ensures.value c.sort_distinct.ensures.keeps in
    let only = only-sorted list items sorted value c.in_ok-elements.ensures.items c.deref.ensures.value c.sort_distinct.ensures.adds_none in
    IfOk-weaker c.from_ascending.result (λ m. Generates (IsInSmall value) m) (λ m. Generates (IsInSmall list) m)
    (generates-iff (IsInSmall list) (IsInSmall value) (entries-same list value keeps only)) c.from_ascending.ensures.generated

pub returns-clause-accepted : goal.returns-clause-accepted
returns-clause-accepted c =
    let list = c.args.list.now in
    let items = c.in_ok-elements.elements.items in
    let sorted = c.sort_distinct.new.entries.items in
    let value = c.deref.result.now in
    let keeps = keeps-sorted list items sorted value c.in_ok-elements.ensures.items c.deref.ensures.value c.sort_distinct.ensures.keeps in
    let only = only-sorted list items sorted value c.in_ok-elements.ensures.items c.deref.ensures.value c.sort_distinct.ensures.adds_none in
    IfOk-weaker c.from_ascending.result (λ m. IsClosedSet (IsInSmall value)) (λ m. AreSmallAccepted list)
    (λ m h. (c.if-not-has_zero.ensures.0 refl, closed-iff (IsInSmall list) (IsInSmall value) (entries-same list value keeps only) h)) c.from_ascending.ensures.closed

pub returns-clause-refused : goal.returns-clause-refused
returns-clause-refused c =
    let list = c.args.list.now in
    let items = c.in_ok-elements.elements.items in
    let sorted = c.sort_distinct.new.entries.items in
    let value = c.deref.result.now in
    let keeps = keeps-sorted list items sorted value c.in_ok-elements.ensures.items c.deref.ensures.value c.sort_distinct.ensures.keeps in
    let only = only-sorted list items sorted value c.in_ok-elements.ensures.items c.deref.ensures.value c.sort_distinct.ensures.adds_none in
    IfErr-weaker c.from_ascending.result (IsClosedRefused (IsInSmall value)) (AreSmallRefused list) (small-refused list value keeps only (c.if-not-has_zero.ensures.0 refl)) c.from_ascending.ensures.refused
