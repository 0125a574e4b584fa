use Rattle.std.proofs.Common.{◌≡◌, ℕ, ◌↔◌, List, refl, sym, subst}
use Rattle.std.proofs.lemmas.Result.{IfOk-weaker, IfErr-weaker}
use Rattle.sg_defs.specs.Membership.{Generates}
use Rattle.sg_classes.specs.Classes.{IsAboveEntry, IsKunz}
use Rattle.sg_classes.proofs.TableLemmas.{table-long, table-member}
use Rattle.sg_classes.proofs.EntryLemmas.{generates-iff}
use Rattle.sg_classes.specs.declared.limits.TheConstants.{APERY_ENTRY_LIMIT}
use Rattle.sg_apery.specs.Conditions.{IsInBoth}
use Rattle.sg_apery.specs.Fit.{IsSizeFault}
use Rattle.sg_apery.proofs.CommonLemmas.{both-too_large, size_fault-iff}
use Rattle.sg_apery.proofs.derived.intersect.Goals as goal

pub common_member-requires-clause-first : goal.common_member-requires-clause-first
common_member-requires-clause-first c = table-long c.args.a.now c.apery.result.now c.apery.ensures.semigroup c.apery.ensures.entries

pub common_member-requires-clause-second : goal.common_member-requires-clause-second
common_member-requires-clause-second c = table-long c.args.b.now c.apery-2.result.now c.apery-2.ensures.semigroup c.apery-2.ensures.entries

pub returns-in_default-clause-refused : goal.returns-in_default-clause-refused
returns-in_default-clause-refused c =
    let s = c.apery.ensures in
    let t = c.apery-2.ensures in
    both-too_large c.args.a.now c.args.b.now c.apery.result.now c.apery-2.result.now APERY_ENTRY_LIMIT s.semigroup t.semigroup s.entries t.entries s.apery t.apery s.small t.small (c.in_default.ensures.none refl)

pub common_list-requires-clause-first : goal.common_list-requires-clause-first
common_list-requires-clause-first c =
    (table-member c.args.a.now c.apery.result.now c.apery.ensures.semigroup c.apery.ensures.entries c.apery.ensures.apery c.in-Some.modulus).1 c.in-Some.ensures.found.first

pub common_list-requires-clause-second : goal.common_list-requires-clause-second
common_list-requires-clause-second c =
    (table-member c.args.b.now c.apery-2.result.now c.apery-2.ensures.semigroup c.apery-2.ensures.entries c.apery-2.ensures.apery c.in-Some.modulus).1 c.in-Some.ensures.found.second

pub from_kunz-requires : goal.from_kunz-requires
from_kunz-requires c = subst IsKunz (sym c.deref.ensures.value) c.in_ok-list.ensures.kunz

-- the condition by the entries of the list
same : (A B xs ys : List ℕ) → xs ≡ ys → ((n : ℕ) → IsInBoth A B n ↔ IsAboveEntry ys n) → (n : ℕ) → IsInBoth A B n ↔ IsAboveEntry xs n
same A B xs ys e h = subst (λ l. (n : ℕ) → IsInBoth A B n ↔ IsAboveEntry l n) (sym e) h

pub returns-clause-generated : goal.returns-clause-generated
returns-clause-generated c =
    let a = c.args.a.now in
    let b = c.args.b.now in
    let list = c.deref.result.now in
    IfOk-weaker c.from_kunz.result (λ m. Generates (IsAboveEntry list) m) (λ m. Generates (IsInBoth a b) m)
    (generates-iff (IsInBoth a b) (IsAboveEntry list) (same a b list c.in_ok-list.list.items c.deref.ensures.value c.in_ok-list.ensures.same)) c.from_kunz.ensures.generated

pub returns-clause-refused : goal.returns-clause-refused
returns-clause-refused c =
    let a = c.args.a.now in
    let b = c.args.b.now in
    let list = c.deref.result.now in
    IfErr-weaker c.from_kunz.result (IsSizeFault (IsAboveEntry list)) (IsSizeFault (IsInBoth a b))
    (size_fault-iff (IsInBoth a b) (IsAboveEntry list) (same a b list c.in_ok-list.list.items c.deref.ensures.value c.in_ok-list.ensures.same)) c.from_kunz.ensures.refused
