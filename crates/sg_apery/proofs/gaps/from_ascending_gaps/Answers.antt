use Rattle.std.proofs.Common.{◌≡◌, ℕ, ◌↔◌, List, refl, sym, subst}
use Rattle.std.proofs.lemmas.Result.{IfOk-weaker, IfErr-weaker}
use Rattle.sg_defs.specs.Membership.{Generates}
use Rattle.sg_classes.proofs.EntryLemmas.{generates-iff}
use Rattle.sg_small.specs.Sets.{IsInSmall, IsOutside}
use Rattle.sg_small.specs.Small.{AreSmallElements}
use Rattle.sg_apery.specs.Conditions.{AreGapsRefused, IsClosedRefused}
use Rattle.sg_apery.proofs.GapLemmas.{gaps-refused, too-few}
use Rattle.sg_apery.proofs.gaps.from_ascending_gaps.Goals as goal

pub returns-then-not-are_below_double-clause-refused : goal.returns-then-not-are_below_double-clause-refused
returns-then-not-are_below_double-clause-refused c =
    let p = c.if-not-are_below_double.ensures.past refl in
    too-few c.args.gaps.now p.0 p.1 p.2

pub from_ascending-requires : goal.from_ascending-requires
from_ascending-requires c = subst AreSmallElements (sym c.deref.ensures.value) c.in_ok-list.ensures.list

-- the naturals outside the gaps, by the list
same : (gaps xs ys : List ℕ) → xs ≡ ys → ((n : ℕ) → IsOutside gaps n ↔ IsInSmall ys n) → (n : ℕ) → IsOutside gaps n ↔ IsInSmall xs n
same gaps xs ys e h = subst (λ l. (n : ℕ) → IsOutside gaps n ↔ IsInSmall l n) (sym e) h

pub returns-clause-generated : goal.returns-clause-generated
returns-clause-generated c =
    let gaps = c.args.gaps.now in
    let list = c.deref.result.now in
    IfOk-weaker c.from_ascending.result (λ m. Generates (IsInSmall list) m) (λ m. Generates (IsOutside gaps) m)
    (generates-iff (IsOutside gaps) (IsInSmall list) (same gaps list c.in_ok-list.list.items c.deref.ensures.value c.in_ok-list.ensures.same)) c.from_ascending.ensures.generated

pub returns-clause-refused : goal.returns-clause-refused
returns-clause-refused c =
    let gaps = c.args.gaps.now in
    let list = c.deref.result.now in
    IfErr-weaker c.from_ascending.result (IsClosedRefused (IsInSmall list)) (AreGapsRefused gaps)
    (gaps-refused gaps (IsInSmall list) (same gaps list c.in_ok-list.list.items c.deref.ensures.value c.in_ok-list.ensures.same)) c.from_ascending.ensures.refused
