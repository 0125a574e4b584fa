use Rattle.std.proofs.Common.{◌≡◌, ℕ, List, sym, subst}
use Rattle.std.specs.Prelude.{Contains}
use Rattle.std.proofs.lemmas.Result.{IfOk-weaker, IfErr-weaker}
use Rattle.sg_defs.specs.Listings.{Lists}
use Rattle.sg_defs.specs.Membership.{Generates}
use Rattle.sg_classes.proofs.EntryLemmas.{generates-iff}
use Rattle.sg_small.specs.Sets.{IsOutside}
use Rattle.sg_small.specs.Fundamental.{DividesAnEntry, DividesNone}
use Rattle.sg_small.proofs.FundamentalLemmas.{not_true, zero-divides}
use Rattle.sg_apery.specs.Conditions.{AreGapsRefused}
use Rattle.sg_apery.specs.Fundamental.{AreFundamentalRefused}
use Rattle.sg_apery.proofs.FundamentalLemmas.{fundamental-faults, outside-divides, zero-fundamental}
use Rattle.sg_apery.proofs.table.Table.from_fundamental_gaps.Goals as goal

-- the divisors, by an equation
listed : (list xs ys : List ℕ) → xs ≡ ys → Lists (DividesAnEntry list) ys → Lists (DividesAnEntry list) xs
listed list xs ys e h = subst (Lists (DividesAnEntry list)) (sym e) h

pub returns-then-has_zero-clause-refused : goal.returns-then-has_zero-clause-refused
returns-then-has_zero-clause-refused c =
    let list = c.args.list.now in
    (c.are_within.ensures.all c.if-not-are_within.false, zero-fundamental list (c.has_zero.ensures.0 c.if-has_zero.true))

pub from_ascending_gaps-requires-clause-positive : goal.from_ascending_gaps-requires-clause-positive
from_ascending_gaps-requires-clause-positive c = λ h.
    let list = c.args.list.now in
    let gaps = c.deref.result.now in
    let l = listed list gaps c.in_ok-gaps.gaps.items c.deref.ensures.value c.in_ok-gaps.ensures in
    let positive = λ (q : Contains list 0). not_true c.has_zero.result c.if-has_zero.false (c.has_zero.ensures.1 q) in
    zero-divides list positive ((l.exactly 0).0 h)

pub returns-clause-generated : goal.returns-clause-generated
returns-clause-generated c =
    let list = c.args.list.now in
    let gaps = c.deref.result.now in
    let l = listed list gaps c.in_ok-gaps.gaps.items c.deref.ensures.value c.in_ok-gaps.ensures in
    IfOk-weaker c.from_ascending_gaps.result (λ m. Generates (IsOutside gaps) m) (λ m. Generates (DividesNone list) m)
    (generates-iff (DividesNone list) (IsOutside gaps) (outside-divides list gaps l)) c.from_ascending_gaps.ensures.generated

pub returns-clause-refused : goal.returns-clause-refused
returns-clause-refused c =
    let list = c.args.list.now in
    let gaps = c.deref.result.now in
    let l = listed list gaps c.in_ok-gaps.gaps.items c.deref.ensures.value c.in_ok-gaps.ensures in
    IfErr-weaker c.from_ascending_gaps.result (AreGapsRefused gaps) (AreFundamentalRefused list)
    (fundamental-faults list gaps (c.are_within.ensures.all c.if-not-are_within.false) l) c.from_ascending_gaps.ensures.refused
