use Rattle.std.proofs.Common.{◌≡◌, ℕ, ◌↔◌, List, sym, subst, arith}
use Rattle.std.proofs.lemmas.Result.{IfOk-weaker, IfErr-weaker}
use Rattle.sg_defs.specs.Membership.{Generates}
use Rattle.sg_classes.proofs.EntryLemmas.{generates-iff}
use Rattle.sg_small.specs.Sets.{IsInSmall}
use Rattle.sg_small.specs.Modular.{AreModular, IsProportional}
use Rattle.sg_small.proofs.ModularLemmas.{proportional-sums}
use Rattle.sg_apery.specs.Fit.{IsSizeFault}
use Rattle.sg_apery.specs.Modular.{IsProportionalRefused}
use Rattle.sg_apery.proofs.ModularLemmas.{proportional-faults}
use Rattle.sg_apery.proofs.SizeLemmas.{closed-iff}
use Rattle.sg_apery.proofs.table.Table.prop_modular.Goals as goal

-- the condition by the entries of the list
same : (a b c : ℕ) (xs ys : List ℕ) → xs ≡ ys → ((n : ℕ) → IsProportional a b c n ↔ IsInSmall ys n) → (n : ℕ) → IsProportional a b c n ↔ IsInSmall xs n
same a b c xs ys e h = subst (λ l. (n : ℕ) → IsProportional a b c n ↔ IsInSmall l n) (sym e) h

pub from_members-requires-clause-closed : goal.from_members-requires-clause-closed
from_members-requires-clause-closed c =
    let P = IsProportional c.args.a c.args.b c.args.c in
    let list = c.deref.result.now in
    let h = same c.args.a c.args.b c.args.c list c.in_ok-list.list.items c.deref.ensures.value c.in_ok-list.ensures.same in
    closed-iff (IsInSmall list) P (λ n. ((h n).1, (h n).0)) (proportional-sums c.args.a c.args.b c.args.c)

pub returns-clause-generated : goal.returns-clause-generated
returns-clause-generated c =
    let P = IsProportional c.args.a c.args.b c.args.c in
    let list = c.deref.result.now in
    let h = same c.args.a c.args.b c.args.c list c.in_ok-list.list.items c.deref.ensures.value c.in_ok-list.ensures.same in
    IfOk-weaker c.from_members.result (λ m. Generates (IsInSmall list) m) (λ m. Generates P m) (generates-iff P (IsInSmall list) h) c.from_members.ensures.generated

pub returns-clause-refused : goal.returns-clause-refused
returns-clause-refused c =
    let list = c.deref.result.now in
    let h = same c.args.a c.args.b c.args.c list c.in_ok-list.list.items c.deref.ensures.value c.in_ok-list.ensures.same in
    let accepted : AreModular c.args.a c.args.b c.args.c = record {
      within = c.if-b-gt-MODULUS_LIMIT.false;
      first = omega arith;
      modulus = omega arith;
      factor = omega arith;
    } in
    IfErr-weaker c.from_members.result (IsSizeFault (IsInSmall list)) (IsProportionalRefused c.args.a c.args.b c.args.c)
    (proportional-faults c.args.a c.args.b c.args.c (IsInSmall list) accepted h) c.from_members.ensures.refused
