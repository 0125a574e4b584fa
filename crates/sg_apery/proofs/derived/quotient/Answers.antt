use Rattle.std.proofs.Common.{◌≡◌, ℕ, ◌↔◌, List, sym, subst, arith}
use Rattle.std.proofs.lemmas.Result.{IfOk-weaker, IfErr-weaker}
use Rattle.sg_defs.specs.Membership.{Generates}
use Rattle.sg_classes.specs.Classes.{IsAboveEntry, IsKunz}
use Rattle.sg_classes.proofs.TableLemmas.{table-zero}
use Rattle.sg_classes.proofs.EntryLemmas.{generates-iff, too_large-iff}
use Rattle.sg_apery.specs.Conditions.{IsInQuotient, IsQuotientRefused}
use Rattle.sg_apery.specs.Fit.{IsSizeFault}
use Rattle.sg_apery.specs.declared.fault.TableFault.{TableFault}
use Rattle.sg_apery.specs.declared.fault.TableFault.TheVariants.{BadArgument, TooLarge, Memory}
use Rattle.sg_apery.proofs.QuotientLemmas.{quotient-member, quotient-kunz}
use Rattle.sg_apery.proofs.derived.quotient.Goals as goal

pub quotient_list-requires-clause-zero : goal.quotient_list-requires-clause-zero
quotient_list-requires-clause-zero c = table-zero c.args.a.now c.apery.result.now c.apery.ensures.semigroup c.apery.ensures.entries c.apery.ensures.apery

pub from_kunz-requires : goal.from_kunz-requires
from_kunz-requires c =
    subst IsKunz (sym c.deref.ensures.value)
    (quotient-kunz c.args.a.now c.apery.result.now c.in_ok-list.list.items c.args.d c.apery.ensures.semigroup c.apery.ensures.entries c.apery.ensures.apery c.in_ok-list.ensures.classes c.in_ok-list.ensures.same)

-- the faults of the quotient
faults : (A : List ℕ) (d : ℕ) (xs : List ℕ) → (d ≡ 0 → ⊥) → ((n : ℕ) → IsInQuotient A d n ↔ IsAboveEntry xs n) → (f : TableFault) → IsSizeFault (IsAboveEntry xs) f → IsQuotientRefused A d f
faults A d xs some same BadArgument h = absurd h
faults A d xs some same TooLarge h = (omega arith, too_large-iff (IsInQuotient A d) (IsAboveEntry xs) same h)
faults A d xs some same (Memory e) h = tt

pub returns-clause-generated : goal.returns-clause-generated
returns-clause-generated c =
    let a = c.args.a.now in
    let d = c.args.d in
    let list = c.deref.result.now in
    let member = quotient-member a c.apery.result.now c.in_ok-list.list.items d c.apery.ensures.semigroup c.apery.ensures.entries c.apery.ensures.apery c.in_ok-list.ensures.classes c.in_ok-list.ensures.same in
    let same : (n : ℕ) → IsInQuotient a d n ↔ IsAboveEntry list n = subst (λ xs. (n : ℕ) → IsInQuotient a d n ↔ IsAboveEntry xs n) (sym c.deref.ensures.value) member in
    IfOk-weaker c.from_kunz.result (λ m. Generates (IsAboveEntry list) m) (λ m. Generates (IsInQuotient a d) m)
    (generates-iff (IsInQuotient a d) (IsAboveEntry list) same) c.from_kunz.ensures.generated

pub returns-clause-refused : goal.returns-clause-refused
returns-clause-refused c =
    let a = c.args.a.now in
    let d = c.args.d in
    let list = c.deref.result.now in
    let member = quotient-member a c.apery.result.now c.in_ok-list.list.items d c.apery.ensures.semigroup c.apery.ensures.entries c.apery.ensures.apery c.in_ok-list.ensures.classes c.in_ok-list.ensures.same in
    let same : (n : ℕ) → IsInQuotient a d n ↔ IsAboveEntry list n = subst (λ xs. (n : ℕ) → IsInQuotient a d n ↔ IsAboveEntry xs n) (sym c.deref.ensures.value) member in
    IfErr-weaker c.from_kunz.result (IsSizeFault (IsAboveEntry list)) (IsQuotientRefused a d) (faults a d list c.if-d-eq0.false same) c.from_kunz.ensures.refused
