use Rattle.std.proofs.Common.{ℕ, ◌↔◌, sym, subst}
use Rattle.std.specs.Prelude.{Contains}
use Rattle.std.proofs.lemmas.Result.{IfOk-weaker}
use Rattle.sg_defs.specs.Listings.{Lists}
use Rattle.sg_small.specs.Fundamental.{DividesAnEntry, IsDivisor, IsMarked}
use Rattle.sg_small.proofs.FundamentalLemmas.{lists-divisors}
use Rattle.sg_small.proofs.fundamental.divisors.Goals as goal

pub returns : goal.returns
returns c =
    let list = c.args.list.now in
    let marks = c.deref.result.now in
    let same = subst (λ m. (x : ℕ) → IsMarked m x ↔ Contains list x) (sym c.deref.ensures.value) c.in_ok-marks.ensures.marks in
    IfOk-weaker c.marked_divisors.result (λ v. Lists (IsDivisor marks) v.items) (λ v. Lists (DividesAnEntry list) v.items)
    (λ v h. lists-divisors list c.requires.positive marks same v.items h) c.marked_divisors.ensures
