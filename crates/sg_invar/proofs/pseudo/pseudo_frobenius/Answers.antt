use Rattle.std.proofs.Common.{◌≡◌, get_or, map, refl, pos, ◌-ℤ◌, arith}
use Rattle.std.proofs.lemmas.Result.{IfOk-weaker}
use Rattle.sg_defs.specs.Listings.{ListsIntegers}
use Rattle.sg_defs.specs.Invariants.{IsPseudoFrobenius}
use Rattle.sg_invar.proofs.MultiplicityLemmas.{multiplicity-member}
use Rattle.sg_invar.proofs.MaximalLemmas.{lists-sorted, small-sorted, lists-lowered}
use Rattle.sg_invar.proofs.pseudo.pseudo_frobenius.Goals as goal

pub lowered-requires-clause-entries : goal.lowered-requires-clause-entries
lowered-requires-clause-entries c =
    let m = get_or c.args.table.now 0 0 in
    rw c.deref.ensures.value
    (small-sorted c.args.table.now m m c.in_ok-maximal.maximal.items c.sort_unstable.new.self.items c.in_ok-maximal.ensures c.sort_unstable.ensures.permutation)

pub returns : goal.returns
returns c =
    let G = c.args.table.now in
    let m = c.multiplicity.result in
    let first = c.multiplicity.ensures.first in
    let positive = c.multiplicity.ensures.positive in
    let sorted = c.sort_unstable.new.self.items in
    let all = lists-sorted G (get_or G 0 0) c.in_ok-maximal.maximal.items sorted (omega (arith, first, positive)) c.in_ok-maximal.ensures
    c.sort_unstable.ensures.permutation c.sort_unstable.ensures.sorted in
    let lists = lists-lowered G (get_or G 0 0) sorted (omega (arith, first, positive)) (multiplicity-member G (get_or G 0 0) (omega (arith, first, positive)) refl) all in
    IfOk-weaker c.lowered.result (λ l. l ≡ map (λ w. pos w -ℤ pos m) c.deref.result.now) (ListsIntegers (IsPseudoFrobenius G))
    (λ l e. rw (e, c.deref.ensures.value, first) lists) c.lowered.ensures
