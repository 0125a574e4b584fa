use Rattle.std.proofs.Common.{◌≡◌, ◌∙◌, ℕ, sym, subst}
use Rattle.std.proofs.lemmas.Result.{IfOk-weaker}
use Rattle.sg_defs.specs.Listings.{Lists}
use Rattle.sg_defs.specs.Membership.{IsFactorization}
use Rattle.sg_laws_families.specs.PlaceGraph.{AreConnected}
use Rattle.sg_betti.proofs.SortLemmas.{lists-sorted}
use Rattle.sg_betti.proofs.graph.component.Goals as goal

pub returns : goal.returns
returns c =
    let P : ℕ → Type 0 = AreConnected (IsFactorization c.args.t.now c.args.n) c.args.root in
    let found = lists-sorted P c.run.new.self.reached.items c.sort_unstable.new.self.items c.dedup.new.self.items c.in_ok-run.ensures.inside c.sort_unstable.ensures.permutation c.sort_unstable.ensures.sorted c.dedup.ensures.filtered in
    IfOk-weaker c.from_slice.result (λ list. list ≡ c.deref.result.now) (Lists P) (λ list e. subst (Lists P) (sym (e ∙ c.deref.ensures.value)) found) c.from_slice.ensures
