use Rattle.std.proofs.Common.{length, ap, sym, subst, arith, length-append}
use Rattle.sg_window.specs.Held.{Held}
use Rattle.sg_window.specs.Searched.{IsSearched}
use Rattle.sg_window.proofs.Searching.{searched-append}
use Rattle.sg_window.proofs.window.Window.fill.Goals as goal

pub invariant_of-self-2 : goal.invariant_of-self-2
invariant_of-self-2 g c =
    let r = c.in_ok-count.ensures.reads in
    let old = c.self.inside.held in
    let size = ap (λ (h : Held). length h.rest) r.1.1 in (
      omega (arith, size, r.1.0, length-append old.rest r.0, c.self.invariant.0),
      omega (arith, c.in_ok-count.ensures.most, c.self.invariant.1),
      subst (λ (h : Held). IsSearched h.rest c.self.inside.searched) (sym r.1.1) (searched-append old.rest r.0 c.self.inside.searched c.self.invariant.2),
    )
