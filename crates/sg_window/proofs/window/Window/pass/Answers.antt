use Rattle.std.proofs.Common.{◌<◌, length, ap, sym, ◌∙◌, arith}
use Rattle.sg_cut.specs.Lines.{count_of_line_feeds}
use Rattle.sg_window.specs.Held.{Held}
use Rattle.sg_window.proofs.Passed.{feeds-sign}
use Rattle.sg_window.proofs.Searching.{searched-none}
use Rattle.sg_window.proofs.window.Window.pass.Goals as goal

pub invariant_of-self : goal.invariant_of-self
invariant_of-self c =
    let fewer : count_of_line_feeds c.rest-rest.result.now < length c.rest-rest.result.now = feeds-sign c.rest-rest.result.now (sym c.ends_in_comment.ensures ∙ c.if-ends_in_comment.true) in
    let one = ap (λ (h : Held). length h.rest) c.keep_sign.ensures in
    let held = ap length c.rest-rest.ensures.rest in
    (omega (arith, fewer, one, held, c.line_feeds.ensures, c.self.invariant.0), c.self.invariant.1, searched-none c.keep_sign.new.self.rest)
