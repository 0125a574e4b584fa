use Rattle.std.proofs.Common.{◌≡◌, ◌-◌, ◌<◌, false, length, take, drop, ap, sym, ◌∙◌, arith, length-drop}
use Rattle.std.specs.Prelude.{◌==◌}
use Rattle.std.specs.List.{list_any}
use Rattle.std.proofs.lemmas.Bool.{not-true}
use Rattle.std.proofs.lemmas.List.{take_all}
use Rattle.sg_cut.specs.declared.limits.TheConstants.{STATEMENT_LIMIT}
use Rattle.sg_window.specs.Window.{State}
use Rattle.sg_window.proofs.Searching.{stays_open}
use Rattle.sg_window.proofs.window.Window.is_still_open.Goals as goal

pub returns-then-rest-lt-STATEMENT_LIMIT : goal.returns-then-rest-lt-STATEMENT_LIMIT
returns-then-rest-lt-STATEMENT_LIMIT c = λ h.
    let n = c.self.inside.searched in
    let rest = c.rest-rest.result.now in
    let seen : list_any (λ b. b == 59) (take (length rest - n) (drop n rest)) ≡ false = sym c.contains.ensures.value ∙ not-true _ h in
    let all = take_all (length rest - n) (drop n rest) (omega (arith, length-drop n rest)) in
    let none = sym (ap (list_any (λ b. b == 59)) all) ∙ seen in
    let same = ap (λ xs. list_any (λ b. b == 59) (drop n xs)) (sym c.rest-rest.ensures.rest) ∙ none in
    let few : length c.self.inside.held.rest < STATEMENT_LIMIT = omega (arith, c.if-rest-lt-STATEMENT_LIMIT.true, ap length c.rest-rest.ensures.rest) in
    stays_open c.args.self.now c.self.inside.held.rest n (ap (λ (w : State). w.rest) c.self.view_is) (sym (ap (λ (w : State). w.ended) c.self.view_is) ∙ c.if-self.false) c.self.invariant.2 (omega (arith, c.if-self-eq0.false)) few same
