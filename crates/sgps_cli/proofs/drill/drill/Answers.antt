use Rattle.std.proofs.Common.{◌≡◌, ℕ, ◌==◌, List, [], ◌∷◌, length, true, Option, None, Some, refl, sym, ap, subst, ◌∙◌, inl, inr, arith}
use Rattle.sg_drill.specs.Script.{drill_script}
use Rattle.sg_drill.specs.Tally.{printed}
use Rattle.sg_io.specs.Faults.{Rose}
use Rattle.sg_io.specs.Inputs.{Input, input_named, missing_after}
use Rattle.sg_io.specs.MemSource.{inputs, left, fault_count, missing_count, is_sure}
use Rattle.sg_io.specs.MemLaws.{source_sure_tells}
use Rattle.sgps_cli.specs.Playing.{Begun, Concludes}
use Rattle.sgps_cli.specs.Written.{Sinks}
use Rattle.sgps_cli.proofs.Beginning.{of-ok}
use Rattle.sgps_cli.proofs.Drilling.{drills}
use Rattle.sgps_cli.proofs.drill.drill.Goals as goal

-- the one input of a source over memory
only-input : List ℕ → List Input
only-input bytes = record { name = None; bytes = bytes } ∷ []

-- no count rose to 0
none-rises : (before now : ℕ) → now ≡ 0 → Rose before now → ⊥
none-rises before now zero rose = omega arith

pub returns-clause-drills : goal.returns-clause-drills
unfolding only-input
returns-clause-drills c =
    let plays = c.play.ensures.plays in
    let script = drill_script c.args.statements in
    let text : c.as_slice.result.now ≡ script = c.as_slice.ensures ∙ c.in-Ok.ensures in
    let all : inputs c.in-Ok-new.source ≡ only-input script = c.in-Ok-new.ensures.inputs ∙ ap only-input text in
    let begun : Some (left c.begin.new.self) ≡ Some script = of-ok c.begin.result (sym c.is_err.ensures.value ∙ c.if-is_err.false) c.begin.ensures.whole ∙ ap (input_named None) all in
    let sure : is_sure c.begin.new.self ≡ true = ap (λ f. length f == 0) c.begin.ensures.others.same_failing ∙ c.in-Ok-new.ensures.sure refl in
    let missing : missing_count c.play.new.source ≡ 0 =
    c.play.ensures.missing ∙ c.begin.ensures.missing ∙ ap (λ i. missing_after (Some i) None (missing_count c.in-Ok-new.source)) all ∙ c.in-Ok-new.ensures.missing in
    let faults : fault_count c.play.new.source ≡ 0 = (source_sure_tells c.play.new.source (c.play.ensures.source_sure ∙ sure)).1 ∙ missing in
    let passed : Option (List ℕ) = Some (printed c.new-passed.result) in
    let now : Sinks = record { on_out = Some (printed c.play.new.out); on_err = Some (printed c.play.new.err) } in
    let from : Option (List ℕ) → List ℕ → Begun = λ a o. record { plan = c.args.plan; all = a; sinks = record { on_out = Some o; on_err = passed } } in
    let from_empty : Concludes c.play.result.cause (from (Some (left c.begin.new.self)) []) plays.0 (Some (left c.play.new.source)) now =
    subst (λ o. Concludes c.play.result.cause (from (Some (left c.begin.new.self)) o) plays.0 (Some (left c.play.new.source)) now) c.requires.empty plays.2 in (
      plays.0,
      plays.1,
      drills c.play.result.cause c.args.plan c.args.statements plays.0 (Some (left c.play.new.source)) passed now.on_err (printed c.play.new.out) c.requires.few
          (subst (λ a. Concludes c.play.result.cause (from a []) plays.0 (Some (left c.play.new.source)) now) begun from_empty)
          (λ e. none-rises _ _ faults (c.play.ensures.read_fault e))
          (λ e. elim (c.play.ensures.write_fault e) [ inl r ↦ none-rises 0 0 refl r | inr r ↦ none-rises 0 0 refl r ]),
    )
