use Rattle.std.proofs.Common.{◌+◌, ◌++◌, ◌∷◌, [], ap, sym, ◌∙◌, rules, drop}
use Rattle.std.specs.Prelude.{FitsSigned}
use Rattle.std.specs.Int.{w64}
use Rattle.std.proofs.lemmas.Int.{to_z-of_z}
use Rattle.sg_value.specs.Plain.{contents_of_all}
use Rattle.sg_rows.specs.Kinds.{integers}
use Rattle.sg_rows.proofs.IntegerLemmas.{behind, behind-none, integers_missed, integers_more, integers_all}
use Rattle.sg_rows.proofs.kinds.integers_among.Goals as goal

pub loop-entry-init : goal.loop-entry-init
loop-entry-init c = let all = integers (contents_of_all c.args.entries.now) in sym (behind-none all) ∙ ap (λ zs. behind zs all) (sym c.new-found.ensures)

pub returns-in_default : goal.returns-in_default
returns-in_default c = integers_missed c.args.entries.now c.loop-entry.found c.loop-entry.entry-index c.entry-item.result c.loop-entry-test.true c.entry-item.is c.loop-entry.invariant (sym c.in_default.ensures)

pub loop-entry-preserved : goal.loop-entry-preserved
loop-entry-preserved c =
    let z = c.in-Some.z in
    let fit : FitsSigned w64 z = search rules in
    let pushed = c.in_ok-push.ensures.ok ∙ ap (λ y. c.loop-entry.found ++ y ∷ []) (to_z-of_z w64 z fit) in
    integers_more c.args.entries.now c.loop-entry.found c.loop-entry.entry-index c.entry-item.result c.loop-entry-test.true c.entry-item.is c.loop-entry.invariant z (sym c.in-Some.ensures)
    ∙ ap (λ zs. behind zs (integers (contents_of_all (drop (c.loop-entry.entry-index + 1) c.args.entries.now)))) (sym pushed)

pub returns : goal.returns
returns c = integers_all c.args.entries.now c.loop-entry.found c.loop-entry.entry-index c.loop-entry-test.false c.loop-entry.invariant
