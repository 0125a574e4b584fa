use Rattle.std.proofs.Common.{◌+◌, ◌++◌, drop, ap, sym, ◌∙◌, append_assoc, append-nil}
use Rattle.sg_value.specs.Known.{named}
use Rattle.std.proofs.lemmas.List.{drop_all}
use Rattle.sg_value.specs.Plain.{plain, plain_of_all}
use Rattle.sg_value.specs.Text.{text_of}
use Rattle.sg_meaning.specs.Statements.{texts_of}
use Rattle.sg_eval.proofs.FoldLoop.{plain_of_all-drop, known_at}
use Rattle.sg_eval.proofs.machine.Machine.texts.Goals as goal

pub print_into-requires : goal.print_into-requires
print_into-requires c = record { known = known_at (named c.args.self.now.store.ids) c.args.values.now c.loop-value.value-index c.value-item.result c.loop-value-test.true c.value-item.is c.requires.known }

pub loop-value-init : goal.loop-value-init
loop-value-init c = ap (λ t. t ++ texts_of (plain_of_all (named c.args.self.now.store.ids) c.args.values.now)) c.new-text.ensures

pub loop-value-preserved : goal.loop-value-preserved
loop-value-preserved c =
    let names = named c.args.self.now.store.ids in
    let vs = c.args.values.now in
    let i = c.loop-value.value-index in
    let v = c.value-item.result in
    let rest = texts_of (plain_of_all names (drop (i + 1) vs)) in
    ap (λ t. t ++ rest) c.in_ok-print_into.ensures.ok
    ∙ (append_assoc c.loop-value.text (text_of (plain names v)) rest
    ∙ (ap (λ ds. c.loop-value.text ++ texts_of ds) (sym (plain_of_all-drop names vs i v c.loop-value-test.true c.value-item.is)) ∙ c.loop-value.invariant))

pub returns : goal.returns
returns c =
    let names = named c.args.self.now.store.ids in
    sym (append-nil c.loop-value.text) ∙ (ap (λ vs. c.loop-value.text ++ texts_of (plain_of_all names vs)) (sym (drop_all c.loop-value.value-index c.args.values.now c.loop-value-test.false)) ∙ c.loop-value.invariant)
