use Rattle.std.proofs.lemmas.Result.{IfOk-weaker, IfErr-weaker}
use Rattle.sg_defs.specs.Membership.{Generates}
use Rattle.sg_classes.proofs.EntryLemmas.{generates-iff}
use Rattle.sg_small.specs.Modular.{IsModular, IsProportional}
use Rattle.sg_small.proofs.ModularLemmas.{modular-proportional}
use Rattle.sg_apery.specs.Modular.{IsModularRefused, IsProportionalRefused}
use Rattle.sg_apery.proofs.ModularLemmas.{modular-faults}
use Rattle.sg_apery.proofs.table.Table.modular.Goals as goal

pub returns-clause-generated : goal.returns-clause-generated
returns-clause-generated c =
    let P = IsModular c.args.a c.args.b in
    let Q = IsProportional c.args.a c.args.b 1 in
    IfOk-weaker c.prop_modular.result (λ m. Generates Q m) (λ m. Generates P m) (generates-iff P Q (modular-proportional c.args.a c.args.b)) c.prop_modular.ensures.generated

pub returns-clause-refused : goal.returns-clause-refused
returns-clause-refused c =
    IfErr-weaker c.prop_modular.result (IsProportionalRefused c.args.a c.args.b 1) (IsModularRefused c.args.a c.args.b) (modular-faults c.args.a c.args.b) c.prop_modular.ensures.refused
