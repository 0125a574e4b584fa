use Rattle.std.proofs.Common.{ℕ, ◌↔◌, ◌∙◌, refl}
use Rattle.std.proofs.lemmas.Result.{IfOk-weaker}
use Rattle.sg_defs.specs.Apery.{IsApery}
use Rattle.sg_classes.specs.Classes.{IsAboveEntry, IsKunz}
use Rattle.sg_classes.proofs.TableLemmas.{table-modulo}
use Rattle.sg_apery.specs.Common.{AreGreaterEntries}
use Rattle.sg_apery.specs.Conditions.{IsInBoth}
use Rattle.sg_apery.proofs.CommonLemmas.{greater-kunz, greater-member}
use Rattle.sg_apery.proofs.derived.common_list.Goals as goal
use Rattle.sg_apery.proofs.derived.common_list.Goals.{After-drop-first-2}

first : (c : After-drop-first-2) → IsApery c.args.a.now c.args.modulus c.deref.result.now
first c = table-modulo c.args.a.now c.args.a.now c.deref.result.now c.in_ok-first.first.items c.args.modulus refl c.deref.ensures.value (c.deref.ensures.len ∙ c.in_ok-first.ensures.length) c.in_ok-first.ensures.table

second : (c : After-drop-first-2) → IsApery c.args.b.now c.args.modulus c.deref-2.result.now
second c = table-modulo c.args.b.now c.args.b.now c.deref-2.result.now c.in_ok-second.second.items c.args.modulus refl c.deref-2.ensures.value (c.deref-2.ensures.len ∙ c.in_ok-second.ensures.length) c.in_ok-second.ensures.table

pub returns-clause-kunz : goal.returns-clause-kunz
returns-clause-kunz c =
    IfOk-weaker c.greater_entries.result (λ list. AreGreaterEntries c.deref.result.now c.deref-2.result.now list.items) (λ list. IsKunz list.items)
    (λ list g. greater-kunz c.args.a.now c.args.b.now c.deref.result.now c.deref-2.result.now list.items c.args.modulus
    c.requires.positive c.requires.first c.requires.second (first c) (second c) g) c.greater_entries.ensures

pub returns-clause-same : goal.returns-clause-same
returns-clause-same c =
    IfOk-weaker c.greater_entries.result (λ list. AreGreaterEntries c.deref.result.now c.deref-2.result.now list.items) (λ list. (x : ℕ) → IsInBoth c.args.a.now c.args.b.now x ↔ IsAboveEntry list.items x)
    (λ list g. greater-member c.args.a.now c.args.b.now c.deref.result.now c.deref-2.result.now list.items c.args.modulus
    c.requires.positive c.requires.first c.requires.second (first c) (second c) g) c.greater_entries.ensures
