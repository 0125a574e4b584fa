use Rattle.std.proofs.Common.{◌≡◌, ap, ◌∙◌}
use Rattle.std.specs.Int.{w64}
use mir.Val.{to_z, of_z}
use Rattle.std.proofs.lemmas.Int.{to_z-of_z}
use Rattle.sg_value.specs.Data.{int}
use Rattle.sg_value.specs.Known.{Known, named}
use Rattle.sg_value.specs.Plain.{plain}
use Rattle.sg_value.specs.declared.value.Value.TheVariants as value
use Rattle.sg_rows.proofs.Replying.{contents-Int}
use Rattle.sg_eval.specs.State.{values_of, AreKnownIn}
use Rattle.sg_meaning.specs.Vars.{with_value}
use Rattle.sg_eval.proofs.AtOnce.{on_ok, integer_set, is_integer_known}
use Rattle.sg_eval.proofs.Named.{values-set_at, known-set_at}
use Rattle.sg_eval.proofs.variables.set_integer.Goals as goal

pub returns-in-Some-clause-ok : goal.returns-in-Some-clause-ok
returns-in-Some-clause-ok c = λ names.
    let e = c.in-Some.ensures.named in
    let v = c.put_integer.new.value in
    let vs = c.args.variables.now.entries in
    let x = c.args.name.now in
    integer_set names v c.args.z x (values_of names vs) _ (c.put_integer.ensures ∙ ap int (to_z-of_z w64 c.args.z c.ranges.z))
    (values-set_at names x vs c.in-Some.place e.0 v c.get_index_mut.ensures.unique e.1 e.2)

pub returns-in-Some-clause-known : goal.returns-in-Some-clause-known
returns-in-Some-clause-known c = λ names all.
    let e = c.in-Some.ensures.named in
    let v = c.put_integer.new.value in
    known-set_at names c.args.variables.now.entries c.in-Some.place e.0 v c.get_index_mut.ensures.unique e.1 all
    (is_integer_known (named names) v c.args.z (c.put_integer.ensures ∙ ap int (to_z-of_z w64 c.args.z c.ranges.z)))

pub returns-clause-ok : goal.returns-clause-ok
returns-clause-ok c =
    let z = to_z w64 (of_z w64 c.args.z) in
    let vs = c.args.variables.now.entries in
    let ws = c.set.new.variables.entries in
    let x = c.args.name.now in
    on_ok c.set.result ((names : Known) → values_of names ws ≡ with_value x (plain (named names) (value.Int z)) (values_of names vs)) ((names : Known) → values_of names ws ≡ with_value x (int c.args.z) (values_of names vs))
    (λ h names. integer_set names (value.Int z) c.args.z x (values_of names vs) (values_of names ws) (contents-Int z ∙ ap int (to_z-of_z w64 c.args.z c.ranges.z)) (h names)) c.set.ensures.ok

pub returns-clause-known : goal.returns-clause-known
returns-clause-known c =
    let z = to_z w64 (of_z w64 c.args.z) in
    let vs = c.args.variables.now.entries in
    let ws = c.set.new.variables.entries in
    on_ok c.set.result _ ((names : Known) → AreKnownIn names vs → AreKnownIn names ws)
    (λ h names all. h names all (is_integer_known (named names) (value.Int z) z (contents-Int z))) c.set.ensures.known
