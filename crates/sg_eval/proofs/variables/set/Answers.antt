use Rattle.std.proofs.Common.{ap, sym, ◌∙◌, subst}
use Rattle.sg_value.specs.Known.{named}
use Rattle.sg_eval.specs.State.{values_of, AreKnownIn}
use Rattle.sg_meaning.specs.Vars.{with_value}
use Rattle.sg_value.specs.Plain.{plain}
use Rattle.sg_eval.proofs.Named.{values-set, values-insert, values-set_at, known-set, known-insert, known-set_at}
use Rattle.sg_eval.proofs.variables.set.Goals as goal

pub returns-in-Some-clause-ok : goal.returns-in-Some-clause-ok
returns-in-Some-clause-ok c = λ names.
    let e = c.in-Some.ensures.named in
    values-set_at names c.args.name.now c.args.variables.now.entries c.in-Some.place e.0 c.args.value c.get_index_mut.ensures.unique e.1 e.2

pub returns-in-Some-clause-known : goal.returns-in-Some-clause-known
returns-in-Some-clause-known c = λ names all h.
    let e = c.in-Some.ensures.named in
    known-set_at names c.args.variables.now.entries c.in-Some.place e.0 c.args.value c.get_index_mut.ensures.unique e.1 all h

pub returns-in-Some-get_mut-clause-ok : goal.returns-in-Some-get_mut-clause-ok
returns-in-Some-get_mut-clause-ok c = λ names.
    ap (values_of names) (c.get_mut.follows.holds c.args.value).0 ∙ values-set names c.args.name.now c.args.variables.now.entries _ c.args.value c.in-Some-get_mut.ensures.value

pub returns-in-Some-get_mut-clause-known : goal.returns-in-Some-get_mut-clause-known
returns-in-Some-get_mut-clause-known c = λ names all h.
    subst (AreKnownIn names) (sym (c.get_mut.follows.holds c.args.value).0) (known-set names c.args.name.now c.args.variables.now.entries c.args.value all h)

pub returns-clause-ok : goal.returns-clause-ok
returns-clause-ok c = λ names.
    let vs = c.args.variables.now.entries in
    let k = c.in_ok-to_vec.field-0 in
    let v = c.args.value in
    ap (values_of names) c.in_ok-insert.ensures.entries
    ∙ (rw c.get_mut.follows.holds-at-none (values-insert names k vs v) ∙ ap (λ x. with_value x (plain (named names) v) (values_of names vs)) (c.in_ok-to_vec.ensures.items_if_clones_equal (λ x y e. e)))

pub returns-clause-known : goal.returns-clause-known
returns-clause-known c = λ names all h. subst (AreKnownIn names) (sym c.in_ok-insert.ensures.entries) (rw c.get_mut.follows.holds-at-none (known-insert names c.in_ok-to_vec.field-0 c.args.variables.now.entries c.args.value all h))
