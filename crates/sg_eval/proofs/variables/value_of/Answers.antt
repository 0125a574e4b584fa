use Rattle.std.proofs.Common.{◌≡◌, Some, ap, ◌∙◌}
use Rattle.sg_eval.proofs.Named.{found_as, known_as, found_at}
use Rattle.sg_eval.proofs.variables.value_of.Goals as goal

pub returns-clause-found : goal.returns-clause-found
returns-clause-found c = λ names. found_as names c.args.name.now c.args.variables.now.entries c.get.result c.get.ensures.value

pub returns-clause-known : goal.returns-clause-known
returns-clause-known c = λ names all. known_as names c.args.name.now c.args.variables.now.entries c.get.result c.get.ensures.value all

pub returns-in-Some-get_index-clause-found : goal.returns-in-Some-get_index-clause-found
returns-in-Some-get_index-clause-found c = λ names.
    let e = c.in-Some.ensures.named in
    let key = c.in-Some-get_index.ensures.entry ∙ e.1 in
    let same : c.in-Some-get_index.field-0-0.now ≡ e.0.0 = cc key in
    found_as names c.args.name.now c.args.variables.now.entries (Some c.in-Some-get_index.value)
    (found_at names c.args.name.now c.args.variables.now.entries c.in-Some-get_index.field-0-0.now (Some c.in-Some-get_index.value.now) c.in-Some-get_index.ensures.value (ap (λ k. k.items) same ∙ e.2))

pub returns-in-Some-get_index-clause-known : goal.returns-in-Some-get_index-clause-known
returns-in-Some-get_index-clause-known c = λ names all.
    let e = c.in-Some.ensures.named in
    let key = c.in-Some-get_index.ensures.entry ∙ e.1 in
    let same : c.in-Some-get_index.field-0-0.now ≡ e.0.0 = cc key in
    known_as names c.args.name.now c.args.variables.now.entries (Some c.in-Some-get_index.value)
    (found_at names c.args.name.now c.args.variables.now.entries c.in-Some-get_index.field-0-0.now (Some c.in-Some-get_index.value.now) c.in-Some-get_index.ensures.value (ap (λ k. k.items) same ∙ e.2)) all
