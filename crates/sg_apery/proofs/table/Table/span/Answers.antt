use Rattle.std.proofs.Common.{◌≡◌, ◌-◌, length, get_or, ap, subst, ◌∙◌}
use Rattle.sg_classes.specs.Entries.{IsGreatest}
use Rattle.sg_classes.specs.Table.{IsMinimalTable}
use Rattle.sg_apery.proofs.SpanLemmas.{span-from_greatest}
use Rattle.sg_apery.proofs.table.Table.span.Goals as goal

pub returns : goal.returns
returns c =
    let minimal = c.args.self.now in
    let items = c.self.inside.apery.items in
    let generators = c.as_slice-generators.result.now in
    let table : IsMinimalTable minimal items = subst (λ g. IsMinimalTable g items) c.self.view_is c.self.invariant in
    let top : IsGreatest items c.greatest.result = subst (λ xs. IsGreatest xs c.greatest.result) c.deref.ensures.value c.greatest.ensures in
    let same : generators ≡ minimal = c.as_slice-generators.ensures ∙ c.self.view_is in
    span-from_greatest minimal items c.greatest.result (get_or generators (length generators - 1) 0) table top (ap (λ xs. get_or xs (length xs - 1) 0) same)
