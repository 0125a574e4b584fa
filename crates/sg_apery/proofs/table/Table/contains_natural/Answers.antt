use Rattle.std.proofs.Common.{◌≡◌, ◌%◌, length, get_or, subst, ◌∙◌, rules}
use Rattle.std.specs.Prelude.{vec_len}
use Rattle.std.proofs.lemmas.Bool.{leb-true, le-leb}
use Rattle.sg_classes.specs.Table.{IsTable}
use Rattle.sg_classes.proofs.TableLemmas.{contains-natural}
use Rattle.sg_apery.proofs.table.Table.contains_natural.Goals as goal

pub returns : goal.returns
returns c =
    let items = c.self.inside.apery.items in
    let w = c.index.result.now in
    let table : IsTable c.args.self.now items = subst (λ g. IsTable g items) c.self.view_is c.self.invariant.table in
    let len : vec_len c.self.inside.apery ≡ length items = search rules in
    let both = contains-natural c.args.self.now items c.args.n w table (subst (λ m. w ≡ get_or items (c.args.n % m) w) (c.len.ensures ∙ len) c.index.ensures) in
    ((λ h. both.0 (leb-true w c.args.n h)), (λ q. le-leb w c.args.n (both.1 q)))
