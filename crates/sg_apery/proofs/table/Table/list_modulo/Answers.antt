use Rattle.std.proofs.Common.{◌≡◌, length, sym, subst, ◌∙◌, rules}
use Rattle.std.specs.Prelude.{vec_len}
use Rattle.std.proofs.lemmas.Result.{IfOk-weaker}
use Rattle.sg_classes.specs.Table.{IsMinimalTable, IsTable}
use Rattle.sg_classes.proofs.EntryLemmas.{table-apery}
use Rattle.sg_tables.specs.Modulus.{AreFirst}
use Rattle.sg_tables.proofs.ModulusLemmas.{adds-member, first-fits}
use Rattle.sg_apery.proofs.table.Table.list_modulo.Goals as goal
use Rattle.sg_apery.proofs.table.Table.list_modulo.Goals.{After-deref}

-- the table that is read
own : (c : After-deref) → IsMinimalTable c.args.self.now c.deref.result.now
own c = subst (IsMinimalTable c.args.self.now) (sym c.deref.ensures.value) (subst (λ g. IsMinimalTable g c.self.inside.apery.items) c.self.view_is c.self.invariant)

pub list_modulo-requires-clause-not_empty : goal.list_modulo-requires-clause-not_empty
list_modulo-requires-clause-not_empty c = (own c).table.not_empty

pub list_modulo-requires-clause-adds : goal.list_modulo-requires-clause-adds
list_modulo-requires-clause-adds c = adds-member c.args.self.now c.deref.result.now c.args.modulus (table-apery c.args.self.now c.deref.result.now (own c).table) c.requires.modulus

pub list_modulo-requires-clause-small : goal.list_modulo-requires-clause-small
list_modulo-requires-clause-small c = (own c).table.small

pub returns-clause-table : goal.returns-clause-table
returns-clause-table c =
    let t = c.deref.result.now in
    let n = c.args.modulus in
    let h : IsMinimalTable c.args.self.now t = subst (IsMinimalTable c.args.self.now) (sym c.deref.ensures.value) (subst (λ g. IsMinimalTable g c.self.inside.apery.items) c.self.view_is c.self.invariant) in
    IfOk-weaker c.list_modulo.result (λ l. AreFirst t n l.items n) (λ l. IsTable c.args.self.now l.items)
    (λ l f. first-fits c.args.self.now t l.items n (table-apery c.args.self.now t h.table) h.fit.small c.requires.modulus c.requires.positive c.requires.short f) c.list_modulo.ensures

pub returns-clause-length : goal.returns-clause-length
returns-clause-length c =
    let t = c.deref.result.now in
    let n = c.args.modulus in
    IfOk-weaker c.list_modulo.result (λ l. AreFirst t n l.items n) (λ l. vec_len l ≡ n)
    (λ l f. let len : vec_len l ≡ length l.items = search rules in len ∙ f.long) c.list_modulo.ensures
