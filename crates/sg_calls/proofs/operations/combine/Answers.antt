use Rattle.std.proofs.Common.{◌≡◌, Ok, not, refl, sym, subst}
use Rattle.sg_value.specs.Known.{named}
use Rattle.sg_value.specs.Plain.{plain}
use Rattle.sg_value.specs.declared.value.Value.TheVariants as value
use Rattle.sg_rows.specs.Replies.{Replies}
use Rattle.sg_rows.proofs.Replying.{replies_truth, decides_not}
use Rattle.sg_calls.specs.After.{Asks}
use Rattle.sg_calls.specs.Operations.{operation, of_integers}
use Rattle.sg_calls.specs.declared.operator.Operator.TheVariants.{Plus, Less, Mod, Lt, Le, Gt, Ge}
use Rattle.sg_calls.proofs.EarlyLemmas.{all_asked, asked_none}
use Rattle.sg_calls.proofs.NoLate.{operation_late, of_integers_early}
use Rattle.sg_calls.proofs.operations.combine.Goals as goal

pub returns-in-Eq-clause-reply : goal.returns-in-Eq-clause-reply
returns-in-Eq-clause-reply c =
    let store = c.args.store.now.ids in
    let a = plain (named store) c.args.a.now in
    let b = plain (named store) c.args.b.now in
    let same = c.equal.result in
    subst (λ op. Replies (Ok (value.Bool same)) store (operation c.args.budget op a b)) (sym c.in-Eq.is) (replies_truth store same (value.Bool same) (a ≡ b) refl c.equal.ensures)

pub returns-in-Ne-clause-reply : goal.returns-in-Ne-clause-reply
returns-in-Ne-clause-reply c =
    let store = c.args.store.now.ids in
    let a = plain (named store) c.args.a.now in
    let b = plain (named store) c.args.b.now in
    let differ = not c.equal-in-Ne.result in
    subst (λ op. Replies (Ok (value.Bool differ)) store (operation c.args.budget op a b)) (sym c.in-Ne.is) (replies_truth store differ (value.Bool differ) (a ≡ b → ⊥) refl (decides_not c.equal-in-Ne.result (a ≡ b) c.equal-in-Ne.ensures))

pub returns-in-Plus-clause-asks : goal.returns-in-Plus-clause-asks
returns-in-Plus-clause-asks c =
    let n = c.args.budget in
    let names = named c.args.store.now.ids in
    let a = plain names c.args.a.now in
    let b = plain names c.args.b.now in
    let r = c.plus.result in
    let old = c.args.store.now.attributes in
    let new = c.plus.new.store.attributes in
    subst (λ op. Asks r (operation n op a b) old new) (sym c.in-Plus.is) (all_asked r c.plus.new.store.ids (operation n Plus a b) old new (operation_late n Plus a b) c.plus.ensures.reply c.plus.ensures.asked)

pub returns-in-Less-clause-asks : goal.returns-in-Less-clause-asks
returns-in-Less-clause-asks c =
    let n = c.args.budget in
    let names = named c.args.store.now.ids in
    let a = plain names c.args.a.now in
    let b = plain names c.args.b.now in
    let r = c.less.result in
    let old = c.args.store.now.attributes in
    let new = c.less.new.store.attributes in
    subst (λ op. Asks r (operation n op a b) old new) (sym c.in-Less.is) (all_asked r c.less.new.store.ids (operation n Less a b) old new (operation_late n Less a b) c.less.ensures.reply c.less.ensures.asked)

pub returns-in-Mod-clause-reply : goal.returns-in-Mod-clause-reply
returns-in-Mod-clause-reply c =
    let names = named c.args.store.now.ids in
    let a = plain names c.args.a.now in
    let b = plain names c.args.b.now in
    subst (λ op. Replies c.on_integers.result c.args.store.now.ids (operation c.args.budget op a b)) (sym c.in-Mod.is) (c.on_integers.ensures c.args.store.now.ids)

pub returns-in-Mod-clause-asks : goal.returns-in-Mod-clause-asks
returns-in-Mod-clause-asks c =
    let n = c.args.budget in
    let names = named c.args.store.now.ids in
    let a = plain names c.args.a.now in
    let b = plain names c.args.b.now in
    let r = c.on_integers.result in
    let kept = c.args.store.now.attributes in
    subst (λ op. Asks r (operation n op a b) kept kept) (sym c.in-Mod.is)
    (all_asked r c.args.store.now.ids (operation n Mod a b) kept kept (operation_late n Mod a b) (c.on_integers.ensures c.args.store.now.ids) (asked_none r (of_integers Mod a b) kept (of_integers_early Mod a b)))

pub returns-in-Lt-clause-reply : goal.returns-in-Lt-clause-reply
returns-in-Lt-clause-reply c =
    let names = named c.args.store.now.ids in
    let a = plain names c.args.a.now in
    let b = plain names c.args.b.now in
    subst (λ op. Replies c.on_integers-in-Lt.result c.args.store.now.ids (operation c.args.budget op a b)) (sym c.in-Lt.is) (c.on_integers-in-Lt.ensures c.args.store.now.ids)

pub returns-in-Lt-clause-asks : goal.returns-in-Lt-clause-asks
returns-in-Lt-clause-asks c =
    let n = c.args.budget in
    let names = named c.args.store.now.ids in
    let a = plain names c.args.a.now in
    let b = plain names c.args.b.now in
    let r = c.on_integers-in-Lt.result in
    let kept = c.args.store.now.attributes in
    subst (λ op. Asks r (operation n op a b) kept kept) (sym c.in-Lt.is)
    (all_asked r c.args.store.now.ids (operation n Lt a b) kept kept (operation_late n Lt a b) (c.on_integers-in-Lt.ensures c.args.store.now.ids) (asked_none r (of_integers Lt a b) kept (of_integers_early Lt a b)))

pub returns-in-Le-clause-reply : goal.returns-in-Le-clause-reply
returns-in-Le-clause-reply c =
    let names = named c.args.store.now.ids in
    let a = plain names c.args.a.now in
    let b = plain names c.args.b.now in
    subst (λ op. Replies c.on_integers-in-Le.result c.args.store.now.ids (operation c.args.budget op a b)) (sym c.in-Le.is) (c.on_integers-in-Le.ensures c.args.store.now.ids)

pub returns-in-Le-clause-asks : goal.returns-in-Le-clause-asks
returns-in-Le-clause-asks c =
    let n = c.args.budget in
    let names = named c.args.store.now.ids in
    let a = plain names c.args.a.now in
    let b = plain names c.args.b.now in
    let r = c.on_integers-in-Le.result in
    let kept = c.args.store.now.attributes in
    subst (λ op. Asks r (operation n op a b) kept kept) (sym c.in-Le.is)
    (all_asked r c.args.store.now.ids (operation n Le a b) kept kept (operation_late n Le a b) (c.on_integers-in-Le.ensures c.args.store.now.ids) (asked_none r (of_integers Le a b) kept (of_integers_early Le a b)))

pub returns-in-Gt-clause-reply : goal.returns-in-Gt-clause-reply
returns-in-Gt-clause-reply c =
    let names = named c.args.store.now.ids in
    let a = plain names c.args.a.now in
    let b = plain names c.args.b.now in
    subst (λ op. Replies c.on_integers-in-Gt.result c.args.store.now.ids (operation c.args.budget op a b)) (sym c.in-Gt.is) (c.on_integers-in-Gt.ensures c.args.store.now.ids)

pub returns-in-Gt-clause-asks : goal.returns-in-Gt-clause-asks
returns-in-Gt-clause-asks c =
    let n = c.args.budget in
    let names = named c.args.store.now.ids in
    let a = plain names c.args.a.now in
    let b = plain names c.args.b.now in
    let r = c.on_integers-in-Gt.result in
    let kept = c.args.store.now.attributes in
    subst (λ op. Asks r (operation n op a b) kept kept) (sym c.in-Gt.is)
    (all_asked r c.args.store.now.ids (operation n Gt a b) kept kept (operation_late n Gt a b) (c.on_integers-in-Gt.ensures c.args.store.now.ids) (asked_none r (of_integers Gt a b) kept (of_integers_early Gt a b)))

pub returns-in-Ge-clause-reply : goal.returns-in-Ge-clause-reply
returns-in-Ge-clause-reply c =
    let names = named c.args.store.now.ids in
    let a = plain names c.args.a.now in
    let b = plain names c.args.b.now in
    subst (λ op. Replies c.on_integers-in-Ge.result c.args.store.now.ids (operation c.args.budget op a b)) (sym c.in-Ge.is) (c.on_integers-in-Ge.ensures c.args.store.now.ids)

pub returns-in-Ge-clause-asks : goal.returns-in-Ge-clause-asks
returns-in-Ge-clause-asks c =
    let n = c.args.budget in
    let names = named c.args.store.now.ids in
    let a = plain names c.args.a.now in
    let b = plain names c.args.b.now in
    let r = c.on_integers-in-Ge.result in
    let kept = c.args.store.now.attributes in
    subst (λ op. Asks r (operation n op a b) kept kept) (sym c.in-Ge.is)
    (all_asked r c.args.store.now.ids (operation n Ge a b) kept kept (operation_late n Ge a b) (c.on_integers-in-Ge.ensures c.args.store.now.ids) (asked_none r (of_integers Ge a b) kept (of_integers_early Ge a b)))
