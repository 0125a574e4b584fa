use Rattle.std.proofs.Common.{◌≡◌, ℕ, ◌↔◌, ◌∙◌, length, sym, subst, rules}
use Rattle.sg_classes.specs.Classes.{IsAboveEntry, IsKunz, IsLoweredBy}
use Rattle.sg_classes.proofs.LoweredLemmas.{writes-back}
use Rattle.sg_small.specs.Sets.{IsInSmall}
use Rattle.sg_small.proofs.LeastLemmas.{small-least_kunz, small-least_same}
use Rattle.sg_small.proofs.least.least_list.Goals as goal

pub returns-clause-kunz : goal.returns-clause-kunz
returns-clause-kunz c =
    let list = c.args.list.now in
    let items = c.in_ok-table.table.items in
    let t = c.lower_all.new.table in
    let h : IsLoweredBy list items t (length list) = subst (λ o. IsLoweredBy list o t (length list)) c.deref_mut.ensures.value c.lower_all.ensures in
    let len : c.in_ok-table.table.len ≡ length items = search rules in
    subst IsKunz (sym (writes-back t items c.in_ok-table.table.len (len ∙ sym h.long)))
    (small-least_kunz list c.requires.list items t c.args.modulus c.requires.closed c.requires.positive c.requires.modulus c.in_ok-table.ensures h)

pub returns-clause-same : goal.returns-clause-same
returns-clause-same c =
    let list = c.args.list.now in
    let items = c.in_ok-table.table.items in
    let t = c.lower_all.new.table in
    let h : IsLoweredBy list items t (length list) = subst (λ o. IsLoweredBy list o t (length list)) c.deref_mut.ensures.value c.lower_all.ensures in
    let len : c.in_ok-table.table.len ≡ length items = search rules in
    subst (λ o. (n : ℕ) → IsInSmall list n ↔ IsAboveEntry o n) (sym (writes-back t items c.in_ok-table.table.len (len ∙ sym h.long)))
    (small-least_same list c.requires.list items t c.args.modulus c.requires.closed c.requires.positive c.requires.modulus c.in_ok-table.ensures h)
