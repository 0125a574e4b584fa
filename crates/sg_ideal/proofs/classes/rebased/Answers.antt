use Rattle.std.proofs.Common.{◌≡◌, ℕ, ◌+◌, ◌↔◌, ◌∙◌, length, sym, ap, subst, arith}
use Rattle.sg_classes.specs.Classes.{IsAboveEntry}
use Rattle.sg_classes.proofs.LoweredLemmas.{writes-back}
use Rattle.sg_ideal.specs.Classes.{IsRebased}
use Rattle.sg_ideal.proofs.ReduceLemmas.{rebased-narrowed}
use Rattle.sg_ideal.proofs.classes.rebased.Goals as goal

pub returns : goal.returns
returns c =
    let t = c.args.entries.now in
    let items = c.in_ok-list.list.items in
    let new = c.narrow.new.entries in
    let b = c.args.by in
    let value : c.deref_mut.result.now ≡ items = c.deref_mut.ensures.value in
    let every = c.in_ok-list.ensures in
    let long : length new ≡ length items = c.narrow.ensures.long ∙ ap length value in
    let len : c.in_ok-list.list.len ≡ length new = omega arith in
    let written = writes-back new items c.in_ok-list.list.len len in
    let same : (n : ℕ) → IsAboveEntry new n ↔ (IsAboveEntry items n × IsAboveEntry t (n + b)) =
    subst (λ l. (n : ℕ) → IsAboveEntry new n ↔ (IsAboveEntry l n × IsAboveEntry t (n + b))) value c.narrow.ensures.same in
    subst (IsRebased t b) (sym written) (rebased-narrowed t items new b (length t) c.requires.not_empty every long every.long c.narrow.ensures.classes same)
