use Rattle.std.proofs.Common.{◌≡◌, ◌+◌, ◌^◌, ◌<◌, ◌%◌, arith, get_or, length, refl, set}
use Rattle.std.proofs.lemmas.List.{length-set, get_or-set_same, get_or-set_other}
use Rattle.sg_tables.proofs.CircleLemmas.{step-class}
use Rattle.sg_tables.proofs.FoundLemmas.{found-led, told-above, told-equal}
use Rattle.sg_tables.proofs.leads.lead.Goals as goal

pub returns-then-sum-entry-clause-told : goal.returns-then-sum-entry-clause-told
returns-then-sum-entry-clause-told c = λ e.
    let t = c.args.table.now in
    let n = length t in
    let g = c.args.generator in
    let k = c.next_class-target.result in
    let target = step-class n c.args.from g (g % n) k refl c.next_class-target.ensures in
    told-above t c.args.summands.now g c.args.from k target (omega (arith, c.if-sum-entry.true, c.in_ok-sum.ensures))

pub returns-then-sum-entry-2-clause-found : goal.returns-then-sum-entry-2-clause-found
returns-then-sum-entry-2-clause-found c = λ G listed f.
    let t = c.args.table.now in
    let n = length t in
    let g = c.args.generator in
    let k = c.next_class-target.result in
    let sum = c.in_ok-sum.sum in
    let target = step-class n c.args.from g (g % n) k refl c.next_class-target.ensures in
    let below : k < n = omega (arith, c.next_class-target.ensures) in
    let fits : get_or t c.args.from 0 + g < 2 ^ 64 = omega (arith, c.in_ok-sum.ensures) in
    let at : get_or (set t k sum) k 0 ≡ get_or t c.args.from 0 + g = omega (arith, get_or-set_same t k sum 0 below, c.in_ok-sum.ensures) in
    found-led G t c.args.summands.now (set t k sum) c.args.from k g f c.requires.after c.requires.from c.requires.positive listed target fits (length-set t k sum) at
    (omega (arith, c.if-sum-entry-2.true, c.in_ok-sum.ensures)) (λ j other. get_or-set_other t k j sum 0 other)

pub returns-then-summands-target-eq0-clause-found : goal.returns-then-summands-target-eq0-clause-found
returns-then-summands-target-eq0-clause-found c = λ G listed f.
    let t = c.args.table.now in
    let n = length t in
    let g = c.args.generator in
    let k = c.next_class-target.result in
    let target = step-class n c.args.from g (g % n) k refl c.next_class-target.ensures in
    let fits : get_or t c.args.from 0 + g < 2 ^ 64 = omega (arith, c.in_ok-sum.ensures) in
    let at : get_or t k 0 ≡ get_or t c.args.from 0 + g = omega (arith, c.if-sum-entry-2.false, c.if-sum-entry.false, c.in_ok-sum.ensures) in
    found-led G t c.args.summands.now t c.args.from k g f c.requires.after c.requires.from c.requires.positive listed target fits refl at
    (omega (arith, at)) (λ j other. refl)

pub returns-then-summands-target-eq0-clause-told : goal.returns-then-summands-target-eq0-clause-told
returns-then-summands-target-eq0-clause-told c = λ e.
    let t = c.args.table.now in
    let s = c.args.summands.now in
    let n = length t in
    let g = c.args.generator in
    let k = c.next_class-target.result in
    let target = step-class n c.args.from g (g % n) k refl c.next_class-target.ensures in
    let below : k < length s = omega (arith, c.next_class-target.ensures, c.requires.long) in
    told-equal t (set s k g) g c.args.from k target (omega (arith, c.if-sum-entry-2.false, c.if-sum-entry.false, c.in_ok-sum.ensures))
    (omega (arith, get_or-set_same s k g 0 below, c.requires.positive))

pub returns-else-summands-target-eq0-clause-told : goal.returns-else-summands-target-eq0-clause-told
returns-else-summands-target-eq0-clause-told c = λ e.
    let t = c.args.table.now in
    let n = length t in
    let g = c.args.generator in
    let k = c.next_class-target.result in
    let target = step-class n c.args.from g (g % n) k refl c.next_class-target.ensures in
    told-equal t c.args.summands.now g c.args.from k target (omega (arith, c.if-sum-entry-2.false, c.if-sum-entry.false, c.in_ok-sum.ensures))
    (omega (arith, c.if-summands-target-eq0.false))
