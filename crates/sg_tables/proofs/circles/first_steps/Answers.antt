use Rattle.std.proofs.Common.{◌≡◌, ◌+◌, ◌*◌, ◌%◌, ap, sym, ◌∙◌, length, inr}
use Rattle.sg_tables.proofs.CircleLemmas.{class-after, followed-more, followed-still, lowered_on-more, step-class}
use Rattle.sg_tables.proofs.circles.first_steps.Goals as goal

pub lower-requires-clause-target : goal.lower-requires-clause-target
lower-requires-clause-target c =
    step-class (length c.loop.table) c.loop.at c.args.generator (c.args.generator % length c.args.table.now) c.next_class-next.result
    (ap (λ n. c.args.generator % n) (sym c.loop.auto.table)) c.next_class-next.ensures

pub loop-preserved : goal.loop-preserved
loop-preserved c =
    let g = c.args.generator in
    let r = c.args.start in
    let j = c.loop.counter in
    let t = c.loop.table in
    let u = c.lower.new.table in
    let i = c.loop.at in
    let k = c.next_class-next.result in
    let before = c.loop.invariant in
    let long : length u ≡ length t = c.lower.auto.table in
    let target : k ≡ (i + g) % length t = step-class (length t) i g (g % length c.args.table.now) k (ap (λ n. g % n) (sym c.loop.auto.table)) c.next_class-next.ensures in
    let at : k ≡ (r + (j + 1) * g) % length t = target ∙ class-after (length t) r j g i before.at in
    let still = followed-still g i k t u long target c.lower.ensures.down c.lower.ensures.others r j c.lower.ensures.closed before.followed in
    record {
      long = long ∙ before.long;
      at = at ∙ ap (λ n. (r + (j + 1) * g) % n) (sym long);
      known = λ M member known. c.lower.ensures.known M member (before.known M member known);
      lowered = lowered_on-more g r (j + 1) k c.args.table.now t u before.lowered long (at ∙ ap (λ n. (r + (j + 1) * g) % n) before.long) c.lower.ensures.down c.lower.ensures.others;
      followed = followed-more u g r j i k (before.at ∙ ap (λ n. (r + j * g) % n) (sym long)) still (inr c.lower.ensures.closed);
    }
