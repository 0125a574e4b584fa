use Rattle.std.proofs.Common.{◌≡◌, ◌+◌, ◌*◌, ◌%◌, ap, sym, subst, refl, ◌∙◌, length}
use Rattle.sg_tables.specs.Circles.{IsFollowedBut}
use Rattle.sg_tables.proofs.CircleLemmas.{class-after, followed-all, followed-still, lowered_on-more, lowered_on-none, step-class}
use Rattle.sg_tables.proofs.circles.steps_on.Goals as goal

pub loop-at-init : goal.loop-at-init
loop-at-init c = record {
  long = refl;
  at = (c.args.steps, c.requires.from);
  next = step-class (length c.args.table.now) c.args.from c.args.generator (c.args.generator % length c.args.table.now) c.next_class-next.result refl c.next_class-next.ensures;
  known = λ M member known. known;
  lowered = lowered_on-none c.args.generator c.args.start c.args.table.now;
  followed = c.requires.followed;
}

pub loop-at-preserved : goal.loop-at-preserved
loop-at-preserved c =
    let g = c.args.generator in
    let r = c.args.start in
    let t = c.loop-at.table in
    let u = c.lower.new.table in
    let i = c.loop-at.at in
    let k = c.loop-at.next in
    let before = c.loop-at.invariant in
    let j = before.at.0 in
    let long : length u ≡ length t = c.lower.auto.table in
    let at : k ≡ (r + (j + 1) * g) % length t = before.next ∙ class-after (length t) r j g i before.at.1 in
    record {
      long = long ∙ before.long;
      at = (j + 1, at ∙ ap (λ n. (r + (j + 1) * g) % n) (sym long));
      next = step-class (length u) k g (g % length c.args.table.now) c.next_class-next-in-loop-at.result (ap (λ n. g % n) (sym (long ∙ before.long))) c.next_class-next-in-loop-at.ensures;
      known = λ M member known. c.lower.ensures.known M member (before.known M member known);
      lowered = lowered_on-more g r (j + 1) k c.args.table.now t u before.lowered long (at ∙ ap (λ n. (r + (j + 1) * g) % n) before.long) c.lower.ensures.down c.lower.ensures.others;
      followed = followed-still g i k t u long before.next c.lower.ensures.down c.lower.ensures.others r c.args.steps c.lower.ensures.closed before.followed;
    }

pub returns-clause-known : goal.returns-clause-known
returns-clause-known c = λ M member known. c.lower.ensures.known M member (c.loop-at.invariant.known M member known)

pub returns-clause-followed : goal.returns-clause-followed
returns-clause-followed c =
    let u = c.lower.new.table in
    let same : u ≡ c.loop-at.table = c.lower.ensures.same c.loop-at-test.false in
    followed-all u c.args.generator c.args.start c.args.steps c.loop-at.at
    (subst (λ t. IsFollowedBut t c.args.generator c.args.start c.args.steps c.loop-at.at) (sym same) c.loop-at.invariant.followed) c.lower.ensures.closed
