use Rattle.std.proofs.Common.{◌≡◌, ◌+◌, ◌<◌, subst, arith}
use Rattle.sg_defs.specs.Listings.{Lists}
use Rattle.sg_small.specs.Modular.{IsProportional}
use Rattle.sg_small.proofs.FundamentalLemmas.{not_true}
use Rattle.sg_classes.proofs.ListingLemmas.{lists-skip, lists-push}
use Rattle.sg_small.proofs.ListedLemmas.{listed-small, listed-same}
use Rattle.sg_small.proofs.ModularLemmas.{proportional-zero, proportional-above, proportional-reduced}
use Rattle.sg_small.proofs.modular.members_up_to.Goals as goal
use Rattle.sg_small.proofs.modular.members_up_to.Goals.{then-is_proportional+in_ok-push, else-is_proportional}

pub loop-x-preserved : goal.loop-x-preserved
loop-x-preserved c =
    let a = c.args.a in
    let b = c.args.b in
    let P = IsProportional a b c.args.c in
    let list = c.loop-x.list.items in
    let x = c.loop-x.x in
    elim c.if-is_proportional.branch [
      | then-is_proportional+in_ok-push w ↦
          rw (w.list-is, w.in_ok-push.ensures.items) (lists-push P x list ((proportional-reduced a b c.args.c x).0 (c.is_proportional.ensures.0 w.if-is_proportional.true)) c.loop-x.invariant)
      | else-is_proportional w ↦
          rw w.list-is (lists-skip P x list (λ p. not_true c.is_proportional.result w.if-is_proportional.false (c.is_proportional.ensures.1 ((proportional-reduced a b c.args.c x).1 p))) c.loop-x.invariant)
    ]

pub returns-clause-list : goal.returns-clause-list
returns-clause-list c =
    let a = c.args.a in
    let b = c.args.b in
    let P = IsProportional a b c.args.c in
    let e : c.loop-x.x ≡ b + 1 = omega (arith, c.loop-x-test.false, c.loop-x.auto.x-end) in
    listed-small P b c.loop-x.list.items (proportional-zero a b c.args.c c.requires.modulus) (λ x l. proportional-above a b c.args.c x c.requires.modulus c.requires.factor l)
    (subst (λ n. Lists (λ x. (x < n) × P x) c.loop-x.list.items) e c.loop-x.invariant)

pub returns-clause-same : goal.returns-clause-same
returns-clause-same c =
    let a = c.args.a in
    let b = c.args.b in
    let P = IsProportional a b c.args.c in
    let e : c.loop-x.x ≡ b + 1 = omega (arith, c.loop-x-test.false, c.loop-x.auto.x-end) in
    listed-same P b c.loop-x.list.items (proportional-zero a b c.args.c c.requires.modulus) (λ x l. proportional-above a b c.args.c x c.requires.modulus c.requires.factor l)
    (subst (λ n. Lists (λ x. (x < n) × P x) c.loop-x.list.items) e c.loop-x.invariant)
