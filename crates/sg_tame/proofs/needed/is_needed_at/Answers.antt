use Rattle.std.proofs.Common.{◌≡◌, ◌-◌, subst, arith}
use Rattle.sg_defs.specs.Membership.{IsMember}
use Rattle.sg_tame.specs.Needed.{IsInSomeAperySet}
use Rattle.sg_tame.proofs.needed.is_needed_at.Goals as goal

pub returns : goal.returns
returns c =
    let G = c.args.t.now in
    let v = c.args.v in
    let g = c.args.generator in
    let low = c.is_lowered.ensures.0 c.if-not-is_lowered.false in
    let rest : low.0 ≡ v - g = omega (arith, low.1) in (
      (λ h. (v - g, omega (arith, low.1), subst (IsMember G) rest low.2, c.is_in_some_apery_set.ensures.0 h)),
      (λ n. c.is_in_some_apery_set.ensures.1 (subst (IsInSomeAperySet G) (let e : n.0 ≡ v - g = omega (arith, n.1) in e) n.3)),
    )
